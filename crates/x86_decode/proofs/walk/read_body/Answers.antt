use Rattle.std.proofs.Common.{rules, ◌≡◌, Err, sym, ap, ◌∙◌}
use Rattle.x86_forms.specs.Words.{rows_of, unpack}
use Rattle.x86_decode.proofs.WordWalk.{refused_after, row_after}
use Rattle.x86_decode.proofs.walk.read_body.Goals as goal

pub returns-in_err-word : goal.returns-in_err-word
returns-in_err-word g c =
    let r : c.from_residual.result ≡ Err c.in_err-word.field-0.0 = search rules in
    rw r record {
      blank = tt;
      read = λ strict. refused_after
          (rows_of (g.W.Words.word c.args.rows.now)) strict c.args.byte c.args.inst.now.prefixes _ _ _ c.in_err-word.ensures;
    }

pub returns-in-None-clause-read : goal.returns-in-None-clause-read
returns-in-None-clause-read g c = λ strict. row_after
    (rows_of (g.W.Words.word c.args.rows.now)) strict c.args.byte c.args.inst.now.prefixes _ _ _ _ _ c.in_ok-word.ensures c.in-None.ensures

pub returns-in-Some-clause-read : goal.returns-in-Some-clause-read
returns-in-Some-clause-read g c = λ strict. c.read_row.ensures.read strict
    ∙ row_after (rows_of (g.W.Words.word c.args.rows.now)) strict c.args.byte c.args.inst.now.prefixes _ _ _ _ _ c.in_ok-word.ensures
    (ap unpack (sym c.in-Some.ensures) ∙ c.in-Some.found.of_word)
