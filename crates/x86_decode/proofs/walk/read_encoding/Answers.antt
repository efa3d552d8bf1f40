use Rattle.std.proofs.Common.{rules, ◌≡◌, Err, [], ap, ◌∙◌}
use Rattle.x86_fields.specs.Steps.{then_from}
use Rattle.x86_forms.specs.Words.{rows_of}
use Rattle.x86_decode.specs.Walk.{body_placed, walk_placed}
use Rattle.x86_decode.proofs.HeadWalk.{begins}
use Rattle.x86_decode.proofs.walk.read_encoding.Goals as goal

pub returns-in_err-byte-clause-read : goal.returns-in_err-byte-clause-read
unfolding walk_placed
returns-in_err-byte-clause-read g c = λ strict.
    let r : c.from_residual.result ≡ Err c.in_err-byte.field-0.0 = search rules in
    rw r (ap (λ o. then_from o.answer o.after (λ h. body_placed (rows_of (g.W.Words.word c.args.rows.now)) strict h.0 h.1))
    (c.in_err-byte.ensures [] (ap (λ i. i.prefixes) c.requires) ∙ begins _))

pub returns-clause-read : goal.returns-clause-read
unfolding walk_placed
returns-clause-read g c = λ strict. c.read_body.ensures.read strict
    ∙ ap (λ o. then_from o.answer o.after (λ h. body_placed (rows_of (g.W.Words.word c.args.rows.now)) strict h.0 h.1))
    (c.in_ok-byte.ensures [] (ap (λ i. i.prefixes) c.requires) ∙ begins _)
