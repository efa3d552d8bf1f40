use Rattle.x86_forms.specs.Words.{rows_of}
use Rattle.std.proofs.Common.{Ok, Err, sym, ap, ◌∙◌}
use Rattle.x86_decode.specs.Walk.{placed_in}
use Rattle.x86_decode.proofs.WalkLemmas.{judged_first, walked, ends_judged, ends_refused}
use Rattle.x86_decode.proofs.walk.walk_bounded.Goals as goal

pub returns-in-Ok-clause-walked : goal.returns-in-Ok-clause-walked
returns-in-Ok-clause-walked g c =
    let b = c.offset-inst.new.self in
    let i = c.walk_within-result.new.inst in
    let w = walked (rows_of (g.W.Words.word c.args.rows.now)) c.args.strict (g.T.Reader.state c.args.reader.now)
    (g.T.Reader.state b.reader.now) b.allowed (Ok (placed_in i)) _ g.K.Start.state
    (rw c.in-Ok.is at c.walk_within-result.ensures) c.offset-inst.ensures.unmoved b.few b.moved c.requires.here c.requires.marked in
    ends_judged (rows_of (g.W.Words.word c.args.rows.now)) c.args.strict (g.T.Reader.state c.args.reader.now)
    (g.T.Reader.state b.reader.now) b.allowed c.offset-inst.result i c.judgement.result w
    (c.offset-inst.ensures.count ∙ sym (ap (λ s. s.since_mark) c.offset-inst.ensures.unmoved)) (judged_first i c.judgement.result c.judgement.ensures)

pub returns-in-Err-clause-walked : goal.returns-in-Err-clause-walked
returns-in-Err-clause-walked g c =
    let b = c.offset-inst.new.self in
    let w = walked (rows_of (g.W.Words.word c.args.rows.now)) c.args.strict (g.T.Reader.state c.args.reader.now)
    (g.T.Reader.state b.reader.now) b.allowed (Err c.in-Err.error) _ g.K.Start.state
    (rw c.in-Err.is at c.walk_within-result.ensures) c.offset-inst.ensures.unmoved b.few b.moved c.requires.here c.requires.marked in
    c.error_within.ensures ∙ ends_refused (rows_of (g.W.Words.word c.args.rows.now)) c.args.strict (g.T.Reader.state c.args.reader.now)
    (g.T.Reader.state b.reader.now) b.allowed c.in-Err.error w b.few
