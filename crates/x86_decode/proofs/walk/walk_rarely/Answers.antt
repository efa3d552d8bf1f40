use Rattle.std.proofs.Common.{ap, ◌∙◌}
use Rattle.x86_decode.proofs.SliceLemmas.{at_start, slice_ok, slice_err}
use Rattle.x86_decode.proofs.WalkLemmas.{judged_first}
use Rattle.x86_decode.proofs.walk.walk_rarely.Goals as goal

pub returns-in-Ok : goal.returns-in-Ok
returns-in-Ok c = λ bytes within.
    let i = c.walk_within-result.new.inst in
    slice_ok c.args.strict bytes i c.offset-inst.result c.judgement.result _ _ (c.new.ensures ∙ ap at_start within)
    (rw c.in-Ok.is at c.walk_within-result.ensures) c.offset-inst.ensures.count (judged_first i c.judgement.result c.judgement.ensures)

pub returns-in-Err : goal.returns-in-Err
returns-in-Err c = λ bytes within.
    slice_err c.args.strict bytes _ c.in-Err.error c.error_at_limit.result _ _ within (c.new.ensures ∙ ap at_start within)
    (rw c.in-Err.is at c.walk_within-result.ensures) c.error_at_limit.ensures
