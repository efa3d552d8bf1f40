use Rattle.std.proofs.Common.{Ok, ap, ◌∙◌}
use Rattle.x86_decode.proofs.SliceLemmas.{at_start, slice_ok}
use Rattle.x86_decode.proofs.WalkLemmas.{unlocked}
use Rattle.x86_decode.proofs.decoder.walk_beginning.Goals as goal

pub returns-in-Ok : goal.returns-in-Ok
returns-in-Ok c = λ bytes within.
    let i = c.read_plain.new.inst in
    slice_ok c.args.strict bytes i c.offset-inst.result (Ok tt) _ _ (c.new-reader.ensures ∙ ap at_start within)
    (c.in-Ok.ensures.read c.args.strict) c.offset-inst.ensures.count (unlocked i c.read_plain.ensures.no_lock)
