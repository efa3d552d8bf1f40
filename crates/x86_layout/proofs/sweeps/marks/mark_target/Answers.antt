use Rattle.std.proofs.Common.{false, ◌||◌, slice_index_or, ap, ◌∙◌}
use Rattle.x86_layout.specs.Sweeps.Marks.{is_target}
use Rattle.x86_layout.proofs.SweepLemmas.Place.{marked}
use Rattle.x86_layout.proofs.sweeps.marks.mark_target.Goals as goal

pub returns-then-place-marks : goal.returns-then-place-marks
returns-then-place-marks c = λ p h.
    marked c.args.marks.now c.in-Some.place p c.if-place-marks.true
    ∙ ap (λ target. slice_index_or c.args.marks.now p false || is_target p target) c.in-Some.ensures
