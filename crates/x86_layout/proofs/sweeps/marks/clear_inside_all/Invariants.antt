use Rattle.std.proofs.Common.{◌≡◌, ◌<◌, ◌&&◌, ℕ, not, false, length, slice_index_or}
use Rattle.std.specs.List.{list_any, All}
use Rattle.x86_layout.specs.Sweeps.Cuts.{cuts_of, IsWithin}
use Rattle.x86_layout.specs.Sweeps.Sweep.{cuts_left}
use Rattle.x86_layout.proofs.SweepLemmas.Place.{is_inside}
use Rattle.x86_layout.proofs.sweeps.marks.clear_inside_all.Given as goal

abbrev pub invariant-loop-cut : goal.invariant-loop-cut
invariant-loop-cut l =
    (goal.iterator-loop-cut).can_next l.cut-iterator ×
    (goal.iterator-loop-cut).is_finite l.cut-iterator ×
    All (IsWithin (length l.fn.bytes)) (cuts_left l.cut-iterator) ×
    ((p : ℕ) → p < length l.initial.marks → (slice_index_or l.marks p false && not (list_any (is_inside p) (cuts_left l.cut-iterator))) ≡
    (slice_index_or l.initial.marks p false && not (list_any (is_inside p) (cuts_of l.fn.decoder.strict l.fn.bytes))))
