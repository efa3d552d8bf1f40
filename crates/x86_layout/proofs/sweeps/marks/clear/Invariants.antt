use Rattle.std.proofs.Common.{◌≡◌, ◌<◌, ◌&&◌, ℕ, not, nat_le, nat_lt, false, length, slice_index_or}
use Rattle.x86_layout.proofs.sweeps.marks.clear.Given as goal

abbrev pub invariant-loop-place : goal.invariant-loop-place
invariant-loop-place l = (p : ℕ) → p < length l.initial.marks →
    slice_index_or l.marks p false ≡ (slice_index_or l.initial.marks p false && not (nat_le l.from p && nat_lt p l.place))
