use Rattle.std.proofs.Common.{◌≡◌, ℕ, ◌+◌, ◌<◌, length, slice_index_or, Some}
use Rattle.x86_streams.specs.Text.{value_of}
use Rattle.x86_streams.proofs.text.pairs.digits_at.Given as goal

abbrev pub invariant-loop-i : goal.invariant-loop-i
invariant-loop-i l = record {
  len : length l.digits ≡ 32;
  digits : (k : ℕ) → k < l.i → slice_index_or l.digits k 0 < 16 → value_of (slice_index_or l.text (l.at + k) 0) ≡ Some (slice_index_or l.digits k 0);
}
