use Rattle.std.proofs.Common.{◌≡◌, ℕ, ◌+◌, ◌*◌, ◌<◌, slice_index_or, true}
use Rattle.x86_streams.specs.Text.{is_blank}
use Rattle.x86_streams.proofs.text.pairs.are_spaced.Given as goal

abbrev pub invariant-loop-i : goal.invariant-loop-i
invariant-loop-i l = (k : ℕ) → k < l.i → is_blank (slice_index_or l.text (l.at + 3 * k + 2) 0) ≡ true
