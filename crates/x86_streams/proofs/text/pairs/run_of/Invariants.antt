use Rattle.std.proofs.Common.{ℕ, ◌-◌, ◌*◌, ◌<◌, ◌≤◌, slice_index_or}
use Rattle.x86_streams.proofs.text.pairs.run_of.Given as goal

abbrev pub invariant-loop-run : goal.invariant-loop-run
invariant-loop-run l = record { few : l.run ≤ 16; digits : (k : ℕ) → k < 2 * l.run → slice_index_or l.digits k 0 < 16 }

abbrev pub decreases-loop-run : goal.decreases-loop-run
decreases-loop-run l = 16 - l.run
