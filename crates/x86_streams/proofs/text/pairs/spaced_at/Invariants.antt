use Rattle.std.proofs.Common.{◌≡◌, length}
use Rattle.x86_streams.proofs.TextLemmas.Spells.{ArePairs}
use Rattle.x86_streams.proofs.text.pairs.spaced_at.Given as goal

abbrev pub invariant-loop-i : goal.invariant-loop-i
invariant-loop-i l = record { len : length l.pairs ≡ 32; pairs : ArePairs l.text l.at l.pairs l.i }
