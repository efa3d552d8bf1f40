use Rattle.std.proofs.Common.{◌+◌, ◌-◌, ◌≤◌, length, take}
use Rattle.x86_streams.specs.Text.Spells.{Spells}
use Rattle.x86_streams.proofs.text.pairs.read_line.Given as goal

abbrev pub invariant-pairs : goal.invariant-pairs
invariant-pairs l = record { more : l.before ≤ l.count; fits : l.count ≤ l.before + 48; spells : Spells l.text l.at (take l.count l.values) }

abbrev pub decreases-pairs : goal.decreases-pairs
decreases-pairs l = length l.text - l.at
