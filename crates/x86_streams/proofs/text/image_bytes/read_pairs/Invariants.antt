use Rattle.std.proofs.Common.{◌-◌, ◌<◌, take}
use Rattle.x86_streams.specs.Text.Spells.{Spells}
use Rattle.x86_streams.proofs.text.image_bytes.read_pairs.Given as goal

abbrev pub invariant-pairs : goal.invariant-pairs
invariant-pairs l = record { few : l.count < 256; spells : Spells l.text l.read (take l.count l.values) }

abbrev pub decreases-pairs : goal.decreases-pairs
decreases-pairs l = 256 - l.count
