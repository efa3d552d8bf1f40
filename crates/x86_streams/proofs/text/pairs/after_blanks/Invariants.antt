use Rattle.std.proofs.Common.{ℕ, ◌-◌, ◌≤◌, List, length}
use Rattle.x86_streams.specs.Text.Spells.{Spells}
use Rattle.x86_streams.proofs.text.pairs.after_blanks.Given as goal

abbrev pub invariant-blanks : goal.invariant-blanks
invariant-blanks l = record {
  inside : l.at ≤ length l.text;
  spells : (vs : List ℕ) → Spells l.text l.from vs → Spells l.text l.at vs;
}

abbrev pub decreases-blanks : goal.decreases-blanks
decreases-blanks l = length l.text - l.at
