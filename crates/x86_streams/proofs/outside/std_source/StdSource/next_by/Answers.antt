use Rattle.std.proofs.Common.{◌≡◌, ◌<◌, ◌≤◌, ◌+◌, ◌-◌, ℕ, suc, List, ◌∷◌, length, slice_range, slice_index_or, refl, arith, drop-cons}
use Rattle.x86_streams.proofs.outside.std_source.StdSource.next_by.Goals as goal

next_held : (buffer : List ℕ) (position filled : ℕ) → position < filled → filled ≤ length buffer →
    slice_range buffer position filled ≡ slice_index_or buffer position 0 ∷ slice_range buffer (position + 1) filled
next_held buffer position filled some inside = let next : position + 1 ≡ suc position = omega arith in
    let more : filled - position ≡ suc (filled - suc position) = omega arith in rw (next, more, drop-cons buffer position 0 (omega arith)) refl

pub returns-clause-calls : goal.returns-clause-calls
returns-clause-calls g c =
    let s = c.args.self.now in rw (next_held s.buffer s.position s.filled (grind (arith, s.in_order, c.if-self.false))
    (grind (arith, s.in_range))) (refl, refl, refl)
