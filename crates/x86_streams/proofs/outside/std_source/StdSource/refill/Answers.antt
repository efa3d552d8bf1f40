use Rattle.std.proofs.Common.{◌≡◌, ◌<◌, ◌≤◌, ◌-◌, ℕ, suc, List, [], ◌∷◌, take, length, slice_range, slice_index_or, refl, arith, drop-cons}
use Rattle.x86_streams.proofs.outside.std_source.StdSource.refill.Goals as goal

none : (buffer : List ℕ) (position filled : ℕ) → position ≡ filled → slice_range buffer position filled ≡ []
none buffer position filled is = let zero : filled - position ≡ 0 = omega arith in rw zero refl

first_held : (buffer : List ℕ) (filled : ℕ) → 0 < filled → filled ≤ length buffer →
    slice_range buffer 0 filled ≡ slice_index_or buffer 0 0 ∷ slice_range buffer 1 filled
first_held buffer filled some inside = let more : filled - 0 ≡ suc (filled - 1) = omega arith in rw (more, drop-cons buffer 0 0 (omega arith)) refl

first : (buffer : List ℕ) (n : ℕ) → 0 < n → n ≤ length buffer → take n buffer ≡ slice_index_or buffer 0 0 ∷ slice_range buffer 1 n
first buffer n some inside = let same : n - 0 ≡ n = omega arith in rw same at (first_held buffer n some inside)

pub returns-in-Ok-eq0-clause-calls : goal.returns-in-Ok-eq0-clause-calls
returns-in-Ok-eq0-clause-calls g c =
    rw (none _ _ _ c.requires) (c.read_some.new.buffer, grind arith, _, c.in-Ok-eq0.ensures.read, (c.in-Ok-eq0.field-0-test, none _ _ _ c.requires))

pub returns-in-Ok-clause-calls : goal.returns-in-Ok-clause-calls
returns-in-Ok-clause-calls g c =
    rw (none _ _ _ c.requires) (
      c.read_some.new.buffer,
      grind arith,
      _,
      c.in-Ok.ensures.read,
      first c.read_some.new.buffer c.in-Ok.count (grind (arith, c.in-Ok.count-test)) (grind (arith, c.in-Ok.ensures.bound)),
    )

pub returns-in-Err-clause-calls : goal.returns-in-Err-clause-calls
returns-in-Err-clause-calls g c = rw (none _ _ _ c.requires) (c.read_some.new.buffer, grind arith, _, c.in-Err.ensures.read, none _ _ _ c.requires)
