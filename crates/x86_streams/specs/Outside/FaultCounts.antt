-- The numbers of calls, from 0, and counts of faults.
use Rattle.std.specs.Prelude.{◌≡◌, ℕ, ◌+◌, Bool, nat_lt, if◌then◌else◌}

-- The number of a call stops at the largest u64; the call with that number is never chosen.
abbrev pub counts : ℕ → Bool
counts call = nat_lt call 18446744073709551615

-- the number of the call after this one
abbrev pub next_call : ℕ → ℕ
next_call call = if counts call then call + 1 else call

-- A count rose by one, or is the largest u64, where it stops.
abbrev pub Rose : ℕ → ℕ → Type 0
Rose old new = new ≡ next_call old
