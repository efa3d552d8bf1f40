-- The places of bytes that the instructions of a sweep branch to.
use Rattle.std.specs.Prelude.{ℕ, ◌+◌, ◌==◌, ◌&&◌, Bool, false, Option, Some, None, List, Result, Ok, Err}
use Rattle.std.specs.List.{list_any}
use Rattle.x86_fields.specs.declared.errors.DecodeError.{DecodeError}
use Rattle.x86_decode.specs.declared.instructions.Instruction.{Instruction}
use Rattle.x86_layout.specs.declared.sweeps.cuts.Cut.{Cut}
use Rattle.x86_layout.specs.Sweeps.Cuts.{cuts_of}
use Rattle.x86_layout.specs.Sweeps.Flows.{branch_target}

-- the target of an accepted cut; a refused one has none
abbrev pub target_by : Result Instruction DecodeError → ℕ → Option ℕ
target_by (Ok i) next = branch_target i next
target_by (Err e) next = None

abbrev pub target_of_cut : Cut → Option ℕ
target_of_cut c = target_by c.answer (c.place + c.length)

abbrev pub is_target : ℕ → Option ℕ → Bool
is_target place None = false
is_target place (Some t) = t == place

abbrev pub targets : ℕ → Cut → Bool
targets place c = is_target place (target_of_cut c)

abbrev pub begins_at : ℕ → Cut → Bool
begins_at place c = c.place == place

-- the place is that of a cut of the bytes, and the target of a cut of the bytes
abbrev pub is_marked : Bool → List ℕ → ℕ → Bool
is_marked strict bytes place = list_any (begins_at place) (cuts_of strict bytes) && list_any (targets place) (cuts_of strict bytes)
