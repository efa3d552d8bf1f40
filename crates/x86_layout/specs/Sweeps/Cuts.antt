-- The cuts of bytes, and how far they reach.
use Rattle.std.specs.Prelude.{ℕ, ◌+◌, ◌-◌, ◌<◌, ◌≤◌, zero, suc, Bool, List, [], ◌∷◌, Result, Ok, Err}
use Rattle.x86_fields.specs.declared.errors.DecodeError.{DecodeError}
use Rattle.x86_decode.specs.declared.instructions.Instruction.{Instruction}
use Rattle.x86_decode.specs.Instruction.{length_of}
use Rattle.x86_decode.specs.Answer.{answer_of}
use Rattle.x86_layout.specs.declared.sweeps.cuts.Cut.{Cut}

-- as long as the instruction, else one byte
abbrev pub cut_length : Result Instruction DecodeError → ℕ
cut_length (Ok i) = length_of i
cut_length (Err e) = 1

-- the cut at a place that has these bytes
abbrev pub cut_at : Bool → ℕ → List ℕ → Cut
cut_at strict place bytes = record { place = place; length = cut_length (answer_of strict bytes); answer = answer_of strict bytes }

-- the cuts of bytes from a place on, without the first bytes that belong to the cut before
unfoldable pub cuts_skipping : Bool → ℕ → ℕ → List ℕ → List Cut
cuts_skipping strict skip place [] = []
cuts_skipping strict zero place (x ∷ xs) = cut_at strict place (x ∷ xs) ∷ cuts_skipping strict (cut_length (answer_of strict (x ∷ xs)) - 1) (place + 1) xs
cuts_skipping strict (suc skip) place (x ∷ xs) = cuts_skipping strict skip (place + 1) xs

-- the cuts of bytes from a place on
abbrev pub cuts_from : Bool → ℕ → List ℕ → List Cut
cuts_from strict place bytes = cuts_skipping strict 0 place bytes

-- the cuts of an input
abbrev pub cuts_of : Bool → List ℕ → List Cut
cuts_of strict bytes = cuts_from strict 0 bytes

-- The cut has some bytes, and ends at a place or before it.
abbrev pub IsWithin : ℕ → Cut → Type 0
IsWithin place c = (0 < c.length) × (c.place + c.length ≤ place)
