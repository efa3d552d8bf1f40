-- The length of a shortest relative, as a function of the bytes.
use Rattle.std.specs.Prelude.{◌≡◌, ℕ, ◌+◌, ◌-◌, ◌&&◌, not, Bool, if◌then◌else◌, List, length, take, Result, Ok, Err}
use Rattle.x86_fields.specs.declared.errors.DecodeError.{DecodeError}
use Rattle.x86_fields.specs.declared.raw.Raw.{Raw}
use Rattle.x86_decode.specs.declared.instructions.Instruction.{Instruction}
use Rattle.x86_decode.specs.Instruction.{length_of}
use Rattle.x86_decode.specs.Answer.{answer_of}
use Rattle.x86_layout.specs.Parts.OfBytes.{ask_in, parts_of}
use Rattle.x86_layout.specs.Tightening.Registers.{is_ip_relative}
use Rattle.x86_layout.specs.Tightening.Shortest.{address_length, shortest}
use Rattle.x86_layout.specs.Tightening.Tighten.{raw_of}

-- SIB and displacement become as short as they may, but for an address that is relative to the next instruction
abbrev pub least_by : Bool → Raw → ℕ → ℕ
least_by memory raw n = if memory && not (is_ip_relative raw) then (n - address_length raw) + address_length (shortest raw) else n

-- of an encoding
unfoldable pub least_length : Bool → List ℕ → ℕ
least_length strict s = least_by (ask_in s strict).memory (raw_of (parts_of strict s)) (length s)

abbrev pub least_for : Bool → List ℕ → Result Instruction DecodeError → ℕ
least_for strict bytes (Ok i) = least_length strict (take (length_of i) bytes)
least_for strict bytes (Err e) = 0

-- how long a shortest relative of the encoding at the beginning is: as long as the encoding where it has none to
-- seek, and 0 where the bytes are refused
unfoldable pub shortest_length : Bool → List ℕ → ℕ
shortest_length strict bytes = least_for strict bytes (answer_of strict bytes)

-- An encoding that is accepted at the beginning has no shorter relative by this function.
abbrev pub HasShortestLength : Bool → List ℕ → Type 0
HasShortestLength strict bytes = (i : Instruction) → answer_of strict bytes ≡ Ok i → shortest_length strict bytes ≡ length_of i
