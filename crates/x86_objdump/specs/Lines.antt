-- The lines of a listing: an address, the bytes, and what they are.
use Rattle.std.specs.Prelude.{ℕ, Bool, ◌+◌, ◌-◌, ◌*◌, ◌%◌, ◌^◌, List, [], ◌∷◌, ◌++◌, length, replicate, take, codes}
use Rattle.x86_fields.specs.Parts.{PartLists}
use Rattle.x86_decode.specs.declared.instructions.Instruction.{Instruction}
use Rattle.x86_decode.specs.Instruction.{length_of}
use Rattle.x86_layout.specs.Parts.OfBytes.{parts_of}
use Rattle.x86_streams.specs.Lines.Hexadecimal.{hexadecimal, spaced_bytes}
use Rattle.x86_objdump.specs.Text.Instructions.{listed_text}

-- a line without its end and its room, as the code names it
abbrev pub shown_room : ℕ
shown_room = 528

abbrev pub tab : List ℕ
tab = 9 ∷ []

-- the bytes in a column that is as wide as seven of them
abbrev pub column : List ℕ → List ℕ
column bytes = spaced_bytes bytes ++ replicate (21 - 3 * length bytes) 32

-- the address, and the bytes in their column
unfoldable pub beginning : ℕ → List ℕ → List ℕ
beginning address bytes = hexadecimal address ++ codes ":" ++ tab ++ column bytes ++ tab

-- the address after an instruction
abbrev pub next_of : ℕ → Instruction → ℕ
next_of address i = (address + length_of i) % 2 ^ 64

-- ADDRESS: BYTES INSTRUCTION
abbrev pub shown_text : ℕ → List ℕ → Instruction → PartLists → List ℕ
shown_text address bytes i p = beginning address bytes ++ listed_text i p (next_of address i)

-- the line of the instruction that a decoder reads at the beginning of bytes
abbrev pub shown_line : Bool → ℕ → List ℕ → Instruction → List ℕ
shown_line strict address bytes i = shown_text address (take (length_of i) bytes) i (parts_of strict (take (length_of i) bytes))

-- ADDRESS: BYTES (vex)
abbrev pub vector_text : ℕ → List ℕ → List ℕ
vector_text address bytes = beginning address bytes ++ codes "(vex)"

-- ADDRESS: BYTES (bad)
abbrev pub refused_text : ℕ → List ℕ → List ℕ
refused_text address bytes = beginning address bytes ++ codes "(bad)"
