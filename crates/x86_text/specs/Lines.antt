-- The text of instructions, and the lines of instructions and refusals.
use Rattle.std.specs.Prelude.{ℕ, List, ◌++◌, ◌==◌, if◌then◌else◌, codes, decimal}
use Rattle.x86_opcodes.specs.Mnemonics.{mnemonic}
use Rattle.x86_fields.specs.MemorySizes.{undecided_size}
use Rattle.x86_fields.specs.declared.errors.DecodeError.{DecodeError}
use Rattle.x86_fields.specs.Errors.{description_of}
use Rattle.x86_decode.specs.declared.instructions.Instruction.{Instruction}
use Rattle.x86_decode.specs.Instruction.{opcode, length_of, mem_size_number, operands_of}
use Rattle.x86_text.specs.Operands.{operands_text}

-- the memory size: 0 where the row has none, and a question mark where the processor decides
abbrev pub size_text : ℕ → List ℕ
size_text size = if size == undecided_size then codes "?" else decimal size

-- MNEMONIC, the operands, and the size
unfoldable pub instruction_text : Instruction → List ℕ
instruction_text i = mnemonic (opcode i) ++ operands_text (operands_of i) ++ codes " m" ++ size_text (mem_size_number i)

-- PLACE LENGTH, and the instruction
unfoldable pub line_of : ℕ → Instruction → List ℕ
line_of place i = decimal place ++ codes " " ++ decimal (length_of i) ++ codes " " ++ instruction_text i

-- PLACE error: DESCRIPTION
unfoldable pub refusal_of : ℕ → DecodeError → List ℕ
refusal_of place error = decimal place ++ codes " error: " ++ description_of error
