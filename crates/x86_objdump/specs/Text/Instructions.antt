-- The text of an instruction, where the next one is at an address.
use Rattle.std.specs.Prelude.{ℕ, ◌+◌, ◌-◌, ◌%◌, ◌^◌, ◌&&◌, if◌then◌else◌, List, [], ◌∷◌, ◌++◌, codes, length, replicate}
use Rattle.std.specs.Int.{w64, cast_unsigned}
use Rattle.x86_fields.specs.Parts.{PartLists}
use Rattle.x86_decode.specs.declared.instructions.Instruction.{Instruction}
use Rattle.x86_decode.specs.Instruction.{opcode}
use Rattle.x86_streams.specs.Lines.Hexadecimal.{prefixed}
use Rattle.x86_objdump.specs.declared.text.context.Context.{Context}
use Rattle.x86_objdump.specs.declared.text.names.Entry.{Entry}
use Rattle.x86_objdump.specs.Text.Context.{context_of}
use Rattle.x86_objdump.specs.Text.Entries.{entry_for}
use Rattle.x86_objdump.specs.Text.Memory.{is_relative}
use Rattle.x86_objdump.specs.Text.Names.{listed_name}
use Rattle.x86_objdump.specs.Text.Numbers.{signed_of}
use Rattle.x86_objdump.specs.Text.Operands.{listed_operands}
use Rattle.x86_objdump.specs.Text.Words.{names_memory, size_read, words_text}

-- the address of memory that is relative to the next instruction
abbrev pub remark_text : Context → Instruction → PartLists → ℕ → List ℕ
remark_text c i p next =
    if is_relative c && names_memory i then codes "        # " ++ prefixed ((next + cast_unsigned w64 (signed_of p.displacement)) % 2 ^ 64) else []

-- the words and the name
abbrev pub head_text : Context → Instruction → Entry → PartLists → List ℕ
head_text c i e p = words_text c i e (size_read c e) p.prefixes ++ listed_name c e p.immediate

-- a text in a column that is as wide as seven, and always ends with a blank
abbrev pub in_column : List ℕ → List ℕ
in_column text = text ++ replicate (6 - length text + 1) 32

-- with operands the head is in a column
abbrev pub text_with : List ℕ → List ℕ → List ℕ → List ℕ
text_with head [] remark = head
text_with head (b ∷ bs) remark = in_column head ++ ((b ∷ bs) ++ remark)

abbrev pub shown_by : Context → Instruction → Entry → PartLists → ℕ → List ℕ
shown_by c i e p next = text_with (head_text c i e p) (listed_operands c i e p next) (remark_text c i p next)

-- The text of an instruction with these parts, before an address.
unfoldable pub listed_text : Instruction → PartLists → ℕ → List ℕ
listed_text i p next = shown_by (context_of p) i (entry_for (opcode i)) p next
