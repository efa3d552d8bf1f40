-- The sizes of registers and of memory, where the row has others than the processor (docs/DIFFERENCES.md).
use Rattle.std.specs.Prelude.{ℕ, ◌%◌, ◌==◌, ◌&&◌, not, Bool, Option, Some, None, if◌then◌else◌, List, [], ◌∷◌, codes}
use Rattle.x86_regs.specs.declared.RegisterClass.{RegisterClass}
use Rattle.x86_regs.specs.declared.RegisterClass.TheVariants.{W, D, Q}
use Rattle.x86_regs.specs.declared.RegSpec.{RegSpec}
use Rattle.x86_regs.specs.Class.{width_of}
use Rattle.x86_regs.specs.Register.{reg_spec, num}
use Rattle.x86_fields.specs.Sizes.{v_class, dq_class}
use Rattle.x86_operands.specs.declared.operands.Slot.{Slot}
use Rattle.x86_operands.specs.declared.operands.Slot.TheVariants as slots
use Rattle.x86_decode.specs.declared.instructions.Instruction.{Instruction}
use Rattle.x86_decode.specs.Instruction.{mem_size_number}
use Rattle.x86_text.specs.Operands.{register_text}
use Rattle.x86_objdump.specs.declared.text.context.Context.{Context}
use Rattle.x86_objdump.specs.declared.text.names.Entry.{Entry}
use Rattle.x86_objdump.specs.Text.Context.{has_two_bytes, is_map_one, is_map_0f, is_map_3a}
use Rattle.x86_objdump.specs.Text.Letters.{letter}
use Rattle.x86_objdump.specs.Text.Entries.{memory_letter, reg_letter, rm_letter}
use Rattle.x86_objdump.specs.Text.Words.{is_special}

-- 8 bytes, or 2 under 66 without W: what PUSH, POP, CALL and JMP read
abbrev pub stack_class : Context → RegisterClass
stack_class c = if has_two_bytes c then W else Q

-- 8 bytes, or 4 under 67
abbrev pub class_by_67 : Context → RegisterClass
class_by_67 c = if c.prefixes.address_size then D else Q

-- The class of a letter, or none where the register is as the row has it: `v` by W and 66; `y` by W; `d` 4 bytes; `p` the
-- stack's, in the one-byte map; `a` by 67; `b` v at an odd opcode byte; `e` 4 bytes in the map 0F, and `t` in 0F 3A.
abbrev pub class_by_letter : Context → ℕ → Option RegisterClass
class_by_letter c l =
    if l == letter (codes "v") then Some (v_class c.prefixes)
    else (if l == letter (codes "y") then Some (dq_class c.prefixes)
    else (if l == letter (codes "d") then Some D
    else (if (l == letter (codes "p")) && is_map_one c.map then Some (stack_class c)
    else (if l == letter (codes "a") then Some (class_by_67 c)
    else (if (l == letter (codes "b")) && (c.opcode % 2 == 1) then Some (v_class c.prefixes)
    else (if (l == letter (codes "e")) && is_map_0f c.map then Some D
    else (if (l == letter (codes "t")) && is_map_3a c.map then Some D
    else None)))))))

abbrev pub register_with : RegSpec → Option RegisterClass → RegSpec
register_with r None = r
register_with r (Some class) = reg_spec (num r) class

-- the letter of a slot
abbrev pub slot_letter : Entry → Slot → ℕ
slot_letter e slots.Reg = reg_letter e
slot_letter e slots.Rm = rm_letter e
slot_letter e slot = letter (codes "-")

-- a register in a slot: of the same number, with the size that the processor reads
abbrev pub register_in : Context → Entry → Slot → RegSpec → List ℕ
register_in c e slot r = if slot_letter e slot == letter (codes "-") then register_text r
    else register_text (register_with r (class_by_letter c (slot_letter e slot)))

-- The size of memory by its letter: `0` none, `1` a byte, `8` 8 bytes, `o` 16 bytes that are named an oword, `f` a far
-- pointer, `b` a byte at an even opcode byte, `h` a byte where the hint has a name, `y` by W, `p` the stack's, else by W and 66.
abbrev pub size_by_letter : Context → ℕ → ℕ
size_by_letter c l =
    if l == letter (codes "0") then 0
    else (if l == letter (codes "1") then 1
    else (if l == letter (codes "8") then 8
    else (if l == letter (codes "o") then 17
    else (if l == letter (codes "f") then (if c.prefixes.operand_size then 4 else 6)
    else (if (l == letter (codes "b")) && (c.opcode % 2 == 0) then 1
    else (if (l == letter (codes "h")) && is_special c then 1
    else (if l == letter (codes "y") then width_of (dq_class c.prefixes)
    else (if l == letter (codes "p") then width_of (stack_class c)
    else width_of (v_class c.prefixes)))))))))

abbrev pub memory_size : Context → Instruction → Entry → ℕ
memory_size c i e = if memory_letter e == letter (codes "-") then mem_size_number i else size_by_letter c (memory_letter e)

-- how a size is written; 17 stands for an oword
abbrev pub size_words : ℕ → List ℕ
size_words size =
    if size == 1 then codes "BYTE PTR " else (if size == 2 then codes "WORD PTR " else (if size == 4 then codes "DWORD PTR "
    else (if size == 6 then codes "FWORD PTR " else (if size == 8 then codes "QWORD PTR " else (if size == 10 then codes "TBYTE PTR "
    else (if size == 16 then codes "XMMWORD PTR " else (if size == 17 then codes "OWORD PTR " else [])))))))
