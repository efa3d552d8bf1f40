-- The parts of the address of a memory operand, and the number of an immediate.
use Rattle.std.specs.Prelude.{ℕ, Bool, true, false, ◌||◌, Option, Some, None, ℤ, pos}
use Rattle.std.specs.Int.{w32, w64, cast_signed}
use Rattle.x86_regs.specs.Register.{class}
use Rattle.x86_fields.specs.declared.address_parts.AddressParts.{AddressParts}
use Rattle.x86_fields.specs.Linear.{is_pointer}
use Rattle.x86_operands.specs.Vocabulary.{RegSpec, Operand}
use Rattle.x86_operands.specs.declared.operands.Operand.TheVariants as operands

abbrev pub address_parts : Bool → Option RegSpec → Option RegSpec → ℕ → ℤ → AddressParts
address_parts short base index scale disp = record { address_size = short; base = base; index = index; scale = scale; disp = disp }

-- The parts of an operand under 67 or without: a base counts 1, and an index its scale. An address of 32 bits without a
-- register is a displacement. One of 64 bits is no displacement, so it has no parts, and neither has masked memory.
-- Source: Intel SDM volume 1, section 3.7.5.
abbrev pub operand_parts : Bool → Operand → Option AddressParts
operand_parts short (operands.AbsoluteU32 n) = Some (address_parts short None None 1 (cast_signed w32 n))
operand_parts short (operands.MemDeref b) = Some (address_parts short (Some b) None 1 (pos 0))
operand_parts short (operands.Disp b d) = Some (address_parts short (Some b) None 1 d)
operand_parts short (operands.MemIndexScale i s) = Some (address_parts short None (Some i) s (pos 0))
operand_parts short (operands.MemIndexScaleDisp i s d) = Some (address_parts short None (Some i) s d)
operand_parts short (operands.MemBaseIndexScale b i s) = Some (address_parts short (Some b) (Some i) s (pos 0))
operand_parts short (operands.MemBaseIndexScaleDisp b i s d) = Some (address_parts short (Some b) (Some i) s d)
operand_parts short op = None

-- rip or eip
abbrev pub is_next_pointer : Option RegSpec → Bool
is_next_pointer None = false
is_next_pointer (Some reg) = is_pointer (class reg)

abbrev pub adds_next_pointer : Option AddressParts → Bool
adds_next_pointer None = false
adds_next_pointer (Some parts) = is_next_pointer parts.base || is_next_pointer parts.index

-- the number of an immediate; one without a sign from 2^63 on is that number less 2^64
abbrev pub immediate_of : Operand → Option ℤ
immediate_of (operands.ImmediateI8 z) = Some z
immediate_of (operands.ImmediateI16 z) = Some z
immediate_of (operands.ImmediateI32 z) = Some z
immediate_of (operands.ImmediateI64 z) = Some z
immediate_of (operands.ImmediateU8 n) = Some (pos n)
immediate_of (operands.ImmediateU16 n) = Some (pos n)
immediate_of (operands.ImmediateU32 n) = Some (pos n)
immediate_of (operands.ImmediateU64 n) = Some (cast_signed w64 n)
immediate_of op = None
