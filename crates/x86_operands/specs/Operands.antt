-- What is known of an operand and a slot by themselves.
use Rattle.std.specs.Prelude.{ℕ, Bool, true, false, ◌||◌, ◌==◌, if◌then◌else◌, Option, Some, None, is_some, ℤ, ◌%◌, pos, List}
use Rattle.x86_regs.specs.Register.{class}
use Rattle.x86_operands.specs.Vocabulary.{width_of, Slot, Operand, RegSpec, Raw, is_zero}
use Rattle.x86_operands.specs.declared.operands.MemoryAccessSize.{MemoryAccessSize}
use Rattle.x86_operands.specs.declared.operands.Slot.TheVariants as slots
use Rattle.x86_operands.specs.declared.operands.Operand.TheVariants as operands
use Rattle.x86_fields.specs.MemorySizes.{undecided_size}
use Rattle.std.specs.Int.{w32, cast_signed, cast_unsigned}
use Rattle.std.specs.Option.{option_map}
use Rattle.x86_fields.specs.Linear.{Linear, linear, modulus_by, value_at}
use Rattle.x86_fields.specs.Address.{base_of, index_of, scale_by}

-- ---- the shape of raw fields: the slot and the operand of the parts that are there

-- The operand has the parts that are present. A displacement of 0 is not named.
abbrev pub shape_by : Option RegSpec → Option RegSpec → ℕ → ℤ → Slot × Operand
shape_by (Some b) (Some i) s d = if is_zero d then (slots.BaseIndexScale, operands.MemBaseIndexScale b i s)
    else (slots.BaseIndexScaleDisp, operands.MemBaseIndexScaleDisp b i s d)
shape_by (Some b) None s d = if is_zero d then (slots.Deref, operands.MemDeref b) else (slots.Disp, operands.Disp b d)
shape_by None (Some i) s d = if is_zero d then (slots.IndexScale, operands.MemIndexScale i s) else (slots.IndexScaleDisp, operands.MemIndexScaleDisp i s d)
shape_by None None s d = (slots.DispU32, operands.AbsoluteU32 (cast_unsigned w32 d))

unfoldable pub shape : Raw → Slot × Operand
shape raw = shape_by (base_of raw) (index_of raw) (scale_by raw.sib) raw.disp

-- ---- the address form of an operand. Source: Intel SDM volume 2, section 2.1.5, and volume 1, section 3.7.5

-- The form of an operand under 67 or without: a base counts 1, an index its scale, and a named displacement is the
-- constant. An address of 32 bits is sign-extended without 67. Operands that are no memory, and masked ones, have no
-- form.
abbrev pub operand_form : Bool → Operand → Option Linear
operand_form short (operands.AbsoluteU32 n) = Some (linear short None None 1 (cast_signed w32 n))
operand_form short (operands.AbsoluteU64 n) = Some (record { modulus = modulus_by short; registers = λ r. 0; next = 0; constant = n % modulus_by short })
operand_form short (operands.MemDeref b) = Some (linear short (Some b) None 1 (pos 0))
operand_form short (operands.Disp b d) = Some (linear short (Some b) None 1 d)
operand_form short (operands.MemIndexScale i s) = Some (linear short None (Some i) s (pos 0))
operand_form short (operands.MemIndexScaleDisp i s d) = Some (linear short None (Some i) s d)
operand_form short (operands.MemBaseIndexScale b i s) = Some (linear short (Some b) (Some i) s (pos 0))
operand_form short (operands.MemBaseIndexScaleDisp b i s d) = Some (linear short (Some b) (Some i) s d)
operand_form short op = None

-- the address of an operand at sixteen registers and a next pointer
abbrev pub operand_address : Bool → Operand → List ℕ → ℕ → Option ℕ
operand_address short op regs next = option_map (λ f. value_at f regs next) (operand_form short op)

-- the memory size of a number, and the bytes that it has where the processor doesn't decide them
abbrev pub access_size : ℕ → MemoryAccessSize
access_size n = record { size = n }

abbrev pub bytes_size : MemoryAccessSize → Option ℕ
bytes_size s = if s.size == undecided_size then None else Some s.size

-- memory under a mask register
abbrev pub is_masked_memory : Operand → Bool
is_masked_memory (operands.MemDerefMasked b k) = true
is_masked_memory (operands.DispMasked b d k) = true
is_masked_memory (operands.MemIndexScaleMasked i s k) = true
is_masked_memory (operands.MemIndexScaleDispMasked i s d k) = true
is_masked_memory (operands.MemBaseIndexScaleMasked b i s k) = true
is_masked_memory (operands.MemBaseIndexScaleDispMasked b i s d k) = true
is_masked_memory op = false

-- a register or memory under a mask register
abbrev pub is_masked : Operand → Bool
is_masked (operands.RegisterMaskMerge reg k m) = true
is_masked (operands.RegisterMaskMergeSae reg k m sae) = true
is_masked (operands.RegisterMaskMergeSaeNoround reg k m) = true
is_masked op = is_masked_memory op

-- memory has an address, unless a mask register hides it
abbrev pub is_memory_operand : Operand → Bool
is_memory_operand op = is_masked_memory op || is_some (operand_form false op)

abbrev pub is_memory_slot : Slot → Bool
is_memory_slot slots.DispU32 = true
is_memory_slot slots.DispU64 = true
is_memory_slot slots.Deref = true
is_memory_slot slots.DerefEsi = true
is_memory_slot slots.DerefEdi = true
is_memory_slot slots.DerefRsi = true
is_memory_slot slots.DerefRdi = true
is_memory_slot slots.Disp = true
is_memory_slot slots.IndexScale = true
is_memory_slot slots.IndexScaleDisp = true
is_memory_slot slots.BaseIndexScale = true
is_memory_slot slots.BaseIndexScaleDisp = true
is_memory_slot slot = false

-- the width in bytes, where the operand itself has one
abbrev pub operand_width : Operand → Option ℕ
operand_width (operands.Register reg) = Some (width_of (class reg))
operand_width (operands.RegisterMaskMerge reg k _) = Some (width_of (class reg))
operand_width (operands.ImmediateI8 z) = Some 1
operand_width (operands.ImmediateU8 n) = Some 1
operand_width (operands.ImmediateI16 z) = Some 2
operand_width (operands.ImmediateU16 n) = Some 2
operand_width (operands.ImmediateI32 z) = Some 4
operand_width (operands.ImmediateU32 n) = Some 4
operand_width (operands.ImmediateI64 z) = Some 8
operand_width (operands.ImmediateU64 n) = Some 8
operand_width op = None

-- ---- the calls of a visitor, each with its fields

-- a call that names an operand, or one of the two that name none
pub data Visit : Type 0 where
  visit_of : Operand → Visit
  visit_base_index_masked : RegSpec → RegSpec → RegSpec → Visit
  visit_base_index_disp_masked : RegSpec → RegSpec → ℤ → RegSpec → Visit
