-- What the operand template of a row means, and which templates are sound.
use Rattle.std.specs.Prelude.{ℕ, Bool, true, false, if◌then◌else◌, not, ◌&&◌, ◌||◌}
use Rattle.x86_operands.specs.Vocabulary.{Width, OperandEncoding, Position, First, Second, Third, Fourth, Nowhere, Size, Template}
use Rattle.x86_operands.specs.Vocabulary.{is_memory}
use Rattle.x86_operands.specs.Orders.{is_order}
use Rattle.x86_operands.specs.Encodings.{is_free, operation_size}
use Rattle.x86_operands.specs.RowVocabulary.{Place, Register, TemplateRow}
use Rattle.x86_fields.specs.declared.sizes.Width.TheVariants as width
use Rattle.x86_operands.specs.declared.vocabulary.OperandEncoding.TheVariants as encoding
use Rattle.x86_operands.specs.declared.vocabulary.RegisterSlot.TheVariants as slot

-- ---- the operands of a template

-- the operand of reg beside one of rm, and the operand of rm
abbrev pub reg_encoding : Width → OperandEncoding
reg_encoding width.Mm = encoding.Gmm
reg_encoding w = encoding.G w

abbrev pub rm_encoding : Width → OperandEncoding
rm_encoding width.Mm = encoding.Emm
rm_encoding width.St = encoding.StRm
rm_encoding w = encoding.E w

-- without an operand of rm, the register of the opcode byte, whose number is n, or register 0
abbrev pub fixed_encoding : Bool → Width → ℕ → OperandEncoding
fixed_encoding true w n = encoding.Z slot.Reg w n
fixed_encoding false w n = encoding.A w

abbrev pub somewhere : Position → Bool
somewhere Nowhere = false
somewhere at = true

-- SIB and displacement are there in the memory form, where an operand is of rm
abbrev pub has_address : Position → ℕ → Bool
has_address at m = somewhere at && is_memory m

abbrev pub reg_part : Template → ℕ → OperandEncoding
reg_part t n = if somewhere t.order.rm then reg_encoding t.reg else fixed_encoding t.of_opcode t.reg n

abbrev pub index_of_position : Position → ℕ
index_of_position First = 0
index_of_position Second = 1
index_of_position Third = 2
index_of_position Fourth = 3
index_of_position Nowhere = 4

-- the memory size at a ModRM byte
abbrev pub size_at : Template → ℕ → Size
size_at t m = if has_address t.order.rm m then t.in_memory else t.in_register

-- the template with the sizes that it has for an operation
abbrev pub with_sizes : Template → ℕ → Template
with_sizes t o = record t { in_memory = operation_size t.in_memory o; in_register = operation_size t.in_register o }

-- neither size is one that the operation decides
abbrev pub has_free_sizes : Template → Bool
has_free_sizes t = is_free t.in_memory && is_free t.in_register

-- ---- templates that are sound

-- the letters of reg and rm, which a template has as such
abbrev pub is_field : OperandEncoding → Bool
is_field (encoding.G w) = true
is_field encoding.Gmm = true
is_field (encoding.E w) = true
is_field encoding.Emm = true
is_field encoding.StRm = true
is_field s = false

abbrev pub is_sound : Template → Bool
is_sound t = is_order t.order && (not (is_field t.last) && not (is_field t.extra))

-- a register of the stack has no memory form
abbrev pub is_stack : Width → Bool
is_stack width.St = true
is_stack w = false

abbrev pub fits_form : Template → ℕ → Bool
fits_form t m = not (is_stack t.rm) || not (is_memory m)

-- what the last operand can be where all is read at once: an immediate, or what neither a byte nor ModRM names
abbrev pub is_last : OperandEncoding → Bool
is_last encoding.I8 = true
is_last encoding.I16 = true
is_last encoding.I32 = true
is_last encoding.I64 = true
is_last encoding.I64Whole = true
is_last encoding.U8 = true
is_last encoding.U16 = true
is_last encoding.Iv = true
is_last encoding.Ivq = true
is_last encoding.Ip = true
is_last (encoding.ConstantI8 z) = true
is_last (encoding.ConstantU8 n) = true
is_last (encoding.Implied at n c) = true
is_last s = false

-- there is nothing but what is read at once
abbrev pub is_simple : Template → Bool
is_simple t = is_last t.last && not (somewhere t.order.extra)

abbrev pub is_read_at : Template → ℕ → Bool
is_read_at t m = is_sound t && (is_simple t && fits_form t m)

-- a row whose template is sound, and has a register of the stack in the register form alone
abbrev pub is_register_place : Place → Bool
is_register_place Register = true
is_register_place place = false

abbrev pub is_sound_row : TemplateRow → Bool
is_sound_row row = is_sound row.template && (not (is_stack row.template.rm) || is_register_place row.at.place)
