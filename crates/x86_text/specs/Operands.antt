-- The text of operands.
use Rattle.std.specs.Prelude.{ℕ, ℤ, List, [], ◌∷◌, ◌++◌, Option, Some, None, if◌then◌else◌, codes, decimal, unsigned_abs}
use Rattle.std.specs.Fmt.{signed_decimal}
use Rattle.std.specs.Int.{is_negative}
use Rattle.std.specs.List.{flat_map}
use Rattle.x86_regs.specs.declared.RegSpec.{RegSpec}
use Rattle.x86_regs.specs.Names.{name_of}
use Rattle.x86_operands.specs.declared.operands.Operand.{Operand}
use Rattle.x86_operands.specs.declared.operands.Operand.TheVariants as operand

-- the parts of a memory operand: a base, an index with its scale, a displacement; each where it is named

-- a register is printed by its name
unfoldable pub register_text : RegSpec → List ℕ
register_text register = name_of register

abbrev pub base_text : Option RegSpec → List ℕ
base_text None = []
base_text (Some base) = register_text base

abbrev pub plus_text : Option RegSpec → List ℕ
plus_text None = []
plus_text (Some base) = codes "+"

abbrev pub scaled_text : RegSpec → ℕ → List ℕ
scaled_text index scale = register_text index ++ codes "*" ++ decimal scale

abbrev pub sign_text : ℤ → List ℕ
sign_text n = if is_negative n then codes "-" else codes "+"

abbrev pub displacement_text : ℤ → List ℕ
displacement_text disp = sign_text disp ++ decimal (unsigned_abs disp)

-- [base], [base+disp], [index*scale], [index*scale+disp], [base+index*scale], [base+index*scale+disp]

unfoldable pub deref_text : RegSpec → List ℕ
deref_text base = codes "[" ++ register_text base ++ codes "]"

unfoldable pub moved_text : RegSpec → ℤ → List ℕ
moved_text base disp = codes "[" ++ register_text base ++ displacement_text disp ++ codes "]"

unfoldable pub index_text : Option RegSpec → RegSpec → ℕ → List ℕ
index_text base index scale = codes "[" ++ base_text base ++ plus_text base ++ scaled_text index scale ++ codes "]"

unfoldable pub moved_index_text : Option RegSpec → RegSpec → ℕ → ℤ → List ℕ
moved_index_text base index scale disp =
    codes "[" ++ base_text base ++ plus_text base ++ scaled_text index scale ++ displacement_text disp ++ codes "]"

-- An operand: a register by its name, an immediate by its type and decimal, a memory operand by its named parts, an
-- absolute address by its width and decimal. Of a masked operand the register or the memory is printed.
unfoldable pub operand_text : Operand → List ℕ
operand_text (operand.ImmediateI8 n) = codes "i8:" ++ signed_decimal n
operand_text (operand.ImmediateU8 n) = codes "u8:" ++ decimal n
operand_text (operand.ImmediateI16 n) = codes "i16:" ++ signed_decimal n
operand_text (operand.ImmediateU16 n) = codes "u16:" ++ decimal n
operand_text (operand.ImmediateI32 n) = codes "i32:" ++ signed_decimal n
operand_text (operand.ImmediateU32 n) = codes "u32:" ++ decimal n
operand_text (operand.ImmediateI64 n) = codes "i64:" ++ signed_decimal n
operand_text (operand.ImmediateU64 n) = codes "u64:" ++ decimal n
operand_text (operand.Register reg) = register_text reg
operand_text (operand.RegisterMaskMerge reg _ _) = register_text reg
operand_text (operand.RegisterMaskMergeSae reg _ _ _) = register_text reg
operand_text (operand.RegisterMaskMergeSaeNoround reg _ _) = register_text reg
operand_text (operand.AbsoluteU32 addr) = codes "[abs32:" ++ decimal addr ++ codes "]"
operand_text (operand.AbsoluteU64 addr) = codes "[abs64:" ++ decimal addr ++ codes "]"
operand_text (operand.MemDeref base) = deref_text base
operand_text (operand.Disp base disp) = moved_text base disp
operand_text (operand.MemIndexScale index scale) = index_text None index scale
operand_text (operand.MemIndexScaleDisp index scale disp) = moved_index_text None index scale disp
operand_text (operand.MemBaseIndexScale base index scale) = index_text (Some base) index scale
operand_text (operand.MemBaseIndexScaleDisp base index scale disp) = moved_index_text (Some base) index scale disp
operand_text (operand.MemDerefMasked base _) = deref_text base
operand_text (operand.DispMasked base disp _) = moved_text base disp
operand_text (operand.MemIndexScaleMasked index scale _) = index_text None index scale
operand_text (operand.MemIndexScaleDispMasked index scale disp _) = moved_index_text None index scale disp
operand_text (operand.MemBaseIndexScaleMasked base index scale _) = index_text (Some base) index scale
operand_text (operand.MemBaseIndexScaleDispMasked base index scale disp _) = moved_index_text (Some base) index scale disp
operand_text operand.Nothing = []

-- the operands after the first, each after a comma
abbrev pub others_text : List Operand → List ℕ
others_text os = flat_map (λ o. codes ", " ++ operand_text o) os

-- the operands, after a space and joined by commas
unfoldable pub operands_text : List Operand → List ℕ
operands_text [] = []
operands_text (o ∷ os) = codes " " ++ operand_text o ++ others_text os
