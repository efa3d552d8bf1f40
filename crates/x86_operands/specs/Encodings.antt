-- What the sizes and the letters of rows mean under prefixes. In a form that has sizes for named opcodes alone, any other opcode has size 0.
use Rattle.std.specs.Prelude.{ℕ, Bool, true, false, ◌+◌, if◌then◌else◌, not, ◌&&◌, List, [], ◌∷◌, unwrap_or}
use Rattle.std.specs.Map.{lookup}
use Rattle.x86_regs.specs.declared.RegisterClass.TheVariants as class
use Rattle.x86_opcodes.specs.Kinds.{is_among}
use Rattle.x86_opcodes.specs.Names.{CALL, CMPSD, CMPSS, ROUNDSS, ROUNDSD, MOVDDUP, MOVNTSS, MOVNTPS, MOVNTPD, MOVNTDQ, PEXTRB, PEXTRW}
use Rattle.x86_opcodes.specs.Names.{EXTRACTPS, PINSRB, INSERTPS, PMOVSXBQ, PMOVZXBQ, PMOVSXBD, PMOVZXBD, PMOVSXWQ, PMOVZXWQ, UCOMISS}
use Rattle.x86_opcodes.specs.Names.{COMISS, CVTSS2SD, PUNPCKLBW, PUNPCKLWD, PUNPCKLDQ, RETURN, RETF, PUSHF, POPF, LEAVE, XLAT}
use Rattle.x86_fields.specs.MemorySizes.{undecided_size}
use Rattle.x86_operands.specs.Vocabulary.{width_of, RegisterClass, Prefixes, OperandEncoding, Size, v_class, vq_class}
use Rattle.x86_operands.specs.Vocabulary.{dq_class, has_w, operand_size, address_size}
use Rattle.x86_operands.specs.declared.vocabulary.OperandEncoding.TheVariants as encoding
use Rattle.x86_operands.specs.declared.sizing.Size.TheVariants as size

-- an immediate by the class v: of a word, of a doubleword or of a quadword
abbrev pub immediate_by : OperandEncoding → RegisterClass → OperandEncoding
immediate_by quad class.W = encoding.I16
immediate_by quad class.Q = quad
immediate_by quad c = encoding.I32

-- the size of the first operations that have this one among them, or that of all others
abbrev pub first_size : List (List ℕ × Size) → Size → ℕ → Size
first_size rows other o = unwrap_or (lookup (λ names. is_among names o) rows) other

-- a size that the operation alone decides becomes the one that it has; any other size is itself
abbrev pub operation_size : Size → ℕ → Size
operation_size size.Call o = first_size ((CALL ∷ [], size.Eight) ∷ []) size.Zero o
operation_size size.Bare o =
    first_size ((RETURN ∷ PUSHF ∷ POPF ∷ LEAVE ∷ [], size.Eight) ∷ (RETF ∷ [], size.Ten) ∷ (XLAT ∷ [], size.One) ∷ []) size.Zero o
operation_size size.Return o = first_size ((RETURN ∷ [], size.Eight) ∷ (RETF ∷ [], size.Ten) ∷ []) size.Zero o
operation_size size.Duplicate o = first_size ((MOVDDUP ∷ [], size.Eight) ∷ []) size.Sixteen o
operation_size size.Stream o =
    first_size ((MOVNTSS ∷ [], size.Four) ∷ (MOVNTPS ∷ MOVNTPD ∷ MOVNTDQ ∷ [], size.Sixteen) ∷ []) size.Eight o
operation_size size.Scalar o =
    first_size ((CMPSS ∷ ROUNDSS ∷ [], size.Four) ∷ (CMPSD ∷ ROUNDSD ∷ [], size.Eight) ∷ []) size.Sixteen o
operation_size size.Extract o =
    first_size ((PEXTRB ∷ [], size.One) ∷ (PEXTRW ∷ [], size.Two) ∷ (EXTRACTPS ∷ [], size.Four) ∷ []) size.Zero o
operation_size size.Insert o = first_size ((PINSRB ∷ [], size.One) ∷ (INSERTPS ∷ [], size.Four) ∷ []) size.Zero o
operation_size size.Unpack o = first_size ((PUNPCKLBW ∷ PUNPCKLWD ∷ PUNPCKLDQ ∷ [], size.Four) ∷ []) size.Eight o
operation_size size.Extend o = first_size ((PMOVSXBQ ∷ PMOVZXBQ ∷ [], size.Two) ∷
    (PMOVSXBD ∷ PMOVZXBD ∷ PMOVSXWQ ∷ PMOVZXWQ ∷ UCOMISS ∷ COMISS ∷ CVTSS2SD ∷ [], size.Four) ∷ []) size.Eight o
operation_size s o = s

-- a size that no operation decides
abbrev pub is_free : Size → Bool
is_free size.Call = false
is_free size.Bare = false
is_free size.Return = false
is_free size.Duplicate = false
is_free size.Stream = false
is_free size.Scalar = false
is_free size.Extract = false
is_free size.Insert = false
is_free size.Unpack = false
is_free size.Extend = false
is_free s = true

-- The bytes of a size that no operation decides; of another one it is 0. A far pointer has a selector of 2 bytes, and an
-- offset of v.
abbrev pub bytes_under : Size → Prefixes → ℕ
bytes_under size.One p = 1
bytes_under size.Two p = 2
bytes_under size.Four p = 4
bytes_under size.Eight p = 8
bytes_under size.Ten p = 10
bytes_under size.Sixteen p = 16
bytes_under size.FortyEight p = 48
bytes_under size.Undecided p = undecided_size
bytes_under size.SixtyFour p = 64
bytes_under size.V p = width_of (v_class p)
bytes_under size.Dq p = width_of (dq_class p)
bytes_under size.Vq p = width_of (vq_class p)
bytes_under size.FarPointer p = 2 + width_of (v_class p)
bytes_under s p = 0

-- the bytes of a size for an operation
abbrev pub size_bytes : Size → ℕ → Prefixes → ℕ
size_bytes s o p = bytes_under (operation_size s o) p

-- An operand in an instance: the opcode byte has the number of a register, and prefixes choose the size of some immediates.
abbrev pub resolved : OperandEncoding → ℕ → Prefixes → OperandEncoding
resolved (encoding.Z at w k) n p = encoding.Z at w n
resolved encoding.Iv n p = immediate_by encoding.I64 (v_class p)
resolved encoding.Ivq n p = immediate_by encoding.I64Whole (v_class p)
resolved encoding.Ip n p = if operand_size p && not (has_w p) then encoding.I16 else encoding.I32
resolved encoding.Jv n p = if operand_size p && not (has_w p) then encoding.I32From16 else encoding.I32
resolved encoding.Offset n p = if address_size p then encoding.Address32 else encoding.Address64
resolved s n p = s
