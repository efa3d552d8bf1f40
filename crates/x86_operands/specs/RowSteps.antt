-- The walk after an opcode byte, as steps.
use Rattle.std.specs.Prelude.{ℕ, Bool, true, false, if◌then◌else◌, Option, Some, None, List, [], ◌∷◌, slice_set, ◌==◌}
use Rattle.std.specs.Int.{Width, w8, w16, w32, w64, cast_signed}
use Rattle.std.specs.Option.{option_map_or}
use Rattle.x86_operands.specs.Vocabulary.{RegSpec, RegisterClass, DecodeError, Prefixes, Raw, Slot, Operand, RegisterSlot, PointerSlot}
use Rattle.x86_operands.specs.Vocabulary.{OperandEncoding, G, Gmm, E, Emm, I8, I16, I32, I64, I32From16, I64Whole, U8, U16, X8, X16}
use Rattle.x86_operands.specs.Vocabulary.{ConstantI8, ConstantU8, Address32, Address64, Order, Position, Nowhere, Fault}
use Rattle.x86_operands.specs.Vocabulary.{BadOpcode, BadOperand, Incomplete, Verdict, Accepts, NamedBySuffix, Refuses, PrefixChange, Keeps}
use Rattle.x86_operands.specs.Vocabulary.{ClearsOperandSize, SetsEs, ModrmUse, Absent, EitherForm, Registers, Reading, Operands}
use Rattle.x86_operands.specs.Vocabulary.{reg_spec, reg_field, rm_field, absent_modrm, as_register, register_of, class_of}
use Rattle.x86_operands.specs.Vocabulary.{address_size}
use Rattle.x86_regs.specs.declared.RegisterClass.TheVariants as class
use Rattle.x86_operands.specs.declared.vocabulary.OperandEncoding.TheVariants as encoding
use Rattle.x86_fields.specs.declared.errors.DecodeError.TheVariants.{InvalidOpcode, InvalidOperand, IncompleteDecoder}
use Rattle.x86_fields.specs.Prefixes.{without_operand_size, with_es}
use Rattle.x86_fields.specs.Raw.{read_raw}
use Rattle.x86_fields.specs.Steps.{Step, pure, refuse, ◌>>=◌, next_byte, number_step}
use Rattle.x86_operands.specs.declared.operands.Slot.TheVariants as slots
use Rattle.x86_operands.specs.declared.operands.Operand.TheVariants as operands
use Rattle.x86_operands.specs.declared.vocabulary.RegisterSlot.TheVariants as reg_slot
use Rattle.x86_operands.specs.declared.vocabulary.PointerSlot.TheVariants as pointer
use Rattle.x86_operands.specs.Operands.{shape}
use Rattle.x86_operands.specs.Records.{Instance, RowRecord, reg_number, rm_number, order_of}
use Rattle.x86_operands.specs.Templates.{has_address, index_of_position, somewhere}
use Rattle.std.specs.Map.{lookup}
use Rattle.x86_opcodes.specs.Names.{PI2FW, PI2FD, PF2IW, PF2ID, PFNACC, PFPNACC, PFCMPGE, PFMIN, PFRCP, PFRSQRT, PFSUB, PFADD, PFCMPGT}
use Rattle.x86_opcodes.specs.Names.{PFMAX, PFRCPIT1, PFRSQIT1, PFSUBR, PFACC, PFCMPEQ, PFMUL, PFRCPIT2, PMULHRW, PSWAPD, PAVGUSB}

-- ---- the last byte of a 3DNow encoding, which names the opcode. Source: AMD APM volume 3, appendix A, tables A-13 and A-14

-- each suffix byte, with the opcode that it names
abbrev pub suffixes : List (ℕ × ℕ)
suffixes =
    (0x0c, PI2FW) ∷ (0x0d, PI2FD) ∷ (0x1c, PF2IW) ∷ (0x1d, PF2ID) ∷
    (0x8a, PFNACC) ∷ (0x8e, PFPNACC) ∷ (0x90, PFCMPGE) ∷ (0x94, PFMIN) ∷
    (0x96, PFRCP) ∷ (0x97, PFRSQRT) ∷ (0x9a, PFSUB) ∷ (0x9e, PFADD) ∷
    (0xa0, PFCMPGT) ∷ (0xa4, PFMAX) ∷ (0xa6, PFRCPIT1) ∷ (0xa7, PFRSQIT1) ∷
    (0xaa, PFSUBR) ∷ (0xae, PFACC) ∷ (0xb0, PFCMPEQ) ∷ (0xb4, PFMUL) ∷
    (0xb6, PFRCPIT2) ∷ (0xb7, PMULHRW) ∷ (0xbb, PSWAPD) ∷ (0xbf, PAVGUSB) ∷
    []

-- the opcode that a suffix byte names
unfoldable pub suffix_opcode : ℕ → Option ℕ
suffix_opcode byte = lookup (λ b. b == byte) suffixes

-- ---- operands. Source: Intel SDM volume 2, appendix A.2 (the letters of operands)

abbrev pub register_slot : RegisterSlot → Slot
register_slot reg_slot.Reg = slots.Reg
register_slot reg_slot.Rm = slots.Rm
register_slot reg_slot.Third = slots.Third

abbrev pub pointer_slot : PointerSlot → Slot
pointer_slot pointer.Deref = slots.Deref
pointer_slot pointer.DerefEsi = slots.DerefEsi
pointer_slot pointer.DerefEdi = slots.DerefEdi
pointer_slot pointer.DerefRsi = slots.DerefRsi
pointer_slot pointer.DerefRdi = slots.DerefRdi

-- the operand of rm: memory where it was read, else the register
abbrev pub memory_or : RegSpec → Option Raw → Slot × Operand
memory_or reg None = (slots.Rm, operands.Register reg)
memory_or reg (Some raw) = shape raw

-- a number that is read, and what it yields
abbrev pub Immediate : Type 0
Immediate = Width × (ℕ → Slot × Operand)

-- the immediate of an operand encoding; None where no byte is read
abbrev pub immediate_read : OperandEncoding → Option Immediate
immediate_read I8 = Some (w8, λ n. (slots.ImmI8, operands.ImmediateI8 (cast_signed w8 n)))
immediate_read I16 = Some (w16, λ n. (slots.ImmI16, operands.ImmediateI16 (cast_signed w16 n)))
immediate_read I32 = Some (w32, λ n. (slots.ImmI32, operands.ImmediateI32 (cast_signed w32 n)))
immediate_read I64 = Some (w32, λ n. (slots.ImmI64, operands.ImmediateI64 (cast_signed w32 n)))
immediate_read I32From16 = Some (w16, λ n. (slots.ImmI32, operands.ImmediateI32 (cast_signed w16 n)))
immediate_read I64Whole = Some (w64, λ n. (slots.ImmI64, operands.ImmediateI64 (cast_signed w64 n)))
immediate_read U8 = Some (w8, λ n. (slots.ImmU8, operands.ImmediateU8 n))
immediate_read U16 = Some (w16, λ n. (slots.ImmU16, operands.ImmediateU16 n))
immediate_read X8 = Some (w8, λ n. (slots.ImmInDisp, operands.ImmediateU16 n))
immediate_read X16 = Some (w16, λ n. (slots.ImmInDisp, operands.ImmediateU16 n))
immediate_read Address32 = Some (w32, λ n. (slots.DispU32, operands.AbsoluteU32 n))
immediate_read Address64 = Some (w64, λ n. (slots.DispU64, operands.AbsoluteU64 n))
immediate_read s = None

-- the class of a register that is an address
abbrev pub pointer_class : Prefixes → RegisterClass
pointer_class p = if address_size p then class.D else class.Q

-- The slot and the operand of an operand encoding for which no byte is read. One that no instance has is the number 0.
abbrev pub known_operand : OperandEncoding → Prefixes → ℕ → Option Raw → Slot × Operand
known_operand (G w) p m memory = (slots.Reg, operands.Register (register_of (class_of w p) p (reg_number m p)))
known_operand Gmm p m memory = (slots.Reg, operands.Register (reg_spec (reg_field m) class.MM))
known_operand (E w) p m memory = memory_or (register_of (class_of w p) p (rm_number m p)) memory
known_operand Emm p m memory = memory_or (reg_spec (rm_field m) class.MM) memory
known_operand encoding.Cr p m memory = (slots.Reg, operands.Register (reg_spec (reg_number m p) class.CR))
known_operand encoding.Dr p m memory = (slots.Reg, operands.Register (reg_spec (reg_number m p) class.DR))
known_operand encoding.Sr p m memory = (slots.Reg, operands.Register (reg_spec (reg_number m p) class.S))
known_operand encoding.StRm p m memory = (slots.Rm, operands.Register (reg_spec (rm_field m) class.ST))
known_operand encoding.RdInReg p m memory = (slots.Reg, operands.Register (reg_spec (rm_number m p) class.D))
known_operand (encoding.Z slot w n) p m memory = (register_slot slot, operands.Register (register_of (class_of w p) p (rm_number n p)))
known_operand (encoding.A w) p m memory = (slots.Reg, operands.Register (register_of (class_of w p) p 0))
known_operand (encoding.Implied slot n c) p m memory = (register_slot slot, operands.Register (reg_spec n c))
known_operand (encoding.At slot n c) p m memory = (pointer_slot slot, operands.MemDeref (reg_spec n c))
known_operand encoding.Source p m memory = (slots.Deref, operands.MemDeref (reg_spec 6 (pointer_class p)))
known_operand encoding.Destination p m memory = (slots.Deref, operands.MemDeref (reg_spec 7 (pointer_class p)))
known_operand (ConstantI8 z) p m memory = (slots.ImmI8, operands.ImmediateI8 z)
known_operand (ConstantU8 n) p m memory = (slots.ImmU8, operands.ImmediateU8 n)
known_operand s p m memory = (slots.ImmU8, operands.ImmediateU8 0)

abbrev pub number_or : Option Immediate → Slot × Operand → Step (Slot × Operand)
number_or None x = pure x
number_or (Some (w, yields)) x = number_step w >>= λ n. pure (yields n)

-- What an operand encoding yields: its slot and its operand.
unfoldable pub operand_step : OperandEncoding → Prefixes → ℕ → Option Raw → Step (Slot × Operand)
operand_step s p m memory = number_or (immediate_read s) (known_operand s p m memory)

-- ---- operands in place: each is written at its position

-- no operand yet, of so many, with this memory size
abbrev pub sized : ℕ → ℕ → Operands
sized count size = record {
  count = count;
  slots = slots.Nothing ∷ slots.Nothing ∷ slots.Nothing ∷ slots.Nothing ∷ [];
  operands = operands.Nothing ∷ operands.Nothing ∷ operands.Nothing ∷ operands.Nothing ∷ [];
  mem_size = size;
}

abbrev pub no_operands : Operands
no_operands = sized 0 0

abbrev pub put_at : ℕ → Slot × Operand → Operands → Operands
put_at k x operand_list = record operand_list { slots = slice_set operand_list.slots k x.0; operands = slice_set operand_list.operands k x.1 }

-- at a position; Nowhere is none
abbrev pub put_among : {X : Type 0} → Position → X → List X → List X
put_among at x xs = if somewhere at then slice_set xs (index_of_position at) x else xs

abbrev pub put_in : Position → Slot × Operand → Operands → Operands
put_in at x operand_list =
    record operand_list { slots = put_among at x.0 operand_list.slots; operands = put_among at x.1 operand_list.operands }

-- what an operand encoding yields, at an index
abbrev pub put_encoded : ℕ → OperandEncoding → Prefixes → ℕ → Option Raw → Operands → Step Operands
put_encoded k s p m memory operand_list = operand_step s p m memory >>= λ x. pure (put_at k x operand_list)

-- the memory operand's bytes, in the memory form, where an operand is of rm
abbrev pub address_step : Position → Prefixes → ℕ → Step (Option Raw)
address_step at p m = if has_address at m then (read_raw p m >>= λ raw. pure (Some raw)) else pure None

-- the operand of rm: memory in the memory form, else the register
abbrev pub rm_read : Position → OperandEncoding → Prefixes → ℕ → Operands → Step Operands
rm_read at rm p m operand_list = address_step at p m >>= λ memory. pure (put_in at (known_operand rm p m memory) operand_list)

-- the operand of rm, and that of reg, or a register that no ModRM names
abbrev pub leading_read : Order → OperandEncoding → OperandEncoding → Prefixes → ℕ → Operands → Step Operands
leading_read order reg rm p m operand_list =
    rm_read order.rm rm p m operand_list >>= λ written. pure (put_in order.reg (known_operand reg p m None) written)

-- another operand, which takes no memory
abbrev pub other_read : Position → OperandEncoding → Prefixes → ℕ → Operands → Step Operands
other_read Nowhere s p m operand_list = pure operand_list
other_read at s p m operand_list = put_encoded (index_of_position at) s p m None operand_list

-- ---- refusals

abbrev pub error_of : Fault → DecodeError
error_of BadOpcode = InvalidOpcode
error_of BadOperand = InvalidOperand
error_of Incomplete = IncompleteDecoder

-- ---- how a row ends: with its opcode, with the one that a suffix names, or with its refusal

abbrev pub read_opcode : Verdict → ℕ → Step ℕ
read_opcode Accepts opcode = pure opcode
read_opcode NamedBySuffix opcode = next_byte >>= λ b. option_map_or pure (suffix_opcode b) (refuse InvalidOpcode)
read_opcode (Refuses fault) opcode = refuse (error_of fault)

-- ---- the whole record

-- the prefixes with the record's change
abbrev pub changed : PrefixChange → Prefixes → Prefixes
changed Keeps p = p
changed ClearsOperandSize p = without_operand_size p
changed SetsEs p = with_es p

abbrev pub reading_with : ℕ → Prefixes → Operands → Reading
reading_with o p operand_list = record {
  opcode = o;
  count = operand_list.count;
  slots = operand_list.slots;
  operands = operand_list.operands;
  mem_size = operand_list.mem_size;
  prefixes = p;
}

-- how the reading ends, after its operands
abbrev pub row_ended : Instance → Prefixes → Operands → Step Reading
row_ended instance p operand_list = read_opcode instance.verdict instance.opcode >>= λ opcode.
    pure (reading_with opcode (changed instance.change p) operand_list)

-- What a record has after its ModRM: the operands of rm and reg, the last one, another, and its end, which may be a refusal.
unfoldable pub read_instance : Instance → Prefixes → ℕ → Step Reading
read_instance instance p m =
    leading_read (order_of instance) instance.reg instance.rm p m (sized (order_of instance).count instance.size) >>= λ leading.
    other_read (order_of instance).last instance.last p m leading >>= λ written.
    other_read (order_of instance).extra instance.extra p m written >>= λ operand_list.
    row_ended instance p operand_list

-- ModRM as the row uses it: a byte that isn't there reads as C0, and one whose mod isn't looked at as mod 11
abbrev pub read_modrm : ModrmUse → Step ℕ
read_modrm Absent = pure absent_modrm
read_modrm EitherForm = next_byte
read_modrm Registers = next_byte >>= λ m. pure (as_register m)

abbrev pub refuse_fault : Option Fault → Step (Unit {0})
refuse_fault fault = option_map_or (λ f. refuse (error_of f)) fault (pure tt)

-- what a row has after its opcode
unfoldable pub record_step : RowRecord → Prefixes → Step Reading
record_step r p = refuse_fault r.at_opcode >>= λ _. read_modrm r.modrm >>= λ m. read_instance (r.instance m) p m
