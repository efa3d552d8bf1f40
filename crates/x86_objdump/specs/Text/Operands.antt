-- The operands of an instruction.
use Rattle.std.specs.Prelude.{ℕ, ◌+◌, ◌-◌, ◌%◌, ◌^◌, ◌==◌, ◌&&◌, ◌||◌, not, Bool, if◌then◌else◌, List, [], ◌∷◌, ◌++◌, codes, take, drop, length, nat_le, nat_lt}
use Rattle.std.specs.Int.{w64, cast_unsigned}
use Rattle.x86_opcodes.specs.Kinds.{is_among}
use Rattle.x86_opcodes.specs.Names.{MOVS, CMPS, STOS, LODS, SCAS, INS, OUTS}
use Rattle.x86_regs.specs.declared.RegisterClass.{RegisterClass}
use Rattle.x86_regs.specs.declared.RegisterClass.TheVariants.{B, W, D, Q}
use Rattle.x86_regs.specs.Class.{width_of}
use Rattle.x86_regs.specs.Register.{reg_spec}
use Rattle.x86_fields.specs.Address.{extend}
use Rattle.x86_fields.specs.ModRM.{is_memory, rm_field}
use Rattle.x86_fields.specs.Parts.{PartLists}
use Rattle.x86_fields.specs.Raw.{has_b}
use Rattle.x86_fields.specs.Run.{rep}
use Rattle.x86_fields.specs.Sizes.{v_class, dq_class}
use Rattle.x86_operands.specs.declared.operands.Slot.{Slot}
use Rattle.x86_operands.specs.declared.operands.Operand.{Operand}
use Rattle.x86_operands.specs.declared.operands.Operand.TheVariants as operand
use Rattle.x86_operands.specs.Operands.{is_memory_slot}
use Rattle.x86_decode.specs.declared.instructions.Instruction.{Instruction}
use Rattle.x86_decode.specs.Instruction.{opcode, operand_at, operand_count, operands_of, slot_at}
use Rattle.x86_streams.specs.Lines.Hexadecimal.{prefixed}
use Rattle.x86_text.specs.Operands.{register_text}
use Rattle.x86_objdump.specs.declared.text.context.Context.{Context}
use Rattle.x86_objdump.specs.declared.text.names.Entry.{Entry}
use Rattle.x86_objdump.specs.Text.Context.{has_two_bytes, is_one, is_map_one, is_offset, is_exchange, is_shadow_read}
use Rattle.x86_objdump.specs.Text.Letters.{letter}
use Rattle.x86_objdump.specs.Text.Entries.{name_letter, shape_letter}
use Rattle.x86_objdump.specs.Text.Names.{is_in_name}
use Rattle.x86_objdump.specs.Text.Numbers.{plain_number, signed_of}
use Rattle.x86_objdump.specs.Text.Sizes.{register_in, memory_size, size_words}
use Rattle.x86_objdump.specs.Text.Memory.{segment_text, memory_text}
use Rattle.x86_objdump.specs.Text.Immediates.{immediate_text}

-- a register of a class by its number
abbrev pub register_named : RegisterClass → ℕ → List ℕ
register_named class n = register_text (reg_spec n class)

abbrev pub comma : List ℕ
comma = codes ","

-- ---- string operations: from their opcode byte and prefixes alone

abbrev pub string_size : Context → Instruction → ℕ
string_size c i =
    if c.opcode % 2 == 0 then 1
    else (if is_among (INS ∷ OUTS ∷ []) (opcode i) then (if has_two_bytes c then 2 else 4) else width_of (v_class c.prefixes))

abbrev pub accumulator_text : ℕ → List ℕ
accumulator_text size = if size == 1 then register_named B 0
    else (if size == 2 then register_named W 0 else (if size == 4 then register_named D 0 else register_named Q 0))

-- memory at rsi is in the segment of the prefixes, and memory at rdi in ES
abbrev pub source_text : Context → ℕ → List ℕ
source_text c size = size_words size ++ segment_text c (codes "ds:") ++ (if c.prefixes.address_size then codes "[esi]" else codes "[rsi]")

abbrev pub destination_text : Context → ℕ → List ℕ
destination_text c size = size_words size ++ (if c.prefixes.address_size then codes "es:[edi]" else codes "es:[rdi]")

abbrev pub string_first : Context → Instruction → ℕ → List ℕ
string_first c i size =
    if is_among (LODS ∷ SCAS ∷ []) (opcode i) then accumulator_text size
    else (if opcode i == OUTS then codes "dx"
    else (if opcode i == CMPS then source_text c size else destination_text c size))

abbrev pub string_second : Context → Instruction → ℕ → List ℕ
string_second c i size =
    if opcode i == STOS then accumulator_text size
    else (if opcode i == INS then codes "dx"
    else (if is_among (SCAS ∷ CMPS ∷ []) (opcode i) then destination_text c size else source_text c size))

abbrev pub string_text : Context → Instruction → List ℕ
string_text c i = string_first c i (string_size c i) ++ comma ++ string_second c i (string_size c i)

-- XLAT
abbrev pub table_text : Context → List ℕ
table_text c = codes "BYTE PTR " ++ segment_text c (codes "ds:") ++ (if c.prefixes.address_size then codes "[ebx]" else codes "[rbx]")

-- ---- numbers

abbrev pub two_numbers : ℕ → List ℕ → List ℕ
two_numbers n bytes = prefixed (plain_number (take n bytes)) ++ comma ++ prefixed (plain_number (drop n bytes))

-- the address that a relative branch or XBEGIN leads to
abbrev pub target_text : ℕ → List ℕ → List ℕ
target_text next bytes = prefixed ((next + cast_unsigned w64 (signed_of bytes)) % 2 ^ 64)

-- ---- registers that no ModRM names

-- XCHG by the opcode byte: the accumulator comes last. 90 without B or 66, and PAUSE, have no operands.
abbrev pub exchange_text : Context → List ℕ
exchange_text c =
    if (c.opcode == 0x90) && (rep c.prefixes || not (is_exchange c)) then []
    else register_named (v_class c.prefixes) (extend (has_b c.prefixes) (c.opcode % 8)) ++ comma ++ register_named (v_class c.prefixes) 0

abbrev pub rm_register : RegisterClass → Context → List ℕ
rm_register class c = register_named class (extend (has_b c.prefixes) (rm_field c.modrm))

-- MOV of A0 to A3: an absolute address, and the accumulator
abbrev pub offset_address : Context → PartLists → List ℕ
offset_address c p = segment_text c (codes "ds:") ++ prefixed (plain_number p.immediate)

abbrev pub offset_accumulator : Context → List ℕ
offset_accumulator c = if c.opcode % 2 == 0 then register_named B 0 else register_named (v_class c.prefixes) 0

abbrev pub offset_text : Context → PartLists → List ℕ
offset_text c p =
    if nat_lt c.opcode 0xa2 then offset_accumulator c ++ comma ++ offset_address c p else offset_address c p ++ comma ++ offset_accumulator c

-- MOV that isn't written as its operands are
abbrev pub is_rare_move : Context → Bool
is_rare_move c = is_map_one c.map && (is_offset c || is_among (0x8c ∷ 0x8e ∷ []) c.opcode && not (is_memory c.modrm))

-- the operands are written as the decoder answers them
abbrev pub is_as_answered : Context → Entry → Bool
is_as_answered c e = (shape_letter e == letter (codes "-")) || (shape_letter e == letter (codes "k")) && not (is_rare_move c)

-- the operand is the address that a relative branch leads to
abbrev pub is_target_alone : Context → Entry → Bool
is_target_alone c e = (shape_letter e == letter (codes "j")) || (shape_letter e == letter (codes "J")) && not c.has_modrm

-- a register of x87
abbrev pub x87_register : Operand → List ℕ
x87_register (operand.Register r) = register_text r
x87_register o = []

-- ---- operands of the decoder's answer

module _ (c : Context) (i : Instruction) (e : Entry) (p : PartLists) where
  abbrev pub operand_by : Slot → Operand → List ℕ
  operand_by slot (operand.Register r) = register_in c e slot r
  operand_by slot (operand.ImmediateI8 n) = immediate_text c p.immediate
  operand_by slot (operand.ImmediateU8 n) = immediate_text c p.immediate
  operand_by slot (operand.ImmediateI16 n) = immediate_text c p.immediate
  operand_by slot (operand.ImmediateU16 n) = immediate_text c p.immediate
  operand_by slot (operand.ImmediateI32 n) = immediate_text c p.immediate
  operand_by slot (operand.ImmediateU32 n) = immediate_text c p.immediate
  operand_by slot (operand.ImmediateI64 n) = immediate_text c p.immediate
  operand_by slot (operand.ImmediateU64 n) = immediate_text c p.immediate
  operand_by slot o = size_words (memory_size c i e) ++ memory_text c p

  abbrev pub listed_operand : ℕ → List ℕ
  listed_operand k = operand_by (slot_at i k) (operand_at i k)

  -- operands from an index on, each after a comma
  abbrev pub following_operands : ℕ → List Operand → List ℕ
  following_operands k [] = []
  following_operands k (o ∷ os) = comma ++ operand_by (slot_at i k) o ++ following_operands (k + 1) os

  -- the first operands, joined by commas
  abbrev pub list_text : List Operand → List ℕ
  list_text [] = []
  list_text (o ∷ os) = operand_by (slot_at i 0) o ++ following_operands 1 os

  abbrev pub first_text : ℕ → List ℕ
  first_text n = list_text (take n (operands_of i))

  -- MOV of a segment register in the register form: the general register has the operand size
  abbrev pub segment_move_text : List ℕ
  segment_move_text =
      if c.opcode == 0x8c then rm_register (v_class c.prefixes) c ++ comma ++ listed_operand 1 else listed_operand 0 ++ comma
      ++ rm_register (v_class c.prefixes) c

  -- ---- x87: the accumulator is `st` beside another register, and isn't written where it is the only choice

  abbrev pub two_registers : List ℕ
  two_registers =
      if is_among (0xdc ∷ 0xde ∷ []) c.opcode then x87_register (operand_at i 0) ++ comma ++ codes "st" else codes "st" ++ comma
      ++ x87_register (operand_at i 1)

  -- by the letter of the shape: `l` the last register alone, `t` the first
  abbrev pub x87_registers : List ℕ
  x87_registers =
      if nat_lt (operand_count i) 2 then x87_register (operand_at i 0)
      else (if shape_letter e == letter (codes "l") then x87_register (operand_at i 1)
      else (if shape_letter e == letter (codes "t") then x87_register (operand_at i 0)
      else two_registers))

  abbrev pub x87_text : List ℕ
  x87_text = if is_memory c.modrm then (if is_memory_slot (slot_at i 0) then listed_operand 0 else listed_operand 1) else x87_registers

  -- a hint: its first operand; RDSSP; or 90
  abbrev pub hint_text : List ℕ
  hint_text =
      if not c.has_modrm then exchange_text c
      else (if (c.opcode == 0x1e) && is_shadow_read c then rm_register (dq_class c.prefixes) c else first_text 1)

  -- two immediates after registers, or registers alone
  abbrev pub fields_by : List ℕ → List ℕ
  fields_by [] = first_text 4
  fields_by (b ∷ bytes) = first_text (operand_count i - 2) ++ comma ++ two_numbers 1 (b ∷ bytes)

  abbrev pub field_text : List ℕ
  field_text = fields_by p.immediate

  abbrev pub without_named : List ℕ
  without_named = if is_in_name (name_letter e) p.immediate then first_text (operand_count i - 1) else first_text 4

  -- by what the last operand is: `m` xmm0, after the others; `2` two immediates; `c` an immediate that may be in the name; `i`
  -- that of INT, which has one at CD alone
  unfoldable pub last_text : List ℕ
  last_text =
      if shape_letter e == letter (codes "m") then first_text 2 ++ codes ",xmm0"
      else (if shape_letter e == letter (codes "2") then field_text
      else (if shape_letter e == letter (codes "i") then (if c.opcode == 0xcd then first_text 4 else [])
      else without_named))

  -- The operands by the letter of the shape: `s` a string operation, `x` XLAT, `e` ENTER, `f`, `l` and `t` x87, `w` FNSTSW, `h` a
  -- hint, `r` XCHG, `n` none, `k` a MOV of A0 to A3 or of a segment register.
  abbrev pub rare_text : List ℕ
  rare_text =
      if shape_letter e == letter (codes "s") then string_text c i
      else (if shape_letter e == letter (codes "x") then table_text c
      else (if shape_letter e == letter (codes "e") then two_numbers 2 p.immediate
      else (if is_among (codes "flt") (shape_letter e) then x87_text
      else (if shape_letter e == letter (codes "w") then (if is_memory c.modrm then listed_operand 0 else codes "ax")
      else (if shape_letter e == letter (codes "h") then hint_text
      else (if shape_letter e == letter (codes "r") then (if c.has_modrm then first_text 4 else exchange_text c)
      else (if shape_letter e == letter (codes "n") then []
      else (if shape_letter e == letter (codes "k") then (if is_offset c then offset_text c p else segment_move_text)
      else last_text))))))))

  -- `J` is the operand that ModRM spells
  abbrev pub unlisted_text : List ℕ
  unlisted_text = if shape_letter e == letter (codes "J") then listed_operand 0 else rare_text

  -- `-` as the decoder answers them; `j` a target; `J` a target, where there is no ModRM
  unfoldable pub listed_operands : ℕ → List ℕ
  listed_operands next =
      if is_as_answered c e then list_text (operands_of i) else (if is_target_alone c e then target_text next p.immediate else unlisted_text)
