-- The words of prefixes: each prefix byte has its word, in the order of the bytes, unless the instruction reads it.
use Rattle.std.specs.Prelude.{ℕ, ◌%◌, ◌==◌, ◌&&◌, ◌||◌, not, Bool, true, false, Option, Some, None, List, [], ◌∷◌, ◌++◌, codes, get_or}
use Rattle.std.specs.Prelude.{nat_le, nat_lt, if◌then◌else◌}
use Rattle.std.specs.List.{list_any}
use Rattle.x86_regs.specs.declared.RegisterClass.{RegisterClass}
use Rattle.x86_regs.specs.declared.RegisterClass.TheVariants.{RB}
use Rattle.x86_regs.specs.declared.Segment.{Segment}
use Rattle.x86_regs.specs.declared.Segment.TheVariants.{DS}
use Rattle.x86_regs.specs.Register.{num, class}
use Rattle.x86_opcodes.specs.Kinds.{is_among}
use Rattle.x86_opcodes.specs.Names.{MOVS, CMPS, STOS, LODS, SCAS, INS, OUTS, XLAT, JRCXZ, JECXZ, UMONITOR, FNSTSW, CMPXCHG16B}
use Rattle.x86_fields.specs.ModRM.{is_memory, reg_field, rm_field}
use Rattle.x86_fields.specs.Raw.{has_w}
use Rattle.x86_fields.specs.Run.{holds, is_rex, rep, repnz, rep_any}
use Rattle.x86_fields.specs.declared.rex.PrefixRex.{PrefixRex}
use Rattle.x86_forms.specs.declared.Map.{Map}
use Rattle.x86_forms.specs.declared.Map.TheVariants.{One, Of, Of38, Of3a}
use Rattle.x86_operands.specs.declared.operands.Slot.{Slot}
use Rattle.x86_operands.specs.declared.operands.Slot.TheVariants as slots
use Rattle.x86_operands.specs.declared.operands.Operand.{Operand}
use Rattle.x86_operands.specs.declared.operands.Operand.TheVariants as operands
use Rattle.x86_operands.specs.Operands.{is_memory_slot}
use Rattle.x86_decode.specs.declared.instructions.Instruction.{Instruction}
use Rattle.x86_decode.specs.Instruction.{opcode, operand_at, slot_at}
use Rattle.x86_objdump.specs.declared.text.context.Context.{Context}
use Rattle.x86_objdump.specs.declared.text.names.Entry.{Entry}
use Rattle.x86_objdump.specs.Text.Context.{is_one, is_0f, is_map_one, is_map_0f, is_exchange, is_offset, is_shadow_read}
use Rattle.x86_objdump.specs.Text.Letters.{letter, size_letter, chooser_letter}
use Rattle.x86_objdump.specs.Text.Entries.{shape_letter, own_size}
use Rattle.x86_objdump.specs.Text.Names.{special_name}

-- ---- how W and 66 are read

abbrev pub is_some_text : List ℕ → Bool
is_some_text [] = false
is_some_text (b ∷ bs) = true

-- the encoding has a name of its own
abbrev pub is_special : Context → Bool
is_special c = is_some_text (special_name c)

-- memory with a reg of 6 or 7
abbrev pub is_last_hint : Context → Bool
is_last_hint c = is_memory c.modrm && nat_lt 5 (reg_field c.modrm)

abbrev pub size_of_90 : Context → ℕ
size_of_90 c = if rep c.prefixes || not (is_exchange c) then letter (codes "-") else letter (codes "u")

abbrev pub size_of_18 : Context → Entry → ℕ
size_of_18 c e =
    if not (shape_letter e == letter (codes "h")) || is_special c then letter (codes "-")
    else (if is_last_hint c then letter (codes "u") else letter (codes "v"))

abbrev pub size_of_1b : Context → ℕ
size_of_1b c =
    if is_memory c.modrm then (if rep_any c.prefixes then letter (codes "-") else letter (codes "a"))
    else (if rep_any c.prefixes then letter (codes "y") else letter (codes "u"))

-- beside F2 or F3 the hints at 1C leave 66 unread, and beside F3 those at 1E
abbrev pub size_of_hint : Bool → Bool → ℕ
size_of_hint other beside = if other then letter (codes "-") else (if beside then letter (codes "y") else letter (codes "u"))

-- BSF and BSR read 66 beside W too, TZCNT and LZCNT don't
abbrev pub size_of_scan : Context → ℕ
size_of_scan c = if rep c.prefixes then letter (codes "v") else letter (codes "u")

-- by the operation: `b` is y at an even opcode byte, else v; `r` is v in the register form
abbrev pub size_by_entry : Context → Entry → ℕ
size_by_entry c e =
    if own_size e == letter (codes "b") then (if c.opcode % 2 == 0 then letter (codes "y") else letter (codes "v"))
    else (if own_size e == letter (codes "r") then (if is_memory c.modrm then letter (codes "-") else letter (codes "v"))
    else own_size e)

abbrev pub size_in_of : Context → Entry → ℕ
size_in_of c e =
    if c.opcode == 0x18 then size_of_18 c e
    else (if c.opcode == 0x1a then (if is_memory c.modrm then letter (codes "-") else letter (codes "v"))
    else (if c.opcode == 0x1b then size_of_1b c
    else (if c.opcode == 0x1c then size_of_hint (is_special c) (rep_any c.prefixes)
    else (if c.opcode == 0x1e then size_of_hint (not (shape_letter e == letter (codes "h"))) (rep c.prefixes)
    else (if c.opcode == 0x7e then (if rep_any c.prefixes then letter (codes "-") else letter (codes "y"))
    else (if is_among (0xbc ∷ 0xbd ∷ []) c.opcode then size_of_scan c
    else size_by_entry c e))))))

abbrev pub group_size : Context → Entry → ℕ
group_size c e = if is_one c 0x90 then size_of_90 c else (if is_map_0f c.map then size_in_of c e else size_by_entry c e)

abbrev pub size_by : ℕ → Context → Entry → ℕ
size_by l c e =
    if l == letter (codes "g") then group_size c e
    else (if l == letter (codes "r") then (if is_memory c.modrm then letter (codes "-") else letter (codes "v"))
    else l)

-- the letter of an encoding
unfoldable pub size_read : Context → Entry → ℕ
size_read c e = size_by (size_letter c.map c.opcode) c e

-- W has an effect at these letters, 66 beside W, and 66 without W
abbrev pub reads_w : ℕ → Bool
reads_w l = is_among (codes "vuy") l

abbrev pub reads_66_always : ℕ → Bool
reads_66_always l = is_among (codes "ua") l

abbrev pub reads_66_alone : ℕ → Bool
reads_66_alone l = is_among (codes "vz") l

-- ---- which of 66, F2 and F3 choose the row

abbrev pub group_7_letter : Context → ℕ
group_7_letter c =
    if is_memory c.modrm then (if reg_field c.modrm == 5 then letter (codes "r") else letter (codes "-"))
    else (if (reg_field c.modrm == 5) || is_among (0xc6 ∷ 0xcc ∷ 0xcd ∷ 0xce ∷ 0xcf ∷ 0xd9 ∷ 0xfa ∷ 0xfd ∷ 0xfe ∷ 0xff ∷ []) c.modrm
    then letter (codes "a") else letter (codes "-"))

abbrev pub group_chooser : Context → Entry → ℕ
group_chooser c e =
    if c.opcode == 0x01 then group_7_letter c
    else (if c.opcode == 0x18 then (if is_last_hint c then letter (codes "a") else letter (codes "-"))
    else (if c.opcode == 0x1e then (if not (shape_letter e == letter (codes "h")) || is_shadow_read c then letter (codes "3") else letter (codes "-"))
    else (if nat_lt 5 (reg_field c.modrm) then letter (codes "a") else letter (codes "-"))))

abbrev pub chooser_by : ℕ → Context → Entry → ℕ
chooser_by l c e = if l == letter (codes "g") then group_chooser c e else l

unfoldable pub chooser_of : Context → Entry → ℕ
chooser_of c e = chooser_by (chooser_letter c.map c.opcode) c e

-- ---- what is read of REX

abbrev pub is_high : Operand → Bool
is_high (operands.Register reg) = nat_le 8 (num reg)
is_high o = false

abbrev pub is_reg_slot : Slot → Bool
is_reg_slot slots.Reg = true
is_reg_slot slot = false

-- an operand names a register from 8 on by the field reg
abbrev pub is_high_reg : Instruction → ℕ → Bool
is_high_reg i k = is_reg_slot (slot_at i k) && is_high (operand_at i k)

-- R extends reg, but for the hints at 0F 1E beside F3, of which reg is no operand
abbrev pub reads_r : Context → Instruction → Bool
reads_r c i = c.has_modrm && (is_high_reg i 0 || is_high_reg i 1) && not (is_0f c 0x1e && rep c.prefixes)

abbrev pub names_memory : Instruction → Bool
names_memory i = is_memory_slot (slot_at i 0) || is_memory_slot (slot_at i 1)

-- an operand names a register from 8 on by rm or by the opcode byte
abbrev pub is_high_base : Context → Instruction → ℕ → Bool
is_high_base c i k = not (c.has_modrm && is_reg_slot (slot_at i k)) && is_high (operand_at i k)

-- B extends rm, the base of memory, or the register in the opcode byte
abbrev pub reads_b : Context → Instruction → Bool
reads_b c i = (c.has_modrm && names_memory i) || (is_high_base c i 0 || is_high_base c i 1) && not (opcode i == FNSTSW)

abbrev pub is_new_class : RegisterClass → Bool
is_new_class RB = true
is_new_class k = false

abbrev pub is_new_byte : Operand → Bool
is_new_byte (operands.Register reg) = is_new_class (class reg)
is_new_byte o = false

-- spl, bpl, sil, dil or a byte register from 8 on is named
abbrev pub names_new_byte : Instruction → Bool
names_new_byte i = is_new_byte (operand_at i 0) || is_new_byte (operand_at i 1)

abbrev pub has_some_bit : PrefixRex → Bool
has_some_bit rex = (rex.w || rex.r) || (rex.x || rex.b)

-- X extends the index of a SIB
abbrev pub reads_x : Context → Instruction → Bool
reads_x c i = c.has_modrm && (names_memory i && (rm_field c.modrm == 4))

-- each bit that is set is read, and a bit is set or a register is named that needs a REX
abbrev pub rex_is_read : Context → Instruction → ℕ → PrefixRex → Bool
rex_is_read c i l rex =
    (not rex.w || reads_w l) && (not rex.x || reads_x c i) && (not rex.r || reads_r c i) && (not rex.b || reads_b c i)
    && (has_some_bit rex || names_new_byte i)

abbrev pub live_rex_is_read : Context → Instruction → ℕ → Option PrefixRex → Bool
live_rex_is_read c i l None = false
live_rex_is_read c i l (Some rex) = rex_is_read c i l rex

-- ---- 67, segments

-- memory that ModRM spells, or that a string operation or XLAT names, and what counts in ecx or reads an address
abbrev pub reads_67 : Context → Instruction → Bool
reads_67 c i = is_among (JRCXZ ∷ JECXZ ∷ UMONITOR ∷ XLAT ∷ []) (opcode i) || names_memory i && not (is_offset c)

abbrev pub is_segment_prefix : ℕ → Bool
is_segment_prefix b = is_among (0x26 ∷ 0x2e ∷ 0x36 ∷ 0x3e ∷ 0x64 ∷ 0x65 ∷ []) b

abbrev pub holds_segment : List ℕ → Bool
holds_segment bytes = list_any is_segment_prefix bytes

abbrev pub is_ds : Segment → Bool
is_ds DS = true
is_ds s = false

-- a string operation that reads memory at rsi, and XLAT, have a segment; else memory has one under 64 or 65
abbrev pub reads_segment : Context → Instruction → Bool
reads_segment c i =
    if is_among (MOVS ∷ CMPS ∷ LODS ∷ OUTS ∷ XLAT ∷ []) (opcode i) then true
    else (if is_among (STOS ∷ SCAS ∷ INS ∷ []) (opcode i) then false
    else names_memory i && not (is_ds c.prefixes.segment))

-- ---- hints

-- CALL and JMP through a register or memory
abbrev pub is_near_indirect : Context → Bool
is_near_indirect c = is_one c 0xff && is_among (2 ∷ 4 ∷ []) (reg_field c.modrm)

-- F2 is the hint BND before near branches
abbrev pub is_bounded : Context → Bool
is_bounded c =
    is_map_one c.map && (nat_le 0x70 c.opcode && nat_le c.opcode 0x7f || is_among (0xc2 ∷ 0xc3 ∷ 0xe8 ∷ 0xe9 ∷ 0xeb ∷ []) c.opcode)
    || (is_near_indirect c || is_map_0f c.map && (nat_le 0x80 c.opcode && nat_le c.opcode 0x8f))

-- F2 and F3 are the hints XACQUIRE and XRELEASE beside LOCK and before XCHG with memory (Intel SDM volume 2)
abbrev pub is_elidable : Context → Instruction → Bool
is_elidable c i =
    c.prefixes.lock && not (opcode i == CMPXCHG16B) || is_map_one c.map && is_among (0x86 ∷ 0x87 ∷ []) c.opcode && is_memory c.modrm

-- F3 is XRELEASE before MOV to memory
abbrev pub is_release : Context → Bool
is_release c = is_map_one c.map && is_among (0x88 ∷ 0x89 ∷ 0xc6 ∷ 0xc7 ∷ []) c.opcode && is_memory c.modrm && rep c.prefixes

-- 3E is the hint NOTRACK before CALL and JMP through a register or memory
abbrev pub is_tracked : Context → Bool
is_tracked c = is_near_indirect c && not c.prefixes.operand_size

-- ---- words

abbrev pub reads_66 : Context → Entry → ℕ → Bool
reads_66 c e l =
    reads_66_always l || (reads_66_alone l && not (has_w c.prefixes) || (chooser_of c e == letter (codes "a")) && not (rep_any c.prefixes))

-- The instruction reads a byte of the run, which these bytes follow: only the last of equal bytes, and of segments only the
-- last, and a REX only as the last byte.
abbrev pub is_read : Context → Instruction → Entry → ℕ → ℕ → List ℕ → Bool
is_read c i e l b rest =
    if is_rex b then not (is_some_text rest) && live_rex_is_read c i l c.prefixes.rex
    else (if is_segment_prefix b then not (holds_segment rest) && (reads_segment c i && not ((b == 0x3e) && is_tracked c))
    else (if holds b rest then false
    else (if b == 0x66 then reads_66 c e l
    else (if b == 0x67 then reads_67 c i
    else (if b == 0xf2 then repnz c.prefixes && is_among (codes "ar") (chooser_of c e)
    else (if b == 0xf3 then rep c.prefixes && is_among (codes "ar3") (chooser_of c e)
    else false))))))

-- the words of REX by its bits
abbrev pub rex_words : List (List ℕ)
rex_words =
    codes "rex " ∷ codes "rex.B " ∷ codes "rex.X " ∷ codes "rex.XB " ∷ codes "rex.R " ∷ codes "rex.RB " ∷ codes "rex.RX " ∷ codes "rex.RXB " ∷
    codes "rex.W " ∷ codes "rex.WB " ∷ codes "rex.WX " ∷ codes "rex.WXB " ∷ codes "rex.WR " ∷ codes "rex.WRB " ∷ codes "rex.WRX " ∷ codes "rex.WRXB " ∷ []

abbrev pub word_of_f2 : Context → Instruction → Bool → List ℕ
word_of_f2 c i last = if last && is_bounded c then codes "bnd " else (if last && is_elidable c i then codes "xacquire " else codes "repnz ")

abbrev pub word_of_f3 : Context → Instruction → Bool → List ℕ
word_of_f3 c i last =
    if last && is_among (INS ∷ OUTS ∷ MOVS ∷ LODS ∷ STOS ∷ []) (opcode i) then codes "rep "
    else (if last && (is_elidable c i || is_release c) then codes "xrelease " else codes "repz ")

abbrev pub prefix_word : Context → Instruction → ℕ → List ℕ → List ℕ
prefix_word c i b rest =
    if is_rex b then get_or rex_words (b % 16) []
    else (if b == 0x66 then codes "data16 "
    else (if b == 0x67 then codes "addr32 "
    else (if b == 0xf0 then codes "lock "
    else (if b == 0xf2 then word_of_f2 c i (not (holds b rest))
    else (if b == 0xf3 then word_of_f3 c i (not (holds b rest))
    else (if b == 0x26 then codes "es "
    else (if b == 0x2e then codes "cs "
    else (if b == 0x36 then codes "ss "
    else (if b == 0x3e then (if is_tracked c && not (holds_segment rest) then codes "notrack " else codes "ds ")
    else (if b == 0x64 then codes "fs "
    else codes "gs "))))))))))

unfoldable pub word_text : Context → Instruction → Entry → ℕ → ℕ → List ℕ → List ℕ
word_text c i e l b rest = if is_read c i e l b rest then [] else prefix_word c i b rest

-- the words of a run
abbrev pub words_text : Context → Instruction → Entry → ℕ → List ℕ → List ℕ
words_text c i e l [] = []
words_text c i e l (b ∷ rest) = word_text c i e l b rest ++ words_text c i e l rest
