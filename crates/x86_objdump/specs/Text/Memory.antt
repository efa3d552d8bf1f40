-- The text of memory that ModRM spells, from ModRM, SIB and the displacement (Intel SDM volume 2, section 2.1.5): the operand
-- of the decoder's answer has neither a displacement of 0 nor an index that isn't there.
use Rattle.std.specs.Prelude.{ℕ, ℤ, ◌+◌, ◌*◌, ◌%◌, ◌^◌, ◌==◌, ◌&&◌, ◌||◌, not, Bool, if◌then◌else◌, List, [], ◌∷◌, ◌++◌, codes, unsigned_abs}
use Rattle.std.specs.Int.{w64, cast_unsigned, is_negative}
use Rattle.x86_regs.specs.declared.Segment.{Segment}
use Rattle.x86_regs.specs.declared.Segment.TheVariants.{FS, GS}
use Rattle.x86_regs.specs.Register.{reg_spec}
use Rattle.x86_fields.specs.Address.{extend}
use Rattle.x86_fields.specs.ModRM.{mod_field, rm_field, scale_field, index_field, base_field}
use Rattle.x86_fields.specs.Parts.{PartLists}
use Rattle.x86_fields.specs.Raw.{has_b, has_x}
use Rattle.x86_streams.specs.Lines.Hexadecimal.{prefixed}
use Rattle.x86_text.specs.Operands.{register_text}
use Rattle.x86_objdump.specs.declared.text.context.Context.{Context}
use Rattle.x86_objdump.specs.Text.Numbers.{signed_of}
use Rattle.x86_objdump.specs.Text.Sizes.{class_by_67}

-- the segment that 64 or 65 chose, else another text
abbrev pub segment_or : List ℕ → Segment → List ℕ
segment_or other FS = codes "fs:"
segment_or other GS = codes "gs:"
segment_or other s = other

abbrev pub segment_text : Context → List ℕ → List ℕ
segment_text c other = segment_or other c.prefixes.segment

-- a register of an address
abbrev pub addressing_register : Context → ℕ → List ℕ
addressing_register c n = register_text (reg_spec n (class_by_67 c))

-- a displacement with its sign
abbrev pub distance_text : ℤ → List ℕ
distance_text disp = (if is_negative disp then codes "-" else codes "+") ++ prefixed (unsigned_abs disp)

-- a displacement as a number of 64 bits
abbrev pub absolute_text : ℤ → List ℕ
absolute_text disp = prefixed (cast_unsigned w64 disp)

-- ModRM spells an address that is relative to the next instruction
abbrev pub is_relative : Context → Bool
is_relative c = c.has_modrm && ((mod_field c.modrm == 0) && (rm_field c.modrm == 5))

-- ---- without SIB

abbrev pub relative_text : Context → ℤ → List ℕ
relative_text c disp = (if c.prefixes.address_size then codes "eip+" else codes "rip+") ++ absolute_text disp

-- a displacement, where ModRM has one
abbrev pub modrm_distance : Context → ℤ → List ℕ
modrm_distance c disp = if mod_field c.modrm == 0 then [] else distance_text disp

abbrev pub base_and_distance : Context → ℤ → List ℕ
base_and_distance c disp = addressing_register c (extend (has_b c.prefixes) (rm_field c.modrm)) ++ modrm_distance c disp

abbrev pub plain_memory : Context → ℤ → List ℕ
plain_memory c disp = segment_text c [] ++ codes "[" ++ (if is_relative c then relative_text c disp else base_and_distance c disp) ++ codes "]"

-- ---- with SIB

-- what the index is multiplied by
abbrev pub scale_text : ℕ → List ℕ
scale_text sib =
    if scale_field sib == 0 then codes "*1" else (if scale_field sib == 1 then codes "*2" else (if scale_field sib == 2 then codes "*4" else codes "*8"))

module _ (c : Context) (sib : ℕ) where
  -- there is a base
  abbrev pub has_base : Bool
  has_base = not ((mod_field c.modrm == 0) && (base_field sib == 5))

  -- the number of the index, where 4 is none
  abbrev pub index_number : ℕ
  index_number = extend (has_x c.prefixes) (index_field sib)

  -- an address without registers: the segment and a number
  abbrev pub has_no_register : Bool
  has_no_register = not has_base && ((index_number == 4) && ((scale_field sib == 0) && not c.prefixes.address_size))

  -- an index is written: one that is there, or where SIB wouldn't be needed without it
  abbrev pub writes_index : Bool
  writes_index = not (index_number == 4) || (not (scale_field sib == 0) || (if has_base then not (base_field sib == 4) else c.prefixes.address_size))

  abbrev pub sib_base : List ℕ
  sib_base = if has_base then addressing_register c (extend (has_b c.prefixes) (base_field sib)) else []

  abbrev pub index_name : List ℕ
  index_name = if index_number == 4 then (if c.prefixes.address_size then codes "eiz" else codes "riz") else addressing_register c index_number

  abbrev pub sib_index : List ℕ
  sib_index = if writes_index then (if has_base then codes "+" else []) ++ index_name ++ scale_text sib else []

  -- without a base and an index 67 makes the displacement an address of 32 bits
  abbrev pub sib_distance : ℤ → List ℕ
  sib_distance disp =
      if not has_base && ((index_number == 4) && c.prefixes.address_size) then codes "+" ++ prefixed (cast_unsigned w64 disp % 2 ^ 32)
      else (if (mod_field c.modrm == 0) && not (base_field sib == 5) then [] else distance_text disp)

  abbrev pub sib_memory : ℤ → List ℕ
  sib_memory disp =
      if has_no_register then segment_text c (codes "ds:") ++ absolute_text disp
      else segment_text c [] ++ codes "[" ++ sib_base ++ sib_index ++ sib_distance disp ++ codes "]"

abbrev pub memory_by : Context → List ℕ → ℤ → List ℕ
memory_by c [] disp = plain_memory c disp
memory_by c (sib ∷ rest) disp = sib_memory c sib disp

-- memory that ModRM spells, without its size
unfoldable pub memory_text : Context → PartLists → List ℕ
memory_text c p = memory_by c p.sib (signed_of p.displacement)
