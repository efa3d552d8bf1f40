-- What the rules of the text read of an encoding.
use Rattle.std.specs.Prelude.{ℕ, ◌/◌, ◌==◌, ◌&&◌, ◌||◌, not, Bool, true, false, List, [], ◌∷◌, length, slice_index, if◌then◌else◌}
use Rattle.x86_fields.specs.ModRM.{absent_modrm, is_memory, reg_field}
use Rattle.x86_fields.specs.Parts.{PartLists}
use Rattle.x86_fields.specs.Raw.{has_w, has_b}
use Rattle.x86_fields.specs.Run.{reading_of, rep}
use Rattle.x86_forms.specs.declared.Map.{Map}
use Rattle.x86_forms.specs.declared.Map.TheVariants.{One, Of, Of38, Of3a}
use Rattle.x86_objdump.specs.declared.text.context.Context.{Context}

-- the map of an escape
abbrev pub map_after : List ℕ → Map
map_after [] = One
map_after (a ∷ []) = Of
map_after (a ∷ b ∷ rest) = if b == 0x38 then Of38 else Of3a

-- ModRM, or what an absent one reads as
abbrev pub modrm_or_absent : List ℕ → ℕ
modrm_or_absent [] = absent_modrm
modrm_or_absent (m ∷ rest) = m

abbrev pub is_some_byte : List ℕ → Bool
is_some_byte [] = false
is_some_byte (b ∷ rest) = true

abbrev pub context_of : PartLists → Context
context_of p = record {
  map = map_after p.escape;
  opcode = slice_index p.opcode 0;
  modrm = modrm_or_absent p.modrm;
  has_modrm = is_some_byte p.modrm;
  prefixes = reading_of p.prefixes;
}

-- 66 selects operands of 2 bytes: it does nothing beside W
abbrev pub has_two_bytes : Context → Bool
has_two_bytes c = c.prefixes.operand_size && not (has_w c.prefixes)

abbrev pub is_map_one : Map → Bool
is_map_one One = true
is_map_one m = false

abbrev pub is_map_0f : Map → Bool
is_map_0f Of = true
is_map_0f m = false

abbrev pub is_map_3a : Map → Bool
is_map_3a Of3a = true
is_map_3a m = false

-- the opcode is this one of the one-byte map, or of the map 0F
abbrev pub is_one : Context → ℕ → Bool
is_one c opcode = is_map_one c.map && (c.opcode == opcode)

abbrev pub is_0f : Context → ℕ → Bool
is_0f c opcode = is_map_0f c.map && (c.opcode == opcode)

-- the opcode is one of A0 to A3, whose immediate is an address
abbrev pub is_offset : Context → Bool
is_offset c = is_map_one c.map && (c.opcode / 4 == 0x28)

-- 90 exchanges registers under B or 66
abbrev pub is_exchange : Context → Bool
is_exchange c = has_b c.prefixes || c.prefixes.operand_size

-- F3 before a ModRM of the register form with reg 1: of 0F 1E this is RDSSP
abbrev pub is_shadow_read : Context → Bool
is_shadow_read c = rep c.prefixes && not (is_memory c.modrm) && (reg_field c.modrm == 1)
