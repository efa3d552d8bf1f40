-- The raw fields of an address with the fewest bytes. Source: Intel SDM volume 2, sections 2.1.5 and 2.2.1.
use Rattle.std.specs.Prelude.{◌≡◌, ℕ, ◌+◌, ◌%◌, ◌==◌, ◌&&◌, not, nat_le, Bool, true, false, if◌then◌else◌, Option, Some, None, is_some, ℤ, FitsSigned}
use Rattle.std.specs.Int.{w32}
use Rattle.x86_fields.specs.declared.raw.Raw.{Raw}
use Rattle.x86_fields.specs.ModRM.{reg_field, packed_byte}
use Rattle.x86_fields.specs.Raw.{displacement_width, is_zero, is_byte, fits}
use Rattle.x86_layout.specs.declared.tightening.registers.Scale.{Scale}
use Rattle.x86_layout.specs.declared.tightening.registers.Scale.TheVariants.{One, Two, Four, Eight}
use Rattle.x86_layout.specs.declared.tightening.registers.AddressRegisters.{AddressRegisters}
use Rattle.x86_layout.specs.Tightening.Registers.{registers_of, IsByteOption}

-- ---- which register is base and which is index

-- the three bits of a register's number that a field holds
abbrev pub field_bits : ℕ → ℕ
field_bits number = number % 8

-- a base whose number ends in 101 has a displacement, also of 0
abbrev pub requires_displacement : ℕ → Bool
requires_displacement base = field_bits base == 5

abbrev pub omits_displacement : ℤ → ℕ → Bool
omits_displacement disp base = is_zero disp && not (requires_displacement base)

-- an index alone is the base where it counts once, and both where it counts twice; base and index change places where
-- that spares a displacement of 0
abbrev pub arranged : ℤ → Option ℕ → Option ℕ → Scale → AddressRegisters
arranged disp base None scale = record { base = base; index = None; scale = One }
arranged disp None (Some index) One = record { base = Some index; index = None; scale = One }
arranged disp None (Some index) Two = record { base = Some index; index = Some index; scale = One }
arranged disp (Some base) (Some index) One =
    if is_zero disp && (requires_displacement base && not (requires_displacement index))
    then record { base = Some index; index = Some base; scale = One }
    else record { base = Some base; index = Some index; scale = One }
arranged disp base index scale = record { base = base; index = index; scale = scale }

-- the base and the index of the shortest form
abbrev pub shortest_registers : Raw → AddressRegisters
shortest_registers raw = let at = registers_of raw in arranged raw.disp at.base at.index at.scale

-- how many bytes SIB and displacement of raw fields have
abbrev pub address_length : Raw → ℕ
address_length raw = (if is_some raw.sib then 1 else 0) + displacement_width raw.modrm raw.sib

-- ---- the raw fields

abbrev pub mod_of : ℤ → Option ℕ → ℕ
mod_of disp None = 0
mod_of disp (Some b) = if omits_displacement disp b then 0 else (if is_byte disp then 1 else 2)

-- the fourth bit of a register's number
abbrev pub fourth_bit : Option ℕ → Bool
fourth_bit None = false
fourth_bit (Some n) = nat_le 8 n

abbrev pub scale_bits : Scale → ℕ
scale_bits One = 0
scale_bits Two = 1
scale_bits Four = 2
scale_bits Eight = 3

-- the three bits of a register's number, and these where there is none
abbrev pub field_or : ℕ → Option ℕ → ℕ
field_or none None = none
field_or none (Some n) = field_bits n

abbrev pub sib_byte : AddressRegisters → ℕ
sib_byte at = packed_byte (scale_bits at.scale) (field_or 4 at.index) (field_or 5 at.base)

-- SIB isn't needed where there is a base alone, whose number doesn't end in 100
abbrev pub rm_alone : Option ℕ → Option ℕ → Option ℕ
rm_alone (Some b) None = if field_bits b == 4 then None else Some (field_bits b)
rm_alone base index = None

abbrev pub sib_by : Option ℕ → ℕ → Option ℕ
sib_by None sib = Some sib
sib_by (Some rm) sib = None

abbrev pub rm_by : Option ℕ → ℕ
rm_by None = 4
rm_by (Some rm) = rm

-- the raw fields with this base and index, and with the reg field and the displacement of some raw fields
abbrev pub spelled : Raw → AddressRegisters → Raw
spelled raw at = record raw {
  rex_b = fourth_bit at.base;
  rex_x = fourth_bit at.index;
  modrm = packed_byte (mod_of raw.disp at.base) (reg_field raw.modrm) (rm_by (rm_alone at.base at.index));
  sib = sib_by (rm_alone at.base at.index) (sib_byte at);
}

-- raw fields of the same address with the fewest bytes
unfoldable pub shortest : Raw → Raw
shortest raw = spelled raw (shortest_registers raw)

-- The raw fields are those of some bytes.
pub record IsOfBytes (raw : Raw) : Type 0 where
  pub fit : fits raw ≡ true
  pub sib : IsByteOption raw.sib
  pub disp : FitsSigned w32 raw.disp
