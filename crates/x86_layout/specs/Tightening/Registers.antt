-- Which registers an address adds, as base or as index. Source: Intel SDM volume 2, sections 2.1.5 and 2.2.1.
use Rattle.std.specs.Prelude.{ℕ, ◌<◌, ◌==◌, ◌&&◌, Bool, false, if◌then◌else◌, Option, Some, None}
use Rattle.x86_regs.specs.declared.RegSpec.{RegSpec}
use Rattle.x86_regs.specs.Register.{num}
use Rattle.x86_fields.specs.declared.raw.Raw.{Raw}
use Rattle.x86_fields.specs.ModRM.{mod_field, rm_field}
use Rattle.x86_fields.specs.Address.{base_of, index_of, scale_by}
use Rattle.x86_layout.specs.declared.tightening.registers.Scale.{Scale}
use Rattle.x86_layout.specs.declared.tightening.registers.Scale.TheVariants.{One, Two, Four, Eight}
use Rattle.x86_layout.specs.declared.tightening.registers.AddressRegisters.{AddressRegisters}

-- the base is the next instruction: mod 00 with rm 101
abbrev pub is_ip_by : ℕ → Option ℕ → Bool
is_ip_by modrm None = (mod_field modrm == 0) && (rm_field modrm == 5)
is_ip_by modrm (Some sib) = false

abbrev pub is_ip_relative : Raw → Bool
is_ip_relative raw = is_ip_by raw.modrm raw.sib

-- the number of a register, where there is one
abbrev pub number_of : Option RegSpec → Option ℕ
number_of None = None
number_of (Some register) = Some (num register)

-- the scale by its factor: 1, 2, 4 or 8
abbrev pub scale_named : ℕ → Scale
scale_named factor = if factor == 1 then One else (if factor == 2 then Two else (if factor == 4 then Four else Eight))

-- the registers of raw fields that aren't relative to the next instruction
abbrev pub registers_of : Raw → AddressRegisters
registers_of raw = record { base = number_of (base_of raw); index = number_of (index_of raw); scale = scale_named (scale_by raw.sib) }

-- a byte, where there is one
abbrev pub IsByteOption : Option ℕ → Type 0
IsByteOption None = Unit {0}
IsByteOption (Some b) = b < 256
