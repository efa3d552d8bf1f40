-- Base, index and scale of a memory operand, as ModRM and SIB name them. Source: Intel SDM volume 2, sections 2.1.5
-- and 2.2.1.
use Rattle.std.specs.Prelude.{ℕ, ◌+◌, ◌^◌, ◌==◌, ◌&&◌, not, Bool, if◌then◌else◌, Option, Some, None}
use Rattle.x86_regs.specs.declared.RegisterClass.{RegisterClass}
use Rattle.x86_regs.specs.declared.RegisterClass.TheVariants.{D, Q, EIP, RIP}
use Rattle.x86_regs.specs.declared.RegSpec.{RegSpec}
use Rattle.x86_regs.specs.Register.{reg_spec}
use Rattle.x86_fields.specs.declared.raw.Raw.{Raw}
use Rattle.x86_fields.specs.ModRM.{mod_field, rm_field, scale_field, index_field, base_field}

-- the class of base and index: D under 67, else Q
abbrev pub address_class : Raw → RegisterClass
address_class raw = if raw.address_size then D else Q

-- a field of three bits under its fourth
abbrev pub extend : Bool → ℕ → ℕ
extend bit n = if bit then n + 8 else n

abbrev pub address_register : Raw → Bool → ℕ → RegSpec
address_register raw bit n = reg_spec (extend bit n) (address_class raw)

-- rip, or eip under 67
abbrev pub next_pointer : Raw → RegSpec
next_pointer raw = reg_spec 0 (if raw.address_size then EIP else RIP)

-- Without SIB the base is rm, or the next instruction at mod 00 with rm 101. With SIB it is the base field, or none
-- at mod 00 with 101.
abbrev pub base_by : Raw → Option ℕ → Option RegSpec
base_by raw None = Some (if (mod_field raw.modrm == 0) && (rm_field raw.modrm == 5) then next_pointer raw
    else address_register raw raw.rex_b (rm_field raw.modrm))
base_by raw (Some sib) = if (mod_field raw.modrm == 0) && (base_field sib == 5) then None else Some (address_register raw raw.rex_b (base_field sib))

abbrev pub base_of : Raw → Option RegSpec
base_of raw = base_by raw raw.sib

-- the index field of SIB, or none at 100 without X
abbrev pub index_by : Raw → Option ℕ → Option RegSpec
index_by raw None = None
index_by raw (Some sib) = if (index_field sib == 4) && not raw.rex_x then None else Some (address_register raw raw.rex_x (index_field sib))

abbrev pub index_of : Raw → Option RegSpec
index_of raw = index_by raw raw.sib

abbrev pub scale_by : Option ℕ → ℕ
scale_by None = 1
scale_by (Some sib) = 2 ^ scale_field sib
