-- The bytes ModRM and SIB: their fields, and the byte that fields make.
-- Source: Intel SDM volume 2, sections 2.1.3 and 2.1.5.
use Rattle.std.specs.Prelude.{ℕ, ◌+◌, ◌*◌, ◌/◌, ◌%◌, nat_lt, Bool}

-- the fields of ModRM: mod has two bits, reg and rm have three
abbrev pub mod_field : ℕ → ℕ
mod_field modrm = modrm / 64

abbrev pub reg_field : ℕ → ℕ
reg_field modrm = (modrm / 8) % 8

abbrev pub rm_field : ℕ → ℕ
rm_field modrm = modrm % 8

-- the fields of SIB: scale has two bits, index and base have three
abbrev pub scale_field : ℕ → ℕ
scale_field sib = sib / 64

abbrev pub index_field : ℕ → ℕ
index_field sib = (sib / 8) % 8

abbrev pub base_field : ℕ → ℕ
base_field sib = sib % 8

-- the byte of a field of two bits and two of three
abbrev pub packed_byte : ℕ → ℕ → ℕ → ℕ
packed_byte high middle low = high * 64 + (middle * 8 + low)

-- a memory form: mod 00, 01 or 10; mod 11 is a register form
abbrev pub is_memory : ℕ → Bool
is_memory modrm = nat_lt (mod_field modrm) 3

-- what a ModRM that isn't there reads as: the register form of reg 0 and rm 0
abbrev pub absent_modrm : ℕ
absent_modrm = packed_byte 3 0 0

-- the register form with the same reg and rm
abbrev pub as_register : ℕ → ℕ
as_register modrm = packed_byte 3 (reg_field modrm) (rm_field modrm)
