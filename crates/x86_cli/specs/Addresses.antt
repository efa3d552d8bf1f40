-- The address that the bits of ModRM, SIB, REX and a displacement encode. Source: Intel SDM volume 2, tables 2-2 and 2-3
-- (section 2.1.5), sections 2.2.1.2 (the fourth bits) and 2.2.1.6 (the next instruction).
use Rattle.std.specs.Prelude.{ℕ, ◌+◌, ◌*◌, ◌%◌, ◌^◌, ◌==◌, ◌&&◌, not, Bool, if◌then◌else◌, Option, Some, None, List, slice_index}
use Rattle.std.specs.Int.{w32, w64, cast_unsigned}
use Rattle.x86_fields.specs.declared.raw.Raw.{Raw}
use Rattle.x86_fields.specs.ModRM.{mod_field, rm_field, scale_field, index_field, base_field}

-- what the register has whose number is a field of three bits under its fourth
abbrev pub register_at : List ℕ → Bool → ℕ → ℕ
register_at regs fourth field = slice_index regs (if fourth then 8 + field else field)

-- Table 2-2: the register rm, or at mod 00 with rm 101 the next instruction. Table 2-3: the register of the base field, or
-- none at mod 00 with base 101.
abbrev pub base_at : Raw → Option ℕ → List ℕ → ℕ → ℕ
base_at raw None regs next = if (mod_field raw.modrm == 0) && (rm_field raw.modrm == 5) then next else register_at regs raw.rex_b (rm_field raw.modrm)
base_at raw (Some sib) regs next = if (mod_field raw.modrm == 0) && (base_field sib == 5) then 0 else register_at regs raw.rex_b (base_field sib)

-- Table 2-3: the register of the index field times 1, 2, 4 or 8, or none at index 100 without X.
abbrev pub index_at : Raw → Option ℕ → List ℕ → ℕ
index_at raw None regs = 0
index_at raw (Some sib) regs = if (index_field sib == 4) && not raw.rex_x then 0 else 2 ^ scale_field sib * register_at regs raw.rex_x (index_field sib)

-- Their sum with the displacement, in 64 bits, or in 32 under 67.
abbrev pub encoded_address : Raw → List ℕ → ℕ → ℕ
encoded_address raw regs next =
    let sum = base_at raw raw.sib regs next + index_at raw raw.sib regs in
    if raw.address_size then (sum + cast_unsigned w32 raw.disp) % 2 ^ 32 else (sum + cast_unsigned w64 raw.disp) % 2 ^ 64
