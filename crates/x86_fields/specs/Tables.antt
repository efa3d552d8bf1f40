-- What tables 2-2 and 2-3 of Intel SDM volume 2 (section 2.1.5) print, read at every ModRM and SIB byte: the bytes of the
-- displacement, the base, the index and the scale. Rm 101 at mod 00 is the next instruction (section 2.2.1.6), X makes index
-- 100 a register, and a register is under the fourth bit of a REX (section 2.2.1.2).
use Rattle.std.specs.Prelude.{ℕ, Bool, Option, Some, None, List, [], ◌∷◌, map, replicate}
use Rattle.std.specs.List.{range_with_len}
use Rattle.x86_regs.specs.declared.RegSpec.{RegSpec}
use Rattle.x86_fields.specs.declared.raw.Raw.{Raw}
use Rattle.x86_fields.specs.ModRM.{packed_byte}
use Rattle.x86_fields.specs.Raw.{displacement_width}
use Rattle.x86_fields.specs.Address.{address_register, base_by, index_by, scale_by}

-- ---- what the definitions say

-- a list for each value of a field of three bits
abbrev pub at_each : {A : Type 0} → (ℕ → A) → List A
at_each cell = map cell (range_with_len 0 8)

-- at each reg, and there at each rm but for 100
abbrev pub without_sib : {A : Type 0} → ℕ → (ℕ → A) → List (List A)
without_sib mode cell = at_each (λ reg. map (λ rm. cell (packed_byte mode reg rm)) (0 ∷ 1 ∷ 2 ∷ 3 ∷ 5 ∷ 6 ∷ 7 ∷ []))

-- at each scale, index and base
abbrev pub at_each_sib : {A : Type 0} → (ℕ → A) → List (List (List A))
at_each_sib cell = map (λ scale. at_each (λ index. at_each (λ base. cell (packed_byte scale index base)))) (range_with_len 0 4)

-- at each reg with rm 100, and there at each SIB
abbrev pub with_sib : {A : Type 0} → ℕ → (ℕ → ℕ → A) → List (List (List (List A)))
with_sib mode cell = at_each (λ reg. at_each_sib (cell (packed_byte mode reg 4)))

abbrev pub width_there : ℕ → ℕ
width_there modrm = displacement_width modrm None

abbrev pub width_at_sib : ℕ → ℕ → ℕ
width_at_sib modrm sib = displacement_width modrm (Some sib)

abbrev pub base_there : Raw → ℕ → Option RegSpec
base_there raw modrm = base_by (record raw { modrm = modrm }) None

abbrev pub base_at_sib : Raw → ℕ → ℕ → Option RegSpec
base_at_sib raw modrm sib = base_by (record raw { modrm = modrm }) (Some sib)

abbrev pub index_at_sib : Raw → Bool → ℕ → Option RegSpec
index_at_sib raw x sib = index_by (record raw { rex_x = x }) (Some sib)

abbrev pub scale_at_sib : ℕ → ℕ
scale_at_sib sib = scale_by (Some sib)

-- ---- what the tables have

-- table 2-2: the cells of a mod are the same at each reg
abbrev pub at_each_reg : {A : Type 0} → List A → List (List A)
at_each_reg cells = replicate 8 cells

-- table 2-3: cells by base, the same at each scale and index
abbrev pub by_base : {A : Type 0} → List A → List (List (List A))
by_base cells = replicate 4 (replicate 8 cells)

-- table 2-3: cells by index, the same at each scale and base
abbrev pub by_index : {A : Type 0} → List A → List (List (List A))
by_index cells = replicate 4 (map (replicate 8) cells)

abbrev pub base_named : Raw → ℕ → Option RegSpec
base_named raw n = Some (address_register raw raw.rex_b n)

abbrev pub index_named : Raw → Bool → ℕ → Option RegSpec
index_named raw x n = Some (address_register raw x n)
