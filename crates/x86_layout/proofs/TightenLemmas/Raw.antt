-- The registers of raw fields, their address form, how few bytes they may have, and what spelled raw fields are read as.
use Rattle.std.proofs.Common.{◌≡◌, ◌≢◌, ◌==◌, ℕ, zero, suc, ◌+◌, ◌^◌, ◌<◌, ◌≤◌, ◌&&◌, true, false, if◌then◌else◌, Option, Some, None, is_some, ℤ, refl, arith}
use Rattle.std.proofs.lemmas.Bool.Decides.{nat_tests}
use Rattle.x86_fields.specs.declared.raw.Raw.{Raw}
use Rattle.x86_fields.specs.ModRM.{scale_field, is_memory, reg_field, packed_byte}
use Rattle.x86_fields.specs.Raw.{displacement_width, is_byte, sib_fits, disp_fits}
use Rattle.x86_fields.specs.Address.{base_by, index_by, scale_by}
use Rattle.x86_fields.specs.Linear.{adds_to}
use Rattle.x86_layout.specs.Tightening.Registers.{is_ip_by, number_of, scale_named, IsByteOption}
use Rattle.x86_layout.specs.Tightening.Shortest.{field_bits, omits_displacement, mod_of, fourth_bit, scale_bits, field_or, rm_alone, sib_by, rm_by}
use Rattle.x86_layout.specs.declared.tightening.registers.AddressRegisters.{AddressRegisters}
use Rattle.x86_layout.specs.declared.tightening.registers.Scale.{Scale}
use Rattle.x86_layout.specs.declared.tightening.registers.Scale.TheVariants.{One, Two, Four, Eight}

-- ---- how often a register counts

-- what the index counts
abbrev pub times : Scale → ℕ
times One = 1
times Two = 2
times Four = 4
times Eight = 8

-- how often a register counts that is here
abbrev pub part_weight : Option ℕ → ℕ → ℕ → ℕ
part_weight None n r = 0
part_weight (Some b) n r = if b == r then n else 0

-- how often a register counts in an address
abbrev pub weight : AddressRegisters → ℕ → ℕ
weight at r = part_weight at.base 1 r + part_weight at.index (times at.scale) r

-- a number from 0 to 15
abbrev pub IsBelow16 : Option ℕ → Type 0
IsBelow16 None = Unit {0}
IsBelow16 (Some n) = n < 16

-- a number from 0 to 15, and not 4: rsp can't be an index
abbrev pub IsIndex : Option ℕ → Type 0
IsIndex None = Unit {0}
IsIndex (Some n) = (n < 16) × (n ≢ 4)

-- ---- how many bytes

-- of the displacement, beside a base
abbrev pub width_with_base : ℤ → ℕ → ℕ
width_with_base disp base = if omits_displacement disp base then 0 else (if is_byte disp then 1 else 4)

-- of SIB and displacement, with this base and index
abbrev pub bytes_by : ℤ → Option ℕ → Option ℕ → ℕ
bytes_by disp None index = 5
bytes_by disp (Some b) None = (if field_bits b == 4 then 1 else 0) + width_with_base disp b
bytes_by disp (Some b) (Some i) = 1 + width_with_base disp b

abbrev pub bytes_at : ℤ → AddressRegisters → ℕ
bytes_at disp at = bytes_by disp at.base at.index

-- ---- no fields that fit have fewer bytes

pub least : (d : ℤ) (raw : Raw) (sib : Option ℕ) →
    (is_memory raw.modrm && (sib_fits raw.modrm sib && disp_fits (displacement_width raw.modrm sib) d)) ≡ true →
    is_ip_by raw.modrm sib ≡ false → bytes_by d (number_of (base_by raw sib)) (number_of (index_by raw sib)) ≤
    (if is_some sib then 1 else 0) + displacement_width raw.modrm sib
least d raw sib h e = grind (arith, nat_tests)

-- ---- registers that may be there

pub base_number : (raw : Raw) (sib : Option ℕ) → IsBelow16 (number_of (base_by raw sib))
base_number raw sib = grind (arith, nat_tests)

pub index_number : (raw : Raw) (sib : Option ℕ) → IsIndex (number_of (index_by raw sib))
index_number raw sib = grind (arith, nat_tests)

-- ---- the address form

pub base_counts : (raw : Raw) (sib : Option ℕ) (r : ℕ) → is_ip_by raw.modrm sib ≡ false →
    adds_to (base_by raw sib) 1 r ≡ part_weight (number_of (base_by raw sib)) 1 r
base_counts raw sib r e = grind (arith, nat_tests)

pub scale_is : (scale : ℕ) → scale < 4 → 2 ^ scale ≡ times (scale_named (2 ^ scale))
scale_is zero h = refl
scale_is (suc zero) h = refl
scale_is (suc (suc zero)) h = refl
scale_is (suc (suc (suc zero))) h = refl
scale_is (suc (suc (suc (suc n)))) h = absurd (omega (arith, h))

pub index_counts : (raw : Raw) (sib : Option ℕ) (r : ℕ) → IsByteOption sib →
    adds_to (index_by raw sib) (scale_by sib) r ≡ part_weight (number_of (index_by raw sib)) (times (scale_named (scale_by sib))) r
index_counts raw None r h = refl
index_counts raw (Some sib) r h = let e = scale_is (scale_field sib) (omega (arith, h)) in grind (arith, nat_tests, e)

-- ---- the fields of a byte

pub middle_is : (h m l : ℕ) → m < 8 → l < 8 → reg_field (packed_byte h m l) ≡ m
middle_is h m l a b = omega arith

pub middle_small : (n : ℕ) → reg_field n < 8
middle_small n = omega arith

-- ---- the raw fields where the registers are these

module _ (d : ℤ) (m : ℕ) (below : m < 8) where
  -- the ModRM byte and the SIB byte of spelled raw fields
  abbrev pub Modrm : Option ℕ → Option ℕ → ℕ
  Modrm b i = packed_byte (mod_of d b) m (rm_by (rm_alone b i))

  abbrev pub Sib : Option ℕ → Option ℕ → Scale → Option ℕ
  Sib b i s = sib_by (rm_alone b i) (packed_byte (scale_bits s) (field_or 4 i) (field_or 5 b))

  pub rm_small : (b i : Option ℕ) → rm_by (rm_alone b i) < 8
  rm_small b i = grind (arith, nat_tests)

  spelled_width : (b i : Option ℕ) (s : Scale) → displacement_width (Modrm b i) (Sib b i s) ≡ (elim b [ None ↦ 4 | Some n ↦ width_with_base d n ])
  spelled_width b i s = grind (arith, nat_tests)

  pub spelled_length : (b i : Option ℕ) (s : Scale) → (if is_some (Sib b i s) then 1 else 0) + displacement_width (Modrm b i) (Sib b i s) ≡ bytes_by d b i
  spelled_length b i s = rw (spelled_width b i s) (grind arith)

  pub spelled_fits : (b i : Option ℕ) (s : Scale) →
      (is_memory (Modrm b i) && (sib_fits (Modrm b i) (Sib b i s) && disp_fits (displacement_width (Modrm b i) (Sib b i s)) d)) ≡ true
  spelled_fits b i s = grind (arith, nat_tests)

  pub spelled_base : (raw : Raw) (b i : Option ℕ) (s : Scale) → raw.rex_b ≡ fourth_bit b → raw.modrm ≡ Modrm b i → IsBelow16 b →
      number_of (base_by raw (Sib b i s)) ≡ b
  spelled_base raw b i s p q h = grind (arith, nat_tests)

  pub spelled_index : (raw : Raw) (b i : Option ℕ) (s : Scale) → raw.rex_x ≡ fourth_bit i → IsIndex i → number_of (index_by raw (Sib b i s)) ≡ i
  spelled_index raw b i s p h = grind (arith, nat_tests)

  pub spelled_scale : (b : Option ℕ) (i : ℕ) (s : Scale) → scale_named (scale_by (Sib b (Some i) s)) ≡ s
  spelled_scale b i s = grind (arith, nat_tests)
