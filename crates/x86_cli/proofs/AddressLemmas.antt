-- The form of raw fields has the value that their bits encode.
use Rattle.std.proofs.Common.{◌≡◌, ℕ, ◌+◌, ◌*◌, ◌%◌, ◌^◌, ◌<◌, ◌==◌, ◌&&◌, not, Bool, true, false, if◌then◌else◌, Option, Some, None, List}
use Rattle.std.proofs.Common.{slice_index, refl, ap, ◌∙◌, arith}
use Rattle.std.specs.Int.{w32, w64, cast_unsigned}
use Rattle.x86_regs.specs.declared.RegSpec.{RegSpec}
use Rattle.x86_fields.specs.declared.raw.Raw.{Raw}
use Rattle.x86_fields.specs.Address.{address_register, base_by, base_of, extend, index_by, index_of, next_pointer, scale_by}
use Rattle.x86_fields.specs.Linear.{constant_by, linear, modulus_by, part_value, raw_form, value_at}
use Rattle.x86_fields.specs.ModRM.{mod_field, rm_field, scale_field, index_field, base_field}
use Rattle.x86_fields.proofs.LinearLemmas.{value_by_parts}
use Rattle.x86_cli.specs.Addresses.{base_at, encoded_address, index_at, register_at}

either : (c : Bool) (a b : Option RegSpec) (times : ℕ) (regs : List ℕ) (next v w : ℕ) → part_value a times regs next ≡ v → part_value b times regs next ≡ w →
    part_value (if c then a else b) times regs next ≡ (if c then v else w)
either true a b times regs next v w e f = e
either false a b times regs next v w e f = f

module _ (raw : Raw) (regs : List ℕ) (next : ℕ) where
  pointer : part_value (Some (next_pointer raw)) 1 regs next ≡ next
  pointer = grind arith

  register : (bit : Bool) (field times : ℕ) → field < 8 →
      part_value (Some (address_register raw bit field)) times regs next ≡ times * register_at regs bit field
  register true field times small = grind arith
  register false field times small = grind arith

  base : (sib : Option ℕ) → part_value (base_by raw sib) 1 regs next ≡ base_at raw sib regs next
  base None = grind (arith, pointer, register, either)
  base (Some sib) = grind (arith, register, either)

  index : (sib : Option ℕ) → part_value (index_by raw sib) (scale_by sib) regs next ≡ index_at raw sib regs
  index None = refl
  index (Some sib) = grind (arith, register, either)

  by_size : (short : Bool) (sum : ℕ) → raw.address_size ≡ short → (sum + constant_by short raw.disp) % modulus_by short
      ≡ (if short then (sum + cast_unsigned w32 raw.disp) % 2 ^ 32 else (sum + cast_unsigned w64 raw.disp) % 2 ^ 64)
  by_size true sum is = refl
  by_size false sum is = refl

  pub by_the_bits : value_at (raw_form raw) regs next ≡ encoded_address raw regs next
  by_the_bits =
      value_by_parts raw.address_size (base_of raw) (index_of raw) (scale_by raw.sib) raw.disp regs next
      ∙ ap (λ b. (b + part_value (index_of raw) (scale_by raw.sib) regs next + constant_by raw.address_size raw.disp) % modulus_by
      raw.address_size) (base raw.sib)
      ∙ ap (λ i. (base_at raw raw.sib regs next + i + constant_by raw.address_size raw.disp) % modulus_by raw.address_size) (index raw.sib)
      ∙ by_size raw.address_size (base_at raw raw.sib regs next + index_at raw raw.sib regs) refl
