-- What an operand takes, and where it ends; and the shape of raw fields.
use Rattle.std.proofs.Common.{◌≡◌, ℕ, List, length, Option, Some, None, Ok, refl, sym, ap, subst, ◌∙◌, suc, Bool, ℤ, pos}
use Rattle.std.proofs.lemmas.List.{nil_from_length}
use Rattle.std.specs.Int.{byte_len, from_le_bytes, w32}
use Rattle.std.specs.Option.{option_map_or, option_map}
use Rattle.x86_operands.specs.Vocabulary.{Prefixes, Raw, Slot, Operand, OperandEncoding, RegSpec, Position, Nowhere, Operands}
use Rattle.x86_fields.specs.Steps.{pure, number_step}
use Rattle.x86_fields.proofs.StepLemmas.{Takes, takes_pure}
use Rattle.x86_fields.proofs.EndLemmas.{EndsWell, IsEmpty, Only, ends_pure, ends_map}
use Rattle.x86_fields.proofs.PieceLemmas.{IsNumber, ends_number, takes_number, takes_map}
use Rattle.x86_operands.specs.RowSteps.{Immediate, immediate_read, known_operand, number_or, operand_step, other_read, put_in}
use Rattle.x86_operands.specs.Asks.{immediate_width, part_width}
use Rattle.x86_operands.specs.Pieces.{operand_from}
use Rattle.std.specs.Prelude.{FitsSigned}
use Rattle.std.proofs.Math.Dec.{eqb-suc-zero}
use Rattle.std.proofs.lemmas.Int.{to_z-of_z}
use Rattle.x86_fields.specs.Address.{base_of, index_of, scale_by}
use Rattle.x86_fields.specs.Linear.{linear, raw_form, value_at}
use Rattle.x86_operands.specs.Operands.{shape_by, shape, operand_form, operand_address}

module _ (p : Prefixes) (m : ℕ) where
  -- ---- one operand

  abbrev IsOperand : OperandEncoding → List ℕ → Slot × Operand → Type 0
  IsOperand s q x = (x ≡ operand_from s p m q) × (length q ≡ immediate_width s)

  plain : {X : Type 0} (x : X) (q : List ℕ) → length q ≡ 0 → Takes (pure x) q (Ok x)
  plain x q none = subst (λ l. Takes (pure x) l (Ok x)) (sym (nil_from_length q none)) (takes_pure (Ok x))

  abbrev IsRead : Option Immediate → Slot × Operand → List ℕ → Slot × Operand → Type 0
  IsRead i known q x = (x ≡ option_map_or (λ j. j.1 (from_le_bytes j.0 q)) i known) × (length q ≡ option_map_or (λ j. byte_len j.0) i 0)

  reads : (i : Option Immediate) (known : Slot × Operand) → EndsWell (Only (IsRead i known)) IsEmpty (number_or i known)
      × ((q : List ℕ) → length q ≡ option_map_or (λ j. byte_len j.0) i 0 →
      Takes (number_or i known) q (Ok (option_map_or (λ j. j.1 (from_le_bytes j.0 q)) i known)))
  reads None known = (ends_pure (Only (IsRead None known)) IsEmpty known (refl, refl), plain known)
  reads (Some (w, g)) known = (
    ends_map (IsNumber w) IsEmpty (IsRead (Some (w, g)) known) (number_step w) g (ends_number w) (λ q n h. (ap g h.0, h.1)),
    λ q e. takes_map (number_step w) g q (from_le_bytes w q) (takes_number w q e),
  )

  reads_operand : (s : OperandEncoding) → EndsWell (Only (IsOperand s)) IsEmpty (operand_step s p m None)
      × ((q : List ℕ) → length q ≡ immediate_width s → Takes (operand_step s p m None) q (Ok (operand_from s p m q)))
  unfolding operand_step
  reads_operand s = reads (immediate_read s) (known_operand s p m None)

  -- ---- one operand at its position

  abbrev pub IsPut : Position → OperandEncoding → Operands → List ℕ → Operands → Type 0
  IsPut at s before q x = (x ≡ put_in at (operand_from s p m q) before) × (length q ≡ part_width at s)

  pub reads_other : (at : Position) (s : OperandEncoding) (before : Operands) → EndsWell (Only (IsPut at s before)) IsEmpty (other_read at s p m before)
      × ((q : List ℕ) → length q ≡ part_width at s → Takes (other_read at s p m before) q (Ok (put_in at (operand_from s p m q) before)))
  reads_other Nowhere s before = (ends_pure (Only (IsPut Nowhere s before)) IsEmpty before (refl, refl), plain before)
  reads_other at s before = (
    ends_map (IsOperand s) IsEmpty (IsPut at s before) (operand_step s p m None) (λ x. put_in at x before) (reads_operand s).0
        (λ q x h. (ap (λ y. put_in at y before) h.0, h.1)),
    λ q e. takes_map (operand_step s p m None) (λ x. put_in at x before) q (operand_from s p m q) ((reads_operand s).1 q e),
  )

-- ---- the shape of raw fields

shape_form : (short : Bool) (b i : Option RegSpec) (s : ℕ) (d : ℤ) → FitsSigned w32 d → operand_form short (shape_by b i s d).1 ≡ Some (linear short b i s d)
shape_form short None None s d fits = ap (λ e. Some (linear short None None s e)) (to_z-of_z w32 d fits)
shape_form short (Some b) None s (pos (suc n)) fits = rw (eqb-suc-zero n) refl
shape_form short None (Some i) s (pos (suc n)) fits = rw (eqb-suc-zero n) refl
shape_form short (Some b) (Some i) s (pos (suc n)) fits = rw (eqb-suc-zero n) refl
shape_form short b i s d fits = refl

pub shape_has_form : (raw : Raw) → FitsSigned w32 raw.disp → operand_form raw.address_size (shape raw).1 ≡ Some (raw_form raw)
unfolding shape
shape_has_form raw fits = shape_form raw.address_size (base_of raw) (index_of raw) (scale_by raw.sib) raw.disp fits

-- so its address is that of the raw fields
pub shape_has_address : (raw : Raw) (regs : List ℕ) (next : ℕ) → FitsSigned w32 raw.disp →
    operand_address raw.address_size (shape raw).1 regs next ≡ Some (value_at (raw_form raw) regs next)
shape_has_address raw regs next fits = ap (option_map (λ f. value_at f regs next)) (shape_has_form raw fits)
