-- What is written in place is what the steps say.
use Rattle.std.proofs.Common.{◌≡◌, ℕ, true, false, not, ◌||◌, ◌≢◌, if◌then◌else◌, refl, sym, ap, ◌∙◌, Ok, Err, Result, None, Some, Option, arith}
use Rattle.x86_arch.specs.Reader.{State}
use Rattle.x86_operands.specs.Vocabulary.{DecodeError, Prefixes, Raw, OperandEncoding, Position, Nowhere, Width, Template, Operands, is_memory}
use Rattle.x86_fields.specs.Raw.{read_raw}
use Rattle.x86_fields.specs.Steps.{Outcome, outcome, then_from, pure, ◌>>=◌}
use Rattle.x86_operands.specs.RowSteps.{address_step, known_operand, leading_read, other_read, put_encoded, put_in, read_instance, reading_with, rm_read}
use Rattle.x86_operands.specs.Records.{template_instance}
use Rattle.x86_operands.specs.Operands.{shape}
use Rattle.x86_operands.specs.Encodings.{resolved}
use Rattle.x86_operands.specs.Templates.{fits_form, fixed_encoding, has_free_sizes, index_of_position, is_last, is_read_at, is_stack, reg_encoding}
use Rattle.x86_operands.specs.Templates.{reg_part, rm_encoding, somewhere}
use Rattle.x86_operands.specs.OperandList.{sized_by, value_if_ok}
use Rattle.x86_operands.specs.Places.{place_after_address, place_of}
use Rattle.x86_operands.proofs.TemplateLemmas.{in_order, last_by, read_parts, sizes_by}

-- a row that has nothing but what is read at once
no_extra : (at : Position) → somewhere at ≡ false → at ≡ Nowhere
no_extra Nowhere h = refl
no_extra at h = cc

module _ (t : Template) (n : ℕ) (p : Prefixes) (m : ℕ) where
  pub instance_is_read : (opcode : ℕ) (s : State ℕ) → is_read_at t m ≡ true → has_free_sizes t ≡ true → read_instance (template_instance t n opcode p m) p m s ≡
      (leading_read t.order (reg_part t n) (rm_encoding t.rm) p m (sized_by t p m) >>= λ leading.
      other_read t.order.last (resolved t.last n p) p m leading >>= λ operand_list. pure (reading_with opcode p operand_list)) s
  unfolding read_instance
  instance_is_read opcode s h free =
      let parts = read_parts t m h in
      rw (in_order t.order parts.sound.order, no_extra t.order.extra parts.extra, sizes_by t m opcode p free) refl

  -- the operands of reg and rm end where SIB and displacement do
  ends_with_memory : (r : Result (Option Raw) DecodeError) (u : State ℕ) (f : Option Raw → Operands) (g : Operands → Operands) →
      (((λ _. then_from r u (λ memory. pure (f memory))) >>= λ x. pure (g x)) u).after ≡ u
  ends_with_memory (Ok memory) u f g = refl
  ends_with_memory (Err x) u f g = refl

  pub address_is_read : (s u : State ℕ) (r : Result Operands DecodeError) (operand_list : Operands) →
      outcome r u ≡ leading_read t.order (reg_part t n) (rm_encoding t.rm) p m operand_list s → place_of u.since_mark ≡ place_after_address t.order.rm p m s
  address_is_read s u r operand_list e =
      let memory : Outcome (Option Raw) = address_step t.order.rm p m s in
      ap (λ o. place_of o.after.since_mark) e ∙ ap (λ u. place_of u.since_mark) (ends_with_memory memory.answer memory.after
      (λ raw. put_in t.order.rm (known_operand (rm_encoding t.rm) p m raw) operand_list) (put_in t.order.reg (known_operand (reg_part t n) p m None)))

-- ---- in place

pub at_position : (at : Position) (k n : ℕ) (l : OperandEncoding) (p : Prefixes) (m : ℕ) (operand_list : Operands) (s : State ℕ) →
    k ≡ index_of_position at → at ≢ Nowhere → is_last l ≡ true →
    put_encoded k (resolved l 0 p) p m None operand_list s ≡ other_read at (resolved l n p) p m operand_list s
at_position Nowhere k n l p m operand_list s e h last = absurd (h refl)
at_position at k n l p m operand_list s e h last = rw (e, last_by l 0 n p last) refl

stack_in_memory : (w : Width) (p : Prefixes) (m : ℕ) (raw : Raw) → (not (is_stack w) || not (is_memory m)) ≡ true → is_memory m ≡ true →
    known_operand (rm_encoding w) p m (Some raw) ≡ shape raw
stack_in_memory w p m raw h e = grind arith

pub rm_in_memory : (at : Position) (t : Template) (p : Prefixes) (m : ℕ) (operand_list : Operands) (r : Result Raw DecodeError)
    (s u : State ℕ) → outcome r u ≡ read_raw p m s → is_memory m ≡ true → fits_form t m ≡ true → at ≢ Nowhere →
    rm_read at (rm_encoding t.rm) p m operand_list s ≡ then_from r u (λ raw. pure (put_in at (shape raw) operand_list))
rm_in_memory Nowhere t p m operand_list r s u is e h k = absurd (k refl)
rm_in_memory at t p m operand_list (Err x) s u is e h k = rw (e, ← is) refl
rm_in_memory at t p m operand_list (Ok raw) s u is e h k =
    rw (e, ← is) (ap (λ x. outcome (Ok (put_in at x operand_list)) u) (stack_in_memory t.rm p m raw h e))

pub rm_in_register : (at : Position) (w : Width) (p : Prefixes) (m : ℕ) (operand_list : Operands) (s : State ℕ) → is_memory m ≡ false →
    rm_read at (rm_encoding w) p m operand_list s ≡ outcome (Ok (put_in at (known_operand (rm_encoding w) p m None) operand_list)) s
rm_in_register Nowhere w p m operand_list s e = refl
rm_in_register at w p m operand_list s e = rw e refl

elsewhere : (at : Position) → at ≢ Nowhere → somewhere at ≡ true
elsewhere Nowhere h = absurd (h refl)
elsewhere at h = refl

module _ (t : Template) (n : ℕ) (p : Prefixes) (m : ℕ) (operand_list : Operands) (s : State ℕ) where
  abbrev Leading : Outcome Operands
  Leading = leading_read t.order (reg_part t n) (rm_encoding t.rm) p m operand_list s

  pub without_modrm : t.order.rm ≡ Nowhere → Leading ≡
      outcome (Ok (put_in t.order.reg (known_operand (fixed_encoding t.of_opcode t.reg n) p m None) operand_list)) s
  without_modrm h = rw h refl

  pub with_modrm : (u : State ℕ) (r : Result (Unit {0}) DecodeError) (written : Operands) →
      outcome (value_if_ok r written) u ≡ rm_read t.order.rm (rm_encoding t.rm) p m operand_list s → t.order.rm ≢ Nowhere →
      Leading ≡
      then_from (value_if_ok r written) u (λ x. pure (put_in t.order.reg (known_operand (reg_encoding t.reg) p m None) x))
  with_modrm u r written is h =
      ap (λ (o : Outcome Operands). then_from o.answer o.after (λ x. pure (put_in t.order.reg (known_operand (reg_part t n) p m None) x))) (sym is)
      ∙ ap (λ b. then_from (value_if_ok r written) u (λ x. pure (put_in t.order.reg (known_operand
      (if b then reg_encoding t.reg else fixed_encoding t.of_opcode t.reg n) p m None) x))) (elsewhere t.order.rm h)
