-- The default and the strict choice differ on fences whose rm isn't 0, and on nothing else.
use Rattle.std.proofs.Common.{◌≡◌, ℕ, zero, suc, ◌==◌, ◌⊎◌, inl, inr, Bool, true, false, not, ◌&&◌, ◌||◌, [], ◌∷◌, refl, sym, ap, ◌∙◌, arith, true≢false}
use Rattle.std.specs.List.{list_all}
use Rattle.std.proofs.lemmas.Bool.{cases_Bool, ne_eqb}
use Rattle.x86_groups.specs.Vocabulary.{Prefixes, TableRow, Form, ModrmUse, reg_field, rm_field, Rm, TemplateRow}
use Rattle.x86_forms.specs.Groups.{is_group}
use Rattle.x86_forms.specs.declared.Form.TheVariants as form
use Rattle.x86_opcodes.specs.Names.{LFENCE, MFENCE, SFENCE}
use Rattle.x86_operands.specs.Asks.{ask_of, instance_ask, used_modrm}
use Rattle.x86_operands.specs.declared.rows.Rm.TheVariants as rms
use Rattle.x86_operands.specs.Columns.{choose, is_named, is_placed, is_prefixed, is_reg, is_rm, is_there, name_at, instance_of_row}
use Rattle.x86_groups.specs.Groups.{NamesFence, lfence, mfence, sfence, IsFenceWithRm, group_modrm, group_instance, group_record, operandless}
use Rattle.x86_groups.specs.Groups.{bad_operand, record_of}
use Rattle.x86_groups.specs.Rows.{group_rows}
use Rattle.x86_operands.proofs.ColumnLemmas.{chosen_alike}

-- ---- the rows of 0F AE

-- a row that is chosen with rm 0, and unless the choice is strict with any other
abbrev by_choice : Rm → Bool
by_choice rms.ZeroIfStrict = true
by_choice rm = false

fence_named : (m reg : ℕ) → reg_field m ≡ reg → not (name_at (0 ∷ 0 ∷ 0 ∷ 0 ∷ 0 ∷ LFENCE ∷ MFENCE ∷ SFENCE ∷ []) reg == 0) ≡ true → (o : ℕ) × NamesFence m o
fence_named m (suc (suc (suc (suc (suc zero))))) e h = (LFENCE, lfence e)
fence_named m (suc (suc (suc (suc (suc (suc zero)))))) e h = (MFENCE, mfence e)
fence_named m (suc (suc (suc (suc (suc (suc (suc zero))))))) e h = (SFENCE, sfence e)
fence_named m _ e h = absurd (true≢false (sym h))

module _ (own : TableRow) (p : Prefixes) (m : ℕ) where
  -- a row that is there under both choices or under neither
  abbrev same_row : TemplateRow → Bool
  same_row row = not (by_choice row.at.rm) || ((rm_field m == 0) || not (is_there row own false p m))

  by_zero : (a b z rest : Bool) → (z || not (a && (b && rest))) ≡ true → (a && (b && (z && rest))) ≡ (a && (b && rest))
  by_zero a b z rest h = grind arith

  rm_same : (r : Rm) (a b rest : Bool) → (not (by_choice r) || ((rm_field m == 0) || not (a && (b && (is_rm r false m && rest))))) ≡ true →
      (a && (b && (is_rm r true m && rest))) ≡ (a && (b && (is_rm r false m && rest)))
  rm_same rms.ZeroIfStrict a b rest h = by_zero a b (rm_field m == 0) rest h
  rm_same r a b rest h = refl

  row_same : (row : TemplateRow) → same_row row ≡ true → is_there row own true p m ≡ is_there row own false p m
  row_same row h = rm_same row.at.rm (is_placed row.at.place m) (is_reg row.at.reg m) (is_prefixed row.when own p && is_named row.names m) h

  fence_of : list_all same_row (group_rows form.ModRM_0x0fae) ≡ false → IsFenceWithRm form.ModRM_0x0fae p m
  unfolding group_rows
  fence_of h =
      let names = fence_named m (reg_field m) refl (grind arith) in
      record {
        opcode = names.0;
        group = refl;
        no_f2 = grind arith;
        no_f3 = grind arith;
        no_66 = grind arith;
        register = grind arith;
        named = names.1;
        other_rm = grind arith;
      }

same_or_fence : (f : Form) (own : TableRow) (p : Prefixes) (m : ℕ) →
    (choose (group_rows f) own true p m ≡ choose (group_rows f) own false p m) ⊎ IsFenceWithRm f p m
unfolding group_rows
same_or_fence form.ModRM_0x0fae own p m = elim (cases_Bool (list_all (same_row own p m) (group_rows form.ModRM_0x0fae))) [
  | inl e ↦ inl (chosen_alike (same_row own p m) own true false p p m m (row_same own p m) (group_rows form.ModRM_0x0fae) e)
  | inr e ↦ inr (fence_of own p m e)
]
same_or_fence f own p m = inl refl

-- ---- instances

pub same_elsewhere : (row : TableRow) (p : Prefixes) (m : ℕ) → (group_instance row p m true ≡ group_instance row p m false) ⊎ IsFenceWithRm row.form p m
unfolding group_instance
same_elsewhere row p m = elim (same_or_fence row.form row p m) [
  | inl e ↦ inl (ap (λ chosen. instance_of_row chosen row p m) e)
  | inr h ↦ inr h
]

module _ (row : TableRow) (p : Prefixes) (m : ℕ) (h : IsFenceWithRm row.form p m) where
  by_default : (o : ℕ) → NamesFence m o → instance_of_row (choose (group_rows form.ModRM_0x0fae) row false p m) row p m ≡ operandless o p
  unfolding group_rows
  by_default o (lfence e) = rw (h.no_f2, h.no_f3, h.no_66, h.register, e) (rw e refl)
  by_default o (mfence e) = rw (h.no_f2, h.no_f3, h.no_66, h.register, e) (rw e refl)
  by_default o (sfence e) = rw (h.no_f2, h.no_f3, h.no_66, h.register, e) (rw e refl)

  strictly : (o : ℕ) → NamesFence m o → instance_of_row (choose (group_rows form.ModRM_0x0fae) row true p m) row p m ≡ bad_operand p
  unfolding group_rows
  strictly o (lfence e) = rw (h.no_f2, h.no_f3, h.no_66, h.register, ne_eqb (rm_field m) 0 h.other_rm, e) refl
  strictly o (mfence e) = rw (h.no_f2, h.no_f3, h.no_66, h.register, ne_eqb (rm_field m) 0 h.other_rm, e) refl
  strictly o (sfence e) = rw (h.no_f2, h.no_f3, h.no_66, h.register, ne_eqb (rm_field m) 0 h.other_rm, e) refl

  pub fence_by_default : group_instance row p m false ≡ operandless h.opcode p
  unfolding group_instance
  fence_by_default = ap (λ f. instance_of_row (choose (group_rows f) row false p m) row p m) h.group ∙ by_default h.opcode h.named

  pub fence_strictly : group_instance row p m true ≡ bad_operand p
  unfolding group_instance
  fence_strictly = ap (λ f. instance_of_row (choose (group_rows f) row true p m) row p m) h.group ∙ strictly h.opcode h.named

-- what a group has is the same under both choices
pub same_ask : (usage : ModrmUse) (at : ℕ) (row : TableRow) (strict : Bool) (p : Prefixes) (m : ℕ) →
    instance_ask usage at (group_instance row p m strict) ≡ instance_ask usage at (group_instance row p m false)
same_ask usage at row false p m = refl
same_ask usage at row true p m = elim (same_elsewhere row p m) [
  | inl e ↦ ap (instance_ask usage at) e
  | inr h ↦ ap (instance_ask usage at) (fence_strictly row p m h) ∙ sym (ap (instance_ask usage at) (fence_by_default row p m h))
]

-- and so is what a row has
pub row_same_ask : (strict : Bool) (row : TableRow) (p : Prefixes) (m : ℕ) → ask_of (record_of strict row p) m ≡ ask_of (record_of false row p) m
unfolding group_record ask_of
row_same_ask strict row p m = elim (cases_Bool (is_group row.form)) [
  | inl e ↦ rw e (same_ask (group_modrm row.form) (used_modrm (group_modrm row.form) m) row strict p (used_modrm (group_modrm row.form) m))
  | inr e ↦ rw e refl
]
