-- What holds of the instances of all plain forms.
use Rattle.std.proofs.Common.{◌≡◌, ◌≢◌, ◌≤◌, inl, inr, ℕ, Err, true, false, refl, subst}
use Rattle.std.specs.List.{list_all}
use Rattle.x86_arch.specs.Reader.{State}
use Rattle.x86_fields.specs.declared.errors.DecodeError.TheVariants.{IncompleteDecoder}
use Rattle.x86_operands.specs.Vocabulary.{Prefixes, Form, Incomplete, Refuses, TableRow, EitherForm}
use Rattle.x86_forms.specs.declared.Form.TheVariants as form
use Rattle.x86_forms.specs.Groups.{is_group}
use Rattle.x86_operands.specs.RowSteps.{record_step}
use Rattle.x86_operands.specs.RowVocabulary.{TemplateRow}
use Rattle.x86_operands.specs.Columns.{choose}
use Rattle.x86_operands.specs.Asks.{immediates_width}
use Rattle.x86_operands.specs.Templates.{size_at}
use Rattle.x86_operands.specs.Forms.{form_instance, form_record, modrm_use}
use Rattle.x86_operands.specs.Rows.{form_rows}
use Rattle.x86_operands.proofs.RecordLemmas.{HasGap, row_left_out}
use Rattle.x86_operands.proofs.ColumnLemmas.{without_gap, at_most_64, at_most_8, chosen_fits, keeps_reg, row_fits}

rows_fit : (f : Form) → list_all (row_fits (is_group f)) (form_rows f) ≡ true
unfolding form_rows
rows_fit (form.Zv_R n) = refl
rows_fit f = refl

-- with a ModRM byte, rows go by neither rm nor B, and have a memory operand in the memory form
pub rows_keep_reg : (f : Form) → modrm_use f ≡ EitherForm → list_all keeps_reg (form_rows f) ≡ true
unfolding form_rows modrm_use
rows_keep_reg (form.Zv_R n) e = cc
rows_keep_reg f e = cc

module _ (row : TableRow) (p : Prefixes) (m : ℕ) where
  abbrev first : TemplateRow
  first = choose (form_rows row.form) row false p m

  fits : row_fits (is_group row.form) first ≡ true
  fits = chosen_fits (is_group row.form) row false p m (form_rows row.form) (rows_fit row.form)

  pub plain_built : is_group row.form ≡ false → ((form_record row p).instance m).verdict ≢ Refuses Incomplete
  unfolding form_record form_instance
  plain_built plain = without_gap first (subst (λ g. row_fits g first ≡ true) plain fits)

  pub plain_small : ((form_record row p).instance m).size ≤ 64
  unfolding form_record form_instance
  plain_small = at_most_64 (size_at first.template m) row.opcode p

  pub plain_narrow : immediates_width ((form_record row p).instance m) ≤ 8
  unfolding form_record form_instance
  plain_narrow = at_most_8 (is_group row.form) row false p m first fits

-- a row of a plain form is never left out
pub plain_read : (row : TableRow) (p : Prefixes) (s : State ℕ) → is_group row.form ≡ false →
    (record_step (form_record row p) p s).answer ≢ Err IncompleteDecoder
unfolding form_record
plain_read row p s plain h = by (row_left_out (form_record row p) p s h)
  where
    by : HasGap (form_record row p) p → ⊥
    by (inl e) = absurd cc
    by (inr (m, e)) = plain_built row p m plain e
