-- What holds of the records of all groups.
use Rattle.std.proofs.Common.{◌≡◌, ◌≢◌, ◌≤◌, inl, inr, Err, ℕ, ◌==◌, Bool, true, false, not, ◌||◌, if◌then◌else◌, Some, refl, sym}
use Rattle.std.proofs.Common.{subst, ap, ◌∙◌, true≢false, arith}
use Rattle.x86_arch.specs.Reader.{State}
use Rattle.x86_fields.specs.declared.errors.DecodeError.TheVariants.{IncompleteDecoder}
use Rattle.x86_groups.specs.Vocabulary.{Prefixes, Form, TableRow, TemplateRow, EitherForm, Incomplete, reg_field}
use Rattle.x86_operands.specs.declared.vocabulary.Verdict.TheVariants.{Refuses}
use Rattle.x86_forms.specs.declared.Form.TheVariants as form
use Rattle.x86_forms.specs.Groups.{is_group}
use Rattle.x86_forms.specs.Words.{IsForm}
use Rattle.x86_operands.specs.Forms.{form_record, modrm_use}
use Rattle.x86_operands.specs.Templates.{size_at}
use Rattle.x86_operands.specs.Rows.{form_rows}
use Rattle.x86_operands.specs.Asks.{immediates_width}
use Rattle.x86_operands.specs.RowSteps.{record_step}
use Rattle.x86_operands.proofs.ColumnLemmas.{without_gap, at_most_64, at_most_8, chosen_fits, keeps_reg, row_fits}
use Rattle.x86_operands.proofs.RecordLemmas.{HasGap, row_left_out}
use Rattle.x86_operands.specs.Columns.{choose, instance_of_row}
use Rattle.x86_groups.specs.Groups.{TakesAddress, group_fault, group_instance, group_record, record_of}
use Rattle.x86_groups.specs.Rows.{group_rows}
use Rattle.std.specs.List.{list_all}

-- ---- all rows of all groups

abbrev pub is_8f : Form → Bool
is_8f form.ModRM_0x8f = true
is_8f f = false

-- 8F, and the forms that are no groups, may be left out
abbrev pub may_have_gap : Form → Bool
may_have_gap f = not (is_group f) || is_8f f

pub rows_fit : (f : Form) → list_all (row_fits (may_have_gap f)) (group_rows f) ≡ true
unfolding group_rows
rows_fit (form.Zv_R n) = refl
rows_fit f = refl

pub rows_keep_reg : (f : Form) → list_all keeps_reg (group_rows f) ≡ true
unfolding group_rows
rows_keep_reg (form.Zv_R n) = refl
rows_keep_reg f = refl

-- the form of a group carries no number, and has a ModRM byte
pub group_form : (f : Form) → is_group f ≡ true → IsForm f
group_form f h = grind arith

pub group_either : (f : Form) → is_group f ≡ true → modrm_use f ≡ EitherForm
unfolding modrm_use form_rows
group_either f h = grind arith

abbrev first : Bool → TableRow → Prefixes → ℕ → TemplateRow
first strict row p m = choose (group_rows row.form) row strict p m

fits : (strict : Bool) (row : TableRow) (p : Prefixes) (m : ℕ) → row_fits (may_have_gap row.form) (first strict row p m) ≡ true
fits strict row p m = chosen_fits (may_have_gap row.form) row strict p m (group_rows row.form) (rows_fit row.form)

pub group_small : (strict : Bool) (row : TableRow) (p : Prefixes) (m : ℕ) → ((group_record strict row p).instance m).size ≤ 64
unfolding group_record group_instance
group_small strict row p m = at_most_64 (size_at (first strict row p m).template m) row.opcode p

pub group_narrow : (strict : Bool) (row : TableRow) (p : Prefixes) (m : ℕ) → immediates_width ((group_record strict row p).instance m) ≤ 8
unfolding group_record group_instance
group_narrow strict row p m = at_most_8 (may_have_gap row.form) row strict p m (first strict row p m) (fits strict row p m)

fault_of : (f : Form) (p : Prefixes) → group_fault f p ≢ Some Incomplete
fault_of f p e = grind arith

pub no_fault : (strict : Bool) (row : TableRow) (p : Prefixes) → (group_record strict row p).at_opcode ≢ Some Incomplete
unfolding group_record
no_fault strict row p = fault_of row.form p

-- ---- what is left out

waits : (gaps : Bool) (row : TemplateRow) → row_fits gaps row ≡ true → row.verdict ≡ Refuses Incomplete → gaps ≡ true
waits true row h e = refl
waits false row h e = absurd (without_gap row h e)

eight_f : (f : Form) → is_8f f ≡ true → f ≡ form.ModRM_0x8f
eight_f form.ModRM_0x8f h = refl
eight_f _ h = absurd (true≢false (sym h))

pub gap_form : (strict : Bool) (row : TableRow) (p : Prefixes) (m : ℕ) → is_group row.form ≡ true →
    ((group_record strict row p).instance m).verdict ≡ Refuses Incomplete → row.form ≡ form.ModRM_0x8f
unfolding group_record group_instance
gap_form strict row p m group e =
    let h : (not (is_group row.form) || is_8f row.form) ≡ true = waits (may_have_gap row.form) (first strict row p m) (fits strict row p m) e in
    eight_f row.form (rw group at h)

abbrev is_reg_0 : ℕ → Bool
is_reg_0 reg = reg == 0

gap_8f : (o : TableRow) (strict : Bool) (p : Prefixes) (m : ℕ) →
    (instance_of_row (choose (group_rows form.ModRM_0x8f) o strict p m) o p m).verdict ≡ Refuses Incomplete → (is_reg_0 (reg_field m) ≡ false)
    × TakesAddress (instance_of_row (choose (group_rows form.ModRM_0x8f) o strict p m) o p m)
unfolding group_rows
gap_8f o strict p m e = (grind arith, (grind arith, grind arith))

gap_in_8f : (strict : Bool) (row : TableRow) (p : Prefixes) (m : ℕ) → is_group row.form ≡ true →
    ((group_record strict row p).instance m).verdict ≡ Refuses Incomplete → (is_reg_0 (reg_field m) ≡ false)
    × TakesAddress ((group_record strict row p).instance m)
unfolding group_record group_instance
gap_in_8f strict row p m group e =
    let is = gap_form strict row p m group e in
    let found = gap_8f row strict p m (subst (λ f. (instance_of_row (choose (group_rows f) row strict p m) row p m).verdict ≡ Refuses Incomplete) is e) in
    (found.0, subst (λ f. TakesAddress (instance_of_row (choose (group_rows f) row strict p m) row p m)) (sym is) found.1)

pub gap_reg : (strict : Bool) (row : TableRow) (p : Prefixes) (m : ℕ) → is_group row.form ≡ true →
    ((group_record strict row p).instance m).verdict ≡ Refuses Incomplete → reg_field m ≢ 0
gap_reg strict row p m group e z = absurd (true≢false (sym (ap is_reg_0 z) ∙ (gap_in_8f strict row p m group e).0))

pub gap_address : (strict : Bool) (row : TableRow) (p : Prefixes) (m : ℕ) → is_group row.form ≡ true →
    ((group_record strict row p).instance m).verdict ≡ Refuses Incomplete → TakesAddress ((group_record strict row p).instance m)
gap_address strict row p m group e = (gap_in_8f strict row p m group e).1

-- a row of a group is left out where it is 8F alone
pub group_left_out : (strict : Bool) (row : TableRow) (p : Prefixes) (s : State ℕ) → is_group row.form ≡ true →
    (record_step (group_record strict row p) p s).answer ≡ Err IncompleteDecoder → row.form ≡ form.ModRM_0x8f
group_left_out strict row p s group h = by (row_left_out (group_record strict row p) p s h)
  where
    by : HasGap (group_record strict row p) p → row.form ≡ form.ModRM_0x8f
    by (inl e) = absurd (no_fault strict row p e)
    by (inr (m, e)) = gap_form strict row p m group e
