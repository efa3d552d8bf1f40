-- The records of the plain forms: what each has after its opcode byte, and what it yields.
use Rattle.std.specs.Prelude.{ℕ, Bool, true, false, List, [], ◌∷◌, None, ◌≡◌, ⊤}
use Rattle.x86_operands.specs.Vocabulary.{Form, Prefixes, TableRow, ModrmUse, Absent, EitherForm, After, Template}
use Rattle.x86_operands.specs.RowVocabulary.{Place, Bare, TemplateRow}
use Rattle.x86_operands.specs.Records.{Instance, RowRecord, template_instance}
use Rattle.x86_operands.specs.Columns.{choose, instance_of_row}
use Rattle.x86_operands.specs.Rows.{form_rows}
use Rattle.x86_operands.specs.Templates.{is_read_at}
use Rattle.x86_forms.specs.Groups.{is_group}
use Rattle.x86_forms.specs.declared.Form.TheVariants as form
use Rattle.x86_forms.specs.declared.words.WordRow.{WordRow}

abbrev pub place_use : Place → ModrmUse
place_use Bare = Absent
place_use place = EitherForm

-- all rows of a form have a ModRM byte, or none has
abbrev pub rows_use : List TemplateRow → ModrmUse
rows_use [] = Absent
rows_use (row ∷ rest) = place_use row.at.place

unfoldable pub modrm_use : Form → ModrmUse
modrm_use f = rows_use (form_rows f)

-- the instance of a row whose form is a plain form, at a ModRM byte; the choice makes no difference
unfoldable pub form_instance : TableRow → Prefixes → ℕ → Instance
form_instance row p m = instance_of_row (choose (form_rows row.form) row false p m) row p m

-- It never refuses at the opcode.
unfoldable pub form_record : TableRow → Prefixes → RowRecord
form_record row p = record { at_opcode = None; modrm = modrm_use row.form; instance = λ m. form_instance row p m }

-- ---- how a form goes on after its opcode byte

-- the groups that a search reads alone: mod isn't looked at, or the opcode byte may be refused
abbrev pub is_searched : Form → Bool
is_searched form.Rq_Cq_0 = true
is_searched form.Rq_Dq_0 = true
is_searched form.Cq_Rq_0 = true
is_searched form.Dq_Rq_0 = true
is_searched form.ModRM_0xf30f3af0 = true
is_searched f = false

abbrev pub Follows : After → Form → Type 0
Follows After.Nothing f = (is_group f ≡ false) × (modrm_use f ≡ Absent)
Follows After.Fields f = (is_group f ≡ false) × (modrm_use f ≡ EitherForm)
Follows After.Cells f = (is_group f ≡ true) × (is_searched f ≡ false)
Follows After.Search f = ⊤

abbrev pub is_direct : After → Bool
is_direct After.Nothing = true
is_direct After.Fields = true
is_direct after = false

-- A row of a plain form that is read at once at a ModRM byte: its template says the instance there.
pub record IsPlainRow (found : WordRow) (m : ℕ) (t : Template) : Type 0 where
  pub plain : is_group found.row.form ≡ false
  pub fits : is_read_at t m ≡ true
  pub instance : (p : Prefixes) → template_instance t found.number found.row.opcode p m ≡ form_instance found.row p m
