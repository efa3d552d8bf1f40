-- How rows go on after their opcode byte, and where the rows of a group are in the table.
use Rattle.std.proofs.Common.{◌≡◌, ◌-◌, nat_le, ℕ, Bool, true, false, None, length, take, drop, get_or, refl, arith}
use Rattle.std.specs.List.{list_all}
use Rattle.x86_groups.specs.Vocabulary.{After, EitherForm, Form, Prefixes, TableRow}
use Rattle.x86_forms.specs.declared.Form.TheVariants as form
use Rattle.x86_forms.specs.declared.words.WordRow.{WordRow}
use Rattle.x86_forms.specs.Ordinals.{first_ordinal_of}
use Rattle.x86_operands.specs.declared.templates.Template.{Template}
use Rattle.x86_operands.specs.Forms.{Follows, IsPlainRow, form_record, is_searched}
use Rattle.x86_operands.specs.Records.{template_instance}
use Rattle.x86_operands.specs.Templates.{is_sound_row}
use Rattle.x86_groups.specs.declared.tables.TheConstants.{ROWS, SPANS}
use Rattle.x86_groups.specs.Groups.{group_fault, group_modrm, group_record, record_of}
use Rattle.x86_groups.specs.Heads.{Continues}
use Rattle.x86_groups.specs.Rows.{group_rows}

-- ---- where the rows of a group are in the table

pub record IsSpan (f : Form) (span : ℕ × ℕ) : Type 0 where
  pub ordered : nat_le span.0 span.1 ≡ true
  pub inside : nat_le span.1 (length ROWS.now) ≡ true
  pub rows : take (span.1 - span.0) (drop span.0 ROWS.now) ≡ group_rows f
  pub sound : list_all is_sound_row (take (span.1 - span.0) (drop span.0 ROWS.now)) ≡ true

pub span_at : (f : Form) (d : ℕ × ℕ) → IsSpan f (get_or SPANS.now (first_ordinal_of f) d)
unfolding group_rows
span_at (form.Zv_R n) d = record { ordered = refl; inside = refl; rows = refl; sound = refl }
span_at f d = record { ordered = refl; inside = refl; rows = refl; sound = refl }

-- ---- what follows

no_fault_at : (f : Form) (p : Prefixes) → is_searched f ≡ false → group_fault f p ≡ None
no_fault_at f p h = grind arith

either_at : (f : Form) → is_searched f ≡ false → group_modrm f ≡ EitherForm
either_at f h = grind arith

pub begins : (after : After) (strict : Bool) (row : TableRow) (p : Prefixes) → Follows after row.form → Continues after (record_of strict row p)
unfolding group_record form_record
begins After.Nothing strict row p h = rw h.0 (refl, h.1)
begins After.Fields strict row p h = rw h.0 (refl, h.1)
begins After.Cells strict row p h = rw h.0 (no_fault_at row.form p h.1, either_at row.form h.1)
begins After.Search strict row p h = tt

pub plain_is : (found : WordRow) (m : ℕ) (t : Template) → IsPlainRow found m t → (strict : Bool) (p : Prefixes) →
    template_instance t found.number found.row.opcode p m ≡ (record_of strict found.row p).instance m
unfolding form_record
plain_is found m t h strict p = rw h.plain (h.instance p)
