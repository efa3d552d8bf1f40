-- Forms and rows that == finds equal are the same.
use Rattle.std.proofs.Common.{◌≡◌, ℕ, true, eqb, Some, slice_get, refl, arith, ap, sym, ◌∙◌}
use Rattle.std.proofs.lemmas.Bool.{and_parts, eqb-true}
use Rattle.x86_forms.specs.declared.Form.{Form}
use Rattle.x86_forms.specs.declared.Form.TheVariants as form
use Rattle.x86_forms.specs.declared.TableRow.{TableRow}
use Rattle.x86_forms.specs.declared.ordinals.TheConstants.{FORMS}
use Rattle.x86_forms.specs.Equality.{equal_forms, equal_rows}
use Rattle.x86_forms.specs.Ordinals.{first_ordinal_of, ordinal_of}
use Rattle.x86_forms.specs.Words.{carried, IsForm}
use Rattle.x86_forms.proofs.FormLemmas.{at_ordinal}

-- the form with another number, if it carries one
abbrev numbered : Form → ℕ → Form
numbered (form.Zv_R m) n = form.Zv_R n
numbered (form.Zv_AX_R m) n = form.Zv_AX_R n
numbered (form.Zb_Ib_R m) n = form.Zb_Ib_R n
numbered (form.Zv_Ivq_R m) n = form.Zv_Ivq_R n
numbered (form.Zv_B m) n = form.Zv_B n
numbered f n = f

with_its_number : (f : Form) → numbered (numbered f 0) (carried f) ≡ f
with_its_number (form.Zv_R n) = refl
with_its_number (form.Zv_AX_R n) = refl
with_its_number (form.Zb_Ib_R n) = refl
with_its_number (form.Zv_Ivq_R n) = refl
with_its_number (form.Zv_B n) = refl
with_its_number f = refl

zero_fits : (f : Form) → IsForm (numbered f 0)
zero_fits (form.Zv_R n) = omega arith
zero_fits (form.Zv_AX_R n) = omega arith
zero_fits (form.Zb_Ib_R n) = omega arith
zero_fits (form.Zv_Ivq_R n) = omega arith
zero_fits (form.Zv_B n) = omega arith
zero_fits f = omega arith

zero_is_first : (f : Form) → ordinal_of (numbered f 0) ≡ first_ordinal_of f
unfolding ordinal_of
zero_is_first (form.Zv_R n) = refl
zero_is_first (form.Zv_AX_R n) = refl
zero_is_first (form.Zb_Ib_R n) = refl
zero_is_first (form.Zv_Ivq_R n) = refl
zero_is_first (form.Zv_B n) = refl
zero_is_first f = refl

same_variant : (f g : Form) → first_ordinal_of f ≡ first_ordinal_of g → numbered f 0 ≡ numbered g 0
same_variant f g e =
    let ordinal : ordinal_of (numbered f 0) ≡ ordinal_of (numbered g 0) = zero_is_first f ∙ (e ∙ sym (zero_is_first g)) in
    let both : Some (numbered f 0) ≡ Some (numbered g 0) = sym (at_ordinal (numbered f 0) (zero_fits f))
    ∙ (ap (slice_get FORMS.now) ordinal ∙ at_ordinal (numbered g 0) (zero_fits g)) in
    cc

-- equal forms are the same
pub same_parts : (f g : Form) → equal_forms f g ≡ true → f ≡ g
unfolding equal_forms
same_parts f g e =
    let parts = and_parts (eqb (first_ordinal_of f) (first_ordinal_of g)) (eqb (carried f) (carried g)) e in
    let variant = same_variant f g (eqb-true (first_ordinal_of f) (first_ordinal_of g) parts.0) in
    let number = eqb-true (carried f) (carried g) parts.1 in
    sym (with_its_number f) ∙ (ap (λ h. numbered h (carried f)) variant ∙ (ap (numbered (numbered g 0)) number ∙ with_its_number g))

pub same_rows : (r s : TableRow) → equal_rows r s ≡ true → r ≡ s
unfolding equal_rows equal_forms
same_rows r s e =
    let parts = and_parts (eqb r.opcode s.opcode) (equal_forms r.form s.form) e in
    let opcodes : r.opcode ≡ s.opcode = eqb-true r.opcode s.opcode parts.0 in
    let forms : r.form ≡ s.form = same_parts r.form s.form parts.1 in
    let row : ℕ → Form → TableRow = λ opcode form. record { opcode = opcode; form = form } in
    ap (λ x. row x r.form) opcodes ∙ ap (row s.opcode) forms
