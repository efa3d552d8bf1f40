-- The heads of the forms, and where their rows are in the table.
use Rattle.std.proofs.Common.{◌≡◌, ◌<◌, ◌+◌, ◌-◌, nat_le, nat_lt, ℕ, Bool, true, false, not, ◌&&◌, ◌||◌, if◌then◌else◌, Option, None, Some}
use Rattle.std.proofs.Common.{slice_get, List, [], ◌∷◌, length, take, drop, get_or, refl, sym, ap, subst, ◌∙◌, arith}
use Rattle.std.specs.List.{list_all}
use Rattle.std.specs.Option.{option_map_or}
use Rattle.std.proofs.lemmas.Bool.{and_parts, ltb-true}
use Rattle.std.proofs.lemmas.List.Elements.{All-get_or}
use Rattle.std.proofs.lemmas.List.Sums.{AllPass-from_list_all}
use Rattle.x86_operands.specs.Vocabulary.{After, BadOpcode, EitherForm, Absent, Form, Head, ModrmUse, Prefixes, TableRow, is_memory, reg_field}
use Rattle.x86_operands.specs.RowVocabulary.{Names, Own, Reg, TemplateRow}
use Rattle.x86_forms.specs.declared.Form.TheVariants as form
use Rattle.x86_forms.specs.declared.words.WordRow.{WordRow}
use Rattle.x86_forms.specs.Groups.{is_group}
use Rattle.x86_forms.specs.Ordinals.{first_ordinal_of, ordinal_of}
use Rattle.x86_forms.specs.Words.{IsForm, carried}
use Rattle.x86_forms.proofs.FormLemmas.{up_to_seven}
use Rattle.x86_operands.specs.declared.heads.After.TheVariants as follow
use Rattle.x86_operands.specs.declared.rows.Reg.TheVariants as regs
use Rattle.x86_operands.specs.declared.tables.TheConstants.{HEADS, ROWS, SPANS}
use Rattle.x86_operands.specs.Columns.{is_named, is_placed, is_there, opcode_of, instance_of_row}
use Rattle.x86_operands.specs.Forms.{Follows, IsPlainRow, form_instance, is_direct, is_searched, modrm_use, place_use, rows_use}
use Rattle.x86_operands.specs.Rows.{form_rows}
use Rattle.x86_operands.specs.Records.{template_instance}
use Rattle.x86_operands.specs.Templates.{is_read_at, is_sound_row}
use Rattle.x86_operands.specs.Words.{AtModRM, otherwise}
use Rattle.x86_operands.proofs.SureLemmas.{at_names, at_reg, first_chosen, first_of, is_read, is_sure, may_be, place_same, instance_is, present}

-- ---- where the rows of a form are in the table

pub record IsSpan (f : Form) (span : ℕ × ℕ) : Type 0 where
  pub ordered : nat_le span.0 span.1 ≡ true
  pub inside : nat_le span.1 (length ROWS.now) ≡ true
  pub rows : take (span.1 - span.0) (drop span.0 ROWS.now) ≡ form_rows f
  pub sound : list_all is_sound_row (take (span.1 - span.0) (drop span.0 ROWS.now)) ≡ true

pub span_at : (f : Form) (d : ℕ × ℕ) → IsSpan f (get_or SPANS.now (first_ordinal_of f) d)
unfolding form_rows
span_at (form.Zv_R n) d = record { ordered = refl; inside = refl; rows = refl; sound = refl }
span_at f d = record { ordered = refl; inside = refl; rows = refl; sound = refl }

-- how the form uses a ModRM byte
pub no_first_use : (rows : List TemplateRow) (f : Form) → rows ≡ form_rows f → slice_get rows 0 ≡ None → modrm_use f ≡ Absent
unfolding modrm_use
no_first_use [] f e h = ap rows_use (sym e)
no_first_use (row ∷ rest) f e h = absurd cc

pub first_use : (rows : List TemplateRow) (f : Form) (row : TemplateRow) → rows ≡ form_rows f → slice_get rows 0 ≡ Some row →
    modrm_use f ≡ place_use row.at.place
unfolding modrm_use
first_use [] f row e h = absurd cc
first_use (first ∷ rest) f row e h = ap rows_use (sym e) ∙ ap (λ (r : Option TemplateRow). option_map_or (λ (r : TemplateRow). place_use r.at.place) r Absent) h

-- ---- the head of a form's first number

abbrev head_of : Form → Head → Head
head_of f z = get_or HEADS.now (first_ordinal_of f + 1) z

abbrev row_of : Head → TemplateRow → TemplateRow
row_of head d = get_or ROWS.now head.row d

abbrev is_absent : ModrmUse → Bool
is_absent Absent = true
is_absent usage = false

abbrev is_either : ModrmUse → Bool
is_either EitherForm = true
is_either usage = false

abbrev follows : After → Bool → Bool → ModrmUse → Bool
follows follow.Nothing group searched usage = not group && is_absent usage
follows follow.Fields group searched usage = not group && is_either usage
follows follow.Cells group searched usage = group && not searched
follows follow.Search group searched usage = true

follows_is : (after : After) (group searched : Bool) (usage : ModrmUse) → follows after group searched usage ≡ true →
    (after ≡ follow.Nothing → (group ≡ false) × (usage ≡ Absent)) × (after ≡ follow.Fields → (group ≡ false) × (usage ≡ EitherForm))
    × (after ≡ follow.Cells → (group ≡ true) × (searched ≡ false))
follows_is after group searched usage h = (λ e. (grind arith, grind arith), λ e. (grind arith, grind arith), λ e. (grind arith, grind arith))

follows_by : (f : Form) (after : After) → follows after (is_group f) (is_searched f) (modrm_use f) ≡ true → Follows after f
follows_by f follow.Nothing h = (follows_is follow.Nothing (is_group f) (is_searched f) (modrm_use f) h).0 refl
follows_by f follow.Fields h = (follows_is follow.Fields (is_group f) (is_searched f) (modrm_use f) h).1 refl
follows_by f follow.Cells h = (follows_is follow.Cells (is_group f) (is_searched f) (modrm_use f) h).2 refl
follows_by f follow.Search h = tt

heads_follow : (f : Form) (z : Head) → follows (head_of f z).after (is_group f) (is_searched f) (modrm_use f) ≡ true
unfolding form_rows modrm_use
heads_follow (form.Zv_R n) z = refl
heads_follow f z = refl

-- the row is the first of the form's
abbrev blank : TemplateRow
blank = otherwise BadOpcode AtModRM

heads_are : (f : Form) (z : Head) (d : TemplateRow) →
    (if is_direct (head_of f z).after then row_of (head_of f z) d else blank) ≡
    (if is_direct (head_of f z).after then first_of (form_rows f) else blank)
unfolding form_rows
heads_are (form.Zv_R n) z d = refl
heads_are f z d = refl

abbrev is_own : Names → Bool
is_own Own = true
is_own names = false

abbrev any_reg : Reg → Bool
any_reg regs.Any = true
any_reg r = false

abbrev carries : Form → Bool
carries (form.Zv_R n) = true
carries (form.Zv_AX_R n) = true
carries (form.Zb_Ib_R n) = true
carries (form.Zv_Ivq_R n) = true
carries (form.Zv_B n) = true
carries f = false

abbrev is_head_row : TemplateRow → Bool → Bool
is_head_row row carrying = (is_sure row && is_own row.names) && (any_reg row.at.reg && (carrying || not row.template.of_opcode))

heads_are_sure : (f : Form) (z : Head) (d : TemplateRow) → (not (is_direct (head_of f z).after) || is_head_row (row_of (head_of f z) d) (carries f)) ≡ true
heads_are_sure (form.Zv_R n) z d = refl
heads_are_sure f z d = refl

-- ---- the head of each number

abbrev HasHead : Form → Type 0
HasHead f = (1 + ordinal_of f < length HEADS.now) × ((z : Head) → get_or HEADS.now (1 + ordinal_of f) z ≡ head_of f z)

first_heads : 40 < length HEADS.now
first_heads = ltb-true 40 (length HEADS.now) refl

-- the eight numbers of a form from here on have the head of the first
abbrev IsHeadOf : ℕ → Head → ℕ → Type 0
IsHeadOf first z n = get_or HEADS.now (1 + (first + n)) z ≡ get_or HEADS.now (1 + first) z

has_head : (f : Form) → IsForm f → HasHead f
unfolding ordinal_of
has_head (form.Zv_R n) below = (omega (arith, first_heads, below), λ z. up_to_seven (IsHeadOf 0 z) refl refl refl refl refl refl refl refl n below)
has_head (form.Zv_AX_R n) below = (omega (arith, first_heads, below), λ z. up_to_seven (IsHeadOf 8 z) refl refl refl refl refl refl refl refl n below)
has_head (form.Zb_Ib_R n) below = (omega (arith, first_heads, below), λ z. up_to_seven (IsHeadOf 16 z) refl refl refl refl refl refl refl refl n below)
has_head (form.Zv_Ivq_R n) below = (omega (arith, first_heads, below), λ z. up_to_seven (IsHeadOf 24 z) refl refl refl refl refl refl refl refl n below)
has_head (form.Zv_B n) below = (omega (arith, first_heads, below), λ z. up_to_seven (IsHeadOf 32 z) refl refl refl refl refl refl refl refl n below)
has_head _ below = (ltb-true _ _ refl, λ z. refl)

pub number_below : (f : Form) (n : ℕ) → IsForm f → n ≡ 1 + ordinal_of f → n < length HEADS.now
number_below f n below e = subst (λ n. n < length HEADS.now) (sym e) (has_head f below).0

pub head_at : (f : Form) (n : ℕ) (z : Head) → IsForm f → n ≡ 1 + ordinal_of f → get_or HEADS.now n z ≡ head_of f z
head_at f n z below e = ap (λ n. get_or HEADS.now n z) e ∙ (has_head f below).1 z

pub follows_at : (f : Form) (n : ℕ) (z : Head) → IsForm f → n ≡ 1 + ordinal_of f → Follows (get_or HEADS.now n z).after f
follows_at f n z below e = subst (λ head. Follows head.after f) (sym (head_at f n z below e)) (follows_by f (head_of f z).after (heads_follow f z))

-- a form that carries a number is among the first
first_numbers : (f : Form) → IsForm f → carries f ≡ true → 1 + ordinal_of f < 41
unfolding ordinal_of
first_numbers (form.Zv_R n) below h = omega (arith, below)
first_numbers (form.Zv_AX_R n) below h = omega (arith, below)
first_numbers (form.Zb_Ib_R n) below h = omega (arith, below)
first_numbers (form.Zv_Ivq_R n) below h = omega (arith, below)
first_numbers (form.Zv_B n) below h = omega (arith, below)
first_numbers f below h = absurd cc

rows_inside : list_all (λ head. nat_lt head.row (length ROWS.now)) HEADS.now ≡ true
rows_inside = refl

pub row_below : (n : ℕ) (z : Head) → n < length HEADS.now → (get_or HEADS.now n z).row < length ROWS.now
row_below n z below = ltb-true _ _ (All-get_or (λ head. nat_lt head.row (length ROWS.now) ≡ true) HEADS.now n z below
    (AllPass-from_list_all (λ head. nat_lt head.row (length ROWS.now)) HEADS.now rows_inside))

-- ---- the row of a head

own_opcode : (names : Names) (own : TableRow) (m : ℕ) → is_own names ≡ true → opcode_of names own m ≡ own.opcode
own_opcode names own m h = grind arith

own_named : (names : Names) (m : ℕ) → is_own names ≡ true → (at_names names (reg_field m) ≡ true) × (is_named names m ≡ true)
own_named names m h = (grind arith, grind arith)

any_at : (r : Reg) (k : ℕ) → any_reg r ≡ true → at_reg r k ≡ true
any_at r k h = grind arith

module _ (found : WordRow) (m : ℕ) (row : TemplateRow) (first : row ≡ first_of (form_rows found.row.form))
    (head : is_head_row row (carries found.row.form) ≡ true) (placed : is_placed row.at.place m ≡ true) where
  numbered : (carrying of_opcode : Bool) → carries found.row.form ≡ carrying → (carrying || not of_opcode) ≡ true → of_opcode ≡ true →
      found.number ≡ carried found.row.form
  numbered true of_opcode is h e = found.number_is (subst (λ n. n < 41) (sym found.form_number_is) (first_numbers found.row.form found.fits is))
  numbered false true is h e = absurd cc
  numbered false false is h e = absurd cc

  pub plain_instance : (p : Prefixes) → template_instance row.template found.number found.row.opcode p m ≡ form_instance found.row p m
  unfolding form_instance
  plain_instance p =
      let parts = and_parts (is_sure row && is_own row.names) _ head in
      let sure = and_parts (is_sure row) (is_own row.names) parts.0 in
      let rest = and_parts (any_reg row.at.reg) _ parts.1 in
      let names = own_named row.names m sure.1 in
      let may : may_be row (is_memory m) (reg_field m) ≡ true =
      rw (sym (place_same m row.at.place) ∙ placed, any_at row.at.reg (reg_field m) rest.0, names.0) refl in
      let there = present found.row false p m row may sure.0 names.1 in
      let opcode = own_opcode row.names found.row m sure.1 in
      instance_is row found.row found.number found.row.opcode p m sure.0 opcode (numbered (carries found.row.form) row.template.of_opcode refl rest.1) refl
      ∙ ap (λ chosen. instance_of_row chosen found.row p m)
      (first ∙ sym (first_chosen (form_rows found.row.form) found.row false p m (subst (λ r. is_there r found.row false p m ≡ true) first there)))

  pub plain_read : is_read_at row.template m ≡ true
  plain_read = is_read row m (and_parts (is_sure row) (is_own row.names) (and_parts (is_sure row && is_own row.names) _ head).0).0 placed

pub if_true : {X : Type 0} (test : Bool) (x y z : X) → (if test then x else z) ≡ (if test then y else z) → test ≡ true → x ≡ y
if_true true x y z h e = h
if_true false x y z h e = absurd cc

pub or_true : (a b : Bool) → (not a || b) ≡ true → a ≡ true → b ≡ true
or_true a b h e = grind arith

follows_group : (f : Form) (after : After) → Follows after f → is_direct after ≡ true → is_group f ≡ false
follows_group f follow.Nothing h e = h.0
follows_group f follow.Fields h e = h.0
follows_group f after h e = absurd cc

-- the row that a head names is read at once
pub plain_at : (found : WordRow) (m : ℕ) (z : Head) (d : TemplateRow) → is_direct (get_or HEADS.now found.form_number z).after ≡ true →
    is_placed (row_of (get_or HEADS.now found.form_number z) d).at.place m ≡ true →
    IsPlainRow found m (row_of (get_or HEADS.now found.form_number z) d).template
plain_at found m z d direct placed =
    let f = found.row.form in
    let same = head_at f found.form_number z found.fits found.form_number_is in
    let is : is_direct (head_of f z).after ≡ true = rw same at direct in
    let row : TemplateRow = row_of (head_of f z) d in
    let first : row ≡ first_of (form_rows f) =
    if_true (is_direct (head_of f z).after) row (first_of (form_rows f)) blank (heads_are f z d) is in
    let head : is_head_row row (carries f) ≡ true = or_true (is_direct (head_of f z).after) (is_head_row row (carries f)) (heads_are_sure f z d) is in
    let here : is_placed row.at.place m ≡ true = rw same at placed in
    subst (λ head. IsPlainRow found m (row_of head d).template) (sym same)
    (record {
      plain = follows_group f (head_of f z).after (follows_by f (head_of f z).after (heads_follow f z)) is;
      fits = plain_read found m row first head here;
      instance = plain_instance found m row first head here;
    })
