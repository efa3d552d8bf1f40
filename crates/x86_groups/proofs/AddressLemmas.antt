-- A row that is read has an operand of rm in the memory form: so SIB and displacement are there in each memory form.
use Rattle.std.proofs.Common.{◌≡◌, ℕ, Bool, true, false, if◌then◌else◌, ◌||◌, ◌&&◌, List, [], None, refl, sym, ap, ◌∙◌, inl, inr, arith, true≢false}
use Rattle.std.specs.List.{list_all}
use Rattle.std.proofs.lemmas.Bool.{or_cases}
use Rattle.std.proofs.lemmas.Bool.Decides.{nat_tests}
use Rattle.x86_forms.specs.Groups.{is_group}
use Rattle.x86_forms.specs.declared.Form.TheVariants as form
use Rattle.x86_operands.specs.Asks.{immediates_width, modrm_of}
use Rattle.x86_operands.specs.Columns.{choose}
use Rattle.x86_operands.specs.Forms.{form_instance, form_record, modrm_use}
use Rattle.x86_operands.specs.Orders.{positions, sequence_of}
use Rattle.x86_operands.specs.Records.{Instance, RowRecord, is_refusal, order_of}
use Rattle.x86_operands.specs.Pieces.{RefusesTail, after_pieces, suffix_width}
use Rattle.x86_operands.specs.Rows.{form_rows}
use Rattle.x86_operands.specs.declared.order.Position.TheVariants.{Nowhere}
use Rattle.x86_operands.specs.Templates.{has_address, is_register_place, somewhere}
use Rattle.x86_operands.proofs.ColumnLemmas.{chosen_has, row_absent}
use Rattle.x86_groups.specs.Vocabulary.{Prefixes, Fault, Refuses, Form, TableRow, TemplateRow, ModrmUse, EitherForm, is_memory}
use Rattle.x86_groups.specs.Groups.{group_instance, group_record, record_of}
use Rattle.x86_groups.specs.Rows.{group_rows}

-- it refuses, or has an operand of rm
abbrev has_rm : TemplateRow → Bool
has_rm row = is_refusal row.verdict || somewhere (positions (sequence_of row.template.order)).rm

abbrev has_rm_in_memory : TemplateRow → Bool
has_rm_in_memory row = is_register_place row.at.place || has_rm row

groups_have : (f : Form) → list_all has_rm_in_memory (group_rows f) ≡ true
unfolding group_rows
groups_have (form.Zv_R n) = refl
groups_have f = refl

forms_have : (f : Form) → modrm_use f ≡ EitherForm → list_all has_rm_in_memory (form_rows f) ≡ true
unfolding form_rows modrm_use
forms_have (form.Zv_R n) e = cc
forms_have f e = cc

chosen_has_rm : (rows : List TemplateRow) (own : TableRow) (strict : Bool) (p : Prefixes) (m : ℕ) → list_all has_rm_in_memory rows ≡ true →
    is_memory m ≡ true → has_rm (choose rows own strict p m) ≡ true
chosen_has_rm rows own strict p m h mem =
    chosen_has (λ row. has_rm row ≡ true) has_rm_in_memory own strict p m refl
    (λ row test held. elim (or_cases (is_register_place row.at.place) (has_rm row) test) [
      | inl is ↦ absurd (true≢false (sym held ∙ row_absent row own strict p m is mem))
      | inr e ↦ e
    ]) rows h

abbrev instance_has_rm : Instance → Bool
instance_has_rm instance = is_refusal instance.verdict || somewhere (order_of instance).rm

abbrev pub By : Bool → TableRow → Bool → Prefixes → RowRecord
By strict row group p = if group then group_record strict row p else form_record row p

by_kind : (strict : Bool) (row : TableRow) (p : Prefixes) (m : ℕ) → is_memory m ≡ true → (group : Bool) →
    (By strict row group p).modrm ≡ EitherForm → instance_has_rm ((By strict row group p).instance m) ≡ true
unfolding group_record group_instance form_record form_instance
by_kind strict row p m mem true usage = chosen_has_rm (group_rows row.form) row strict p m (groups_have row.form) mem
by_kind strict row p m mem false usage = chosen_has_rm (form_rows row.form) row false p m (forms_have row.form usage) mem

pub uses_either_form : (u : ModrmUse) (modrm : List ℕ) → is_memory (modrm_of u modrm) ≡ true → u ≡ EitherForm
uses_either_form u modrm h = grind (arith, nat_tests)

same_test : (a rm memory : Bool) → a ≡ false → (memory ≡ true → (a || rm) ≡ true) → (rm && memory) ≡ memory
same_test a rm memory e h = grind arith

-- SIB and displacement of a row that is read are there in the memory form
pub address_is : (strict : Bool) (row : TableRow) (p : Prefixes) (modrm : List ℕ) →
    (let r = record_of strict row p in let m = modrm_of r.modrm modrm in
    is_refusal (r.instance m).verdict ≡ false → has_address (order_of (r.instance m)).rm m ≡ is_memory m)
address_is strict row p modrm accepted =
    let r = record_of strict row p in
    let m = modrm_of r.modrm modrm in
    same_test (is_refusal (r.instance m).verdict) (somewhere (order_of (r.instance m)).rm) (is_memory m) accepted
    (λ mem. by_kind strict row p m mem (is_group row.form) (uses_either_form r.modrm modrm mem))

-- ---- an instance that refuses after ModRM, and takes nothing before

pub refuses_at_once : (instance : Instance) (p : Prefixes) (m : ℕ) (fault : Fault) → instance.verdict ≡ Refuses fault → (order_of instance).rm ≡ Nowhere →
    immediates_width instance ≡ 0 → RefusesTail instance p m [] fault
refuses_at_once instance p m fault is rm none =
    after_pieces is (record {
      memory = None;
      address = [];
      immediates = [];
      suffix = [];
      spelled = refl;
      address_spelled = (ap (λ at. has_address at m) rm, refl);
      immediates_length = sym none;
      suffix_length = sym (ap suffix_width is);
    })
