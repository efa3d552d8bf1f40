-- A row that is read at once wherever its form, mod and reg are: where it may be, it is the first that is there.
use Rattle.std.proofs.Common.{◌≡◌, ℕ, zero, suc, nat_le, ◌==◌, Bool, true, false, not, ◌&&◌, if◌then◌else◌, List, [], ◌∷◌}
use Rattle.std.proofs.Common.{slice_index_or, refl, ◌∙◌, arith}
use Rattle.std.proofs.lemmas.Bool.{and_parts}
use Rattle.x86_operands.specs.Vocabulary.{Prefixes, TableRow, Template, Width, Verdict, Accepts, PrefixChange, Keeps}
use Rattle.x86_operands.specs.Vocabulary.{BadOpcode, reg_field, is_memory}
use Rattle.x86_operands.specs.RowVocabulary.{TemplateRow, Rm, Names, ByReg, Place, Memory, Register, Reg, When}
use Rattle.x86_operands.specs.declared.rows.Reg.TheVariants as regs
use Rattle.x86_operands.specs.declared.rows.Rm.TheVariants as rms
use Rattle.x86_operands.specs.declared.rows.When.TheVariants as when
use Rattle.x86_operands.specs.Words.{AtModRM, otherwise}
use Rattle.x86_operands.specs.Columns.{choose, is_there, is_placed, is_reg, is_rm, is_prefixed, is_named, name_at, opcode_of, instance_of_row}
use Rattle.x86_forms.specs.Words.{carried}
use Rattle.x86_operands.specs.Encodings.{size_bytes}
use Rattle.x86_operands.specs.Records.{template_instance}
use Rattle.x86_operands.specs.Templates.{fixed_encoding, is_last, is_simple, is_read_at, is_sound, is_sound_row}
use Rattle.x86_operands.specs.Templates.{reg_encoding, size_at, somewhere}
use Rattle.x86_operands.proofs.TemplateLemmas.{fits_placed, last_by}

-- ---- where a row may be, by mod and reg

abbrev pub at_place : Place → Bool → Bool
at_place Memory memory = memory
at_place Register memory = not memory
at_place place memory = true

abbrev pub at_reg : Reg → ℕ → Bool
at_reg regs.Any k = true
at_reg (regs.Is n) k = k == n
at_reg (regs.From first last) k = nat_le first k && nat_le k last

-- whether it has a name there, for some rm
abbrev pub at_names : Names → ℕ → Bool
at_names (ByReg names) k = not (name_at names k == 0)
at_names names k = true

abbrev pub may_be : TemplateRow → Bool → ℕ → Bool
may_be row memory k = at_place row.at.place memory && (at_reg row.at.reg k && at_names row.names k)

-- ---- what makes it sure

abbrev is_always : When → Bool
is_always when.Always = true
is_always w = false

abbrev any_rm : Rm → Bool
any_rm rms.Any = true
any_rm r = false

abbrev accepts : Verdict → Bool
accepts Accepts = true
accepts v = false

abbrev keeps : PrefixChange → Bool
keeps Keeps = true
keeps c = false

abbrev is_first : TemplateRow → Bool
is_first row = is_always row.when && any_rm row.at.rm

abbrev is_at_once : TemplateRow → Bool
is_at_once row =
    (accepts row.verdict && keeps row.change)
    && ((is_simple row.template && is_last row.template.extra) && is_sound_row row)

abbrev pub is_sure : TemplateRow → Bool
is_sure row = is_first row && is_at_once row

pub place_same : (m : ℕ) (place : Place) → is_placed place m ≡ at_place place (is_memory m)
place_same m place = grind arith

pub placed_by : (row : TemplateRow) (m : ℕ) → may_be row (is_memory m) (reg_field m) ≡ true → is_placed row.at.place m ≡ true
placed_by row m h = place_same m row.at.place ∙ (and_parts (at_place row.at.place (is_memory m)) _ h).0

-- ---- a sure row is chosen, if it has a name

module _ (own : TableRow) (strict : Bool) (p : Prefixes) (m : ℕ) where
  reg_same : (r : Reg) → is_reg r m ≡ at_reg r (reg_field m)
  reg_same r = grind arith

  unnamed : (names : Names) → at_names names (reg_field m) ≡ false → is_named names m ≡ false
  unnamed names h = grind arith

  any_prefixes : (w : When) → is_always w ≡ true → is_prefixed w own p ≡ true
  any_prefixes w h = grind arith

  at_any_rm : (r : Rm) → any_rm r ≡ true → is_rm r strict m ≡ true
  at_any_rm r h = grind arith

  not_there : (a b c d e n : Bool) → (n ≡ false → e ≡ false) → (a && (b && n)) ≡ false → (a && (b && (c && (d && e)))) ≡ false
  not_there a b c d e n h k = grind (arith, h)

  absent : (row : TemplateRow) → may_be row (is_memory m) (reg_field m) ≡ false → is_there row own strict p m ≡ false
  absent row h =
      rw (place_same m row.at.place, reg_same row.at.reg)
      (not_there (at_place row.at.place (is_memory m)) (at_reg row.at.reg (reg_field m)) (is_rm row.at.rm strict m)
      (is_prefixed row.when own p) (is_named row.names m) (at_names row.names (reg_field m)) (unnamed row.names) h)

  pub present : (row : TemplateRow) → may_be row (is_memory m) (reg_field m) ≡ true → is_sure row ≡ true → is_named row.names m ≡ true →
      is_there row own strict p m ≡ true
  present row h sure name =
      let parts = and_parts (is_always row.when) (any_rm row.at.rm) (and_parts (is_first row) _ sure).0 in
      let here = and_parts (at_place row.at.place (is_memory m)) _ h in
      let reg = (and_parts (at_reg row.at.reg (reg_field m)) _ here.1).0 in
      rw (place_same m row.at.place, here.0, reg_same row.at.reg, reg, at_any_rm row.at.rm parts.1, any_prefixes row.when parts.0, name) refl

  -- the first that may be there, counted from 1; 0 where none may be, or it isn't sure
  abbrev Holds : List TemplateRow → ℕ → TemplateRow → Type 0
  Holds rows n d = choose rows own strict p m ≡ slice_index_or rows n d

abbrev pub after : ℕ → ℕ
after zero = zero
after (suc k) = suc (suc k)

unfoldable pub sure_at : List TemplateRow → Bool → ℕ → ℕ
sure_at [] memory k = 0
sure_at (row ∷ rest) memory k = if may_be row memory k then (if is_sure row then 1 else 0) else after (sure_at rest memory k)

module _ (own : TableRow) (strict : Bool) (p : Prefixes) (m : ℕ) where
  abbrev HasName : List TemplateRow → ℕ → TemplateRow → Type 0
  HasName rows n d = is_named (slice_index_or rows n d).names m ≡ true

  step : (row : TemplateRow) (rest : List TemplateRow) (may sure : Bool) (k n : ℕ) (d : TemplateRow) →
      may_be row (is_memory m) (reg_field m) ≡ may → is_sure row ≡ sure →
      ((n : ℕ) → k ≡ suc n → HasName rest n d → Holds own strict p m rest n d) →
      (if may then (if sure then 1 else 0) else after k) ≡ suc n → HasName (row ∷ rest) n d → Holds own strict p m (row ∷ rest) n d
  step row rest true true k zero d e s h is name = rw (present own strict p m row e s name) refl
  step row rest false sure (suc k) (suc n) d e s h is name = rw (absent own strict p m row e) (h n (grind (arith, is)) name)
  step row rest may sure k n d e s h is name = absurd (grind (arith, is))

  pub chosen : (rows : List TemplateRow) (n : ℕ) (d : TemplateRow) → sure_at rows (is_memory m) (reg_field m) ≡ suc n → HasName rows n d →
      Holds own strict p m rows n d
  unfolding sure_at
  chosen [] n d e name = absurd (grind (arith, e))
  chosen (row ∷ rest) n d e name = step row rest (may_be row (is_memory m) (reg_field m)) (is_sure row)
      (sure_at rest (is_memory m) (reg_field m)) n d refl refl (λ n is. chosen rest n d is) e name

-- ---- it is read at once

pub is_read : (row : TemplateRow) (m : ℕ) → is_sure row ≡ true → is_placed row.at.place m ≡ true → is_read_at row.template m ≡ true
is_read row m sure placed =
    let parts = and_parts (accepts row.verdict && keeps row.change) _ (and_parts (is_first row) (is_at_once row) sure).1 in
    let plain = and_parts (is_simple row.template && is_last row.template.extra) (is_sound_row row) parts.1 in
    rw (
      (and_parts (is_sound row.template) _ plain.1).0,
      (and_parts (is_simple row.template) _ plain.0).0,
      fits_placed row m plain.1 placed,
    ) refl

-- ---- its instance is that of its template

reg_by : (rm of_opcode : Bool) (w : Width) (n k : ℕ) → (of_opcode ≡ true → n ≡ k) →
    (if rm then reg_encoding w else fixed_encoding of_opcode w n) ≡ (if rm then reg_encoding w else fixed_encoding of_opcode w k)
reg_by rm true w n k same = rw (same refl) refl
reg_by rm false w n k same = refl

accepted : (v : Verdict) → accepts v ≡ true → v ≡ Accepts
accepted Accepts h = refl
accepted v h = cc

kept : (c : PrefixChange) → keeps c ≡ true → c ≡ Keeps
kept Keeps h = refl
kept c h = cc

pub instance_is : (row : TemplateRow) (own : TableRow) (n o : ℕ) (p : Prefixes) (m : ℕ) → is_sure row ≡ true → opcode_of row.names own m ≡ o →
    (row.template.of_opcode ≡ true → n ≡ carried own.form) →
    size_bytes (size_at row.template m) o p ≡ size_bytes (size_at row.template m) own.opcode p →
    template_instance row.template n o p m ≡ instance_of_row row own p m
instance_is row own n o p m sure opcode number size =
    let parts = and_parts (accepts row.verdict && keeps row.change) _ (and_parts (is_first row) (is_at_once row) sure).1 in
    let ends = and_parts (accepts row.verdict) (keeps row.change) parts.0 in
    let plain = and_parts (is_simple row.template && is_last row.template.extra) _ parts.1 in
    let lasts = and_parts (is_simple row.template) (is_last row.template.extra) plain.0 in
    let t = row.template in
    rw (
      accepted row.verdict ends.0,
      kept row.change ends.1,
      opcode,
      reg_by (somewhere t.order.rm) t.of_opcode t.reg n (carried own.form) number,
      last_by t.last n (carried own.form) p (and_parts (is_last t.last) _ lasts.0).0,
      last_by t.extra n (carried own.form) p lasts.1,
      size,
    ) refl

-- ---- the first row

abbrev pub first_of : List TemplateRow → TemplateRow
first_of [] = otherwise BadOpcode AtModRM
first_of (row ∷ rest) = row

pub first_chosen : (rows : List TemplateRow) (own : TableRow) (strict : Bool) (p : Prefixes) (m : ℕ) →
    is_there (first_of rows) own strict p m ≡ true → choose rows own strict p m ≡ first_of rows
first_chosen [] own strict p m h = refl
first_chosen (row ∷ rest) own strict p m h = rw h refl
