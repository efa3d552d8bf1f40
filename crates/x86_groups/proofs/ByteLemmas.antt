-- The rows of opcode bytes: each says what the printed row of its byte is.
use Rattle.std.proofs.Common.{◌≡◌, ◌<◌, ◌+◌, ◌==◌, ℕ, Bool, true, false, ◌&&◌, if◌then◌else◌, Option, None, Some, IfSome, unwrap_or}
use Rattle.std.proofs.Common.{List, [], ◌∷◌, map, get_or, refl, sym, ap, ◌∙◌, arith, lt-ltb, eqb-true, true≢false}
use Rattle.std.specs.List.{range_with_len}
use Rattle.std.proofs.lemmas.Bool.{and_parts, cond_both}
use Rattle.std.proofs.lemmas.List.FromFn.{get_or-map-range_with_len}
use Rattle.x86_forms.specs.declared.Column.TheVariants.{Plain}
use Rattle.x86_forms.specs.declared.Map.{Map}
use Rattle.x86_forms.specs.declared.Map.TheVariants.{One, Of}
use Rattle.x86_forms.specs.Groups.{is_group}
use Rattle.x86_forms.specs.Ordinals.{ordinal_of}
use Rattle.x86_forms.specs.Rows.{printed_row}
use Rattle.x86_forms.specs.Words.{HasWord, carried}
use Rattle.x86_forms.proofs.WordLemmas.{printed_has_word}
use Rattle.x86_operands.specs.declared.rows.Names.TheVariants.{Own}
use Rattle.x86_operands.specs.declared.rows.Place.{Place}
use Rattle.x86_operands.specs.declared.rows.Reg.{Reg}
use Rattle.x86_operands.specs.declared.rows.Reg.TheVariants as regs
use Rattle.x86_operands.specs.declared.rows.TemplateRow.{TemplateRow}
use Rattle.x86_operands.specs.declared.templates.Template.{Template}
use Rattle.x86_operands.specs.Columns.{is_named, is_placed, is_there, opcode_of, instance_of_row}
use Rattle.x86_operands.specs.Encodings.{operation_size}
use Rattle.x86_operands.specs.Forms.{form_instance, form_record, is_searched, modrm_use, place_use, rows_use}
use Rattle.x86_operands.specs.Records.{template_instance}
use Rattle.x86_operands.specs.Rows.{form_rows}
use Rattle.x86_operands.specs.Templates.{is_read_at, with_sizes}
use Rattle.x86_operands.specs.Words.{AtModRM, otherwise}
use Rattle.x86_operands.proofs.SureLemmas.{at_names, at_place, at_reg, first_chosen, first_of, is_read, is_sure, may_be, instance_is, present}
use Rattle.x86_operands.proofs.TemplateLemmas.{sized_instance, sizes_are_free}
use Rattle.x86_groups.specs.Vocabulary.{After, BadOpcode, Form, Names, Prefixes, TableRow, is_memory, reg_field}
use Rattle.x86_groups.specs.declared.byte_tables.TheConstants.{OF, ONE}
use Rattle.x86_groups.specs.declared.bytes.ByteRow.{ByteRow}
use Rattle.x86_groups.specs.declared.bytes.Next.{Next}
use Rattle.x86_groups.specs.declared.bytes.Next.TheVariants.{Chosen, Either, Nothing}
use Rattle.x86_groups.specs.declared.bytes.Choice.TheVariants as choice
use Rattle.x86_groups.specs.Bytes.{ChosenBy, IsByteRow, IsDirect, after_byte, is_direct_at, says}
use Rattle.x86_groups.specs.Groups.{record_of}
use Rattle.x86_groups.specs.Heads.{Continues}
use Rattle.x86_groups.proofs.HeadLemmas.{begins}

-- ---- the row of a byte by the printed one

abbrev other : Next → ByteRow
other n = record { next = n; operation = 0; register = 0; template = (otherwise BadOpcode AtModRM).template }

abbrev next_at : Place → Next
next_at Place.Bare = Nothing
next_at Place.Either = Either
next_at Place.Memory = Chosen choice.Memory
next_at Place.Register = Chosen choice.Register

abbrev has_own : Names → Bool
has_own Own = true
has_own names = false

abbrev is_at_any : Reg → Bool
is_at_any regs.Any = true
is_at_any r = false

-- a first row that form and mod alone choose
abbrev is_direct_row : TemplateRow → Bool
is_direct_row first = is_sure first && (has_own first.names && is_at_any first.at.reg)

abbrev direct : TableRow → TemplateRow → ByteRow
direct row first = record {
  next = next_at first.at.place;
  operation = row.opcode;
  register = carried row.form;
  template = with_sizes first.template row.opcode;
}

abbrev plain_row : TableRow → TemplateRow → ByteRow
plain_row row first = if is_direct_row first then direct row first else other (Chosen choice.Search)

abbrev group_row : Form → ByteRow
group_row f = if is_searched f then other (Chosen choice.Search) else other (Chosen (choice.Cells (1 + ordinal_of f)))

abbrev byte_row : Option TableRow → ByteRow
byte_row None = other (Chosen choice.Search)
byte_row (Some row) = if is_group row.form then group_row row.form else plain_row row (first_of (form_rows row.form))

-- ---- the tables have them

unfoldable row_at : Map → ℕ → ByteRow
row_at m b = byte_row (printed_row m Plain b)

unfoldable rows_in : Map → List ByteRow
rows_in m = map (row_at m) (range_with_len 0 256)

ones : ONE.now ≡ rows_in One
unfolding rows_in row_at printed_row form_rows ordinal_of
ones = refl

escaped : OF.now ≡ rows_in Of
unfolding rows_in row_at printed_row form_rows ordinal_of
escaped = refl

-- ---- a direct row

module _ (row : TableRow) (first : TemplateRow) (is : first ≡ first_of (form_rows row.form)) (plain : is_group row.form ≡ false)
    (has : is_direct_row first ≡ true) where
  sure : is_sure first ≡ true
  sure = (and_parts (is_sure first) _ has).0

  own : has_own first.names ≡ true
  own = (and_parts (has_own first.names) _ (and_parts (is_sure first) _ has).1).0

  any : is_at_any first.at.reg ≡ true
  any = (and_parts (has_own first.names) _ (and_parts (is_sure first) _ has).1).1

  own_name : (names : Names) (m : ℕ) → has_own names ≡ true → (at_names names (reg_field m) ≡ true) × (is_named names m ≡ true)
  own_name names m h = (grind arith, grind arith)

  own_opcode : (names : Names) (m : ℕ) → has_own names ≡ true → opcode_of names row m ≡ row.opcode
  own_opcode names m h = grind arith

  any_at : (r : Reg) (k : ℕ) → is_at_any r ≡ true → at_reg r k ≡ true
  any_at r k h = grind arith

  -- where the byte's row is, the form's is
  module _ (m : ℕ) where
    at_form : (place : Place) → is_direct_at (next_at place) m ≡ true → at_place place (is_memory m) ≡ true
    at_form place h = grind arith

    placed : (place : Place) → is_direct_at (next_at place) m ≡ true → is_placed place m ≡ true
    placed place h = grind arith

    module _ (here : is_direct_at (next_at first.at.place) m ≡ true) where
      fits : is_read_at first.template m ≡ true
      fits = is_read first m sure (placed first.at.place here)

      chosen : (p : Prefixes) → instance_of_row first row p m ≡ form_instance row p m
      unfolding form_instance
      chosen p =
          let name = own_name first.names m own in
          let may : may_be first (is_memory m) (reg_field m) ≡ true =
          rw (at_form first.at.place here, any_at first.at.reg (reg_field m) any, name.0) refl in
          let there : is_there (first_of (form_rows row.form)) row false p m ≡ true =
          rw is at (present row false p m first may sure name.1) in
          ap (λ r. instance_of_row r row p m) (is ∙ sym (first_chosen (form_rows row.form) row false p m there))

      of_record : (strict : Bool) (p : Prefixes) → form_instance row p m ≡ (record_of strict row p).instance m
      unfolding form_record
      of_record strict p = rw plain refl

      instance : (strict : Bool) (p : Prefixes) →
          template_instance (with_sizes first.template row.opcode) (carried row.form) row.opcode p m ≡ (record_of strict row p).instance m
      instance strict p =
          let t = first.template in
          let o = row.opcode in
          let n = carried row.form in
          sized_instance t n o p m (sizes_are_free t o)
          ∙ instance_is first row n o p m sure (own_opcode first.names m own) (λ _. refl) refl
          ∙ chosen p ∙ of_record strict p

  usage_of : (rows : List TemplateRow) → first ≡ first_of rows → rows_use rows ≡ place_use first.at.place
  usage_of [] e = let no : is_sure (first_of []) ≡ true = rw e at sure in absurd (true≢false (sym no))
  usage_of (r ∷ rest) e = ap (λ (r : TemplateRow). place_use r.at.place) (sym e)

  starts : (strict : Bool) (p : Prefixes) → Continues (after_byte (next_at first.at.place)) (record_of strict row p)
  unfolding modrm_use
  starts strict p = by first.at.place (usage_of (form_rows row.form) is)
    where
      by : (place : Place) → modrm_use row.form ≡ place_use place → Continues (after_byte (next_at place)) (record_of strict row p)
      by Place.Bare usage = begins After.Nothing strict row p (plain, usage)
      by Place.Either usage = begins After.Fields strict row p (plain, usage)
      by Place.Memory usage = begins After.Fields strict row p (plain, usage)
      by Place.Register usage = begins After.Fields strict row p (plain, usage)

  chosen_by : (place : Place) (b : ByteRow) → IsDirect b row → ChosenBy (next_at place) b row
  chosen_by Place.Bare b h = h
  chosen_by Place.Either b h = h
  chosen_by Place.Memory b h = h
  chosen_by Place.Register b h = h

  direct_says : HasWord row → IsByteRow (direct row first) row
  direct_says word = record {
    begins = starts;
    chosen = chosen_by first.at.place (direct row first) (record {
      small = word.form;
      named = word.opcode;
      free = sizes_are_free first.template row.opcode;
      fits = λ m here. fits m here;
      instance = λ m here. instance m here;
    });
  }

-- ---- each says its row

searched_says : (row : TableRow) → IsByteRow (other (Chosen choice.Search)) row
searched_says row = record { begins = λ strict p. tt; chosen = tt }

module _ (row : TableRow) where
  abbrev Says : ByteRow → Type 0
  Says b = IsByteRow b row

  abbrev first : TemplateRow
  first = first_of (form_rows row.form)

  row_says : HasWord row → Says (byte_row (Some row))
  row_says word =
      cond_both (is_group row.form) (group_row row.form) (plain_row row first) Says
      (λ group.
      cond_both (is_searched row.form) (other (Chosen choice.Search)) (other (Chosen (choice.Cells (1 + ordinal_of row.form)))) Says
      (λ _. searched_says row)
      (λ celled. record {
        begins = λ strict p. begins After.Cells strict row p (group, celled);
        chosen = record { group = group; celled = celled; numbered = refl };
      }))
      (λ plain.
      cond_both (is_direct_row first) (direct row first) (other (Chosen choice.Search)) Says
      (λ has. direct_says row first refl plain has word)
      (λ _. searched_says row))

option_says : (o : Option TableRow) → IfSome o HasWord → says (byte_row o) o
option_says None word = refl
option_says (Some row) word = row_says row word

at_byte : (m : Map) (table : List ByteRow) (b : ℕ) (d : ByteRow) → table ≡ rows_in m → b < 256 → says (get_or table b d) (printed_row m Plain b)
unfolding rows_in row_at
at_byte m table b d e below =
    let same : get_or table b d ≡ byte_row (printed_row m Plain b) =
    ap (λ t. get_or t b d) e ∙ get_or-map-range_with_len (row_at m) 0 256 b b d below (omega arith) in
    rw same (option_says (printed_row m Plain b) (printed_has_word m Plain b))

pub one_says : (b : ℕ) (d : ByteRow) → b < 256 → says (get_or ONE.now b d) (printed_row One Plain b)
one_says b d below = at_byte One ONE.now b d ones below

pub escaped_says : (b : ℕ) (d : ByteRow) → b < 256 → says (get_or OF.now b d) (printed_row Of Plain b)
escaped_says b d below = at_byte Of OF.now b d escaped below
