-- What the columns of the first row have: a small size and few immediates, and what it goes by in the memory form.
use Rattle.std.proofs.Common.{◌&&◌, ◌≡◌, inl, inr, ◌≤◌, ℕ, ◌+◌, nat_lt, Bool, true, false, not, ◌||◌, List, [], ◌∷◌, refl, sym, ap, ◌∙◌}
use Rattle.std.proofs.Common.{arith, true≢false, ◌≢◌, if◌then◌else◌, rules}
use Rattle.std.specs.List.{list_all}
use Rattle.std.proofs.lemmas.Bool.{and_parts, or_cases, and_left, ltb-true}
use Rattle.std.proofs.lemmas.Bool.Decides.{nat_tests}
use Rattle.x86_operands.specs.Vocabulary.{Prefixes, Size, OperandEncoding, Position, Nowhere, TableRow, Template, Width, BadOpcode, reg_field, is_memory}
use Rattle.x86_operands.specs.Vocabulary.{Order, RegisterClass, Incomplete, Verdict, Refuses, width_of, has_r, has_w, repnz, rep}
use Rattle.x86_operands.specs.RowVocabulary.{Names, Place, Reg, When, Rm, ByRm, TemplateRow}
use Rattle.x86_operands.specs.Words.{AtModRM, otherwise}
use Rattle.x86_forms.specs.Words.{carried}
use Rattle.x86_operands.specs.Records.{Instance, is_refusal}
use Rattle.x86_operands.specs.Pieces.{is_modrm_encoding, writes_modrm}
use Rattle.x86_operands.specs.declared.sizing.Size.TheVariants as size
use Rattle.x86_operands.specs.declared.vocabulary.OperandEncoding.TheVariants as encoding
use Rattle.x86_operands.specs.Asks.{immediate_width, immediates_width, part_width}
use Rattle.x86_operands.proofs.TemplateLemmas.{in_order}
use Rattle.x86_operands.specs.Encodings.{bytes_under, operation_size, resolved, size_bytes}
use Rattle.x86_operands.specs.Orders.{is_order, positions, sequence_of}
use Rattle.x86_operands.specs.Templates.{fixed_encoding, is_register_place, reg_encoding, rm_encoding, size_at, somewhere}
use Rattle.x86_operands.specs.Columns.{choose, opcode_of, instance_of_row, is_there, is_placed, is_reg, is_rm, is_prefixed, is_named}
use Rattle.x86_operands.specs.declared.rows.Rm.TheVariants as rms
use Rattle.x86_operands.specs.declared.rows.When.TheVariants as when

-- ---- what each row has, the first has

if_has : (P : TemplateRow → Type 0) (b : Bool) (x y : TemplateRow) → (b ≡ true → P x) → P y → P (if b then x else y)
if_has P true x y f g = f refl
if_has P false x y f g = g

pub chosen_has : (P : TemplateRow → Type 0) (test : TemplateRow → Bool) (own : TableRow) (strict : Bool) (p : Prefixes) (m : ℕ) →
    P (otherwise BadOpcode AtModRM) → ((row : TemplateRow) → test row ≡ true → is_there row own strict p m ≡ true → P row) →
    (rows : List TemplateRow) → list_all test rows ≡ true → P (choose rows own strict p m)
chosen_has P test own strict p m blank each [] h = blank
chosen_has P test own strict p m blank each (row ∷ rest) h =
    let parts = and_parts (test row) (list_all test rest) h in
    if_has P (is_there row own strict p m) row (choose rest own strict p m) (λ e. each row parts.0 e) (chosen_has P test own strict p m blank each rest parts.1)

-- ---- rows that are there alike are chosen alike

module _ (test : TemplateRow → Bool) (own : TableRow) (s t : Bool) (p q : Prefixes) (m n : ℕ)
    (same : (row : TemplateRow) → test row ≡ true → is_there row own s p m ≡ is_there row own t q n) where
  pub chosen_alike : (rows : List TemplateRow) → list_all test rows ≡ true → choose rows own s p m ≡ choose rows own t q n
  chosen_alike [] h = refl
  chosen_alike (row ∷ rest) h =
      let parts = and_parts (test row) (list_all test rest) h in
      rw (same row parts.0, chosen_alike rest parts.1) refl

-- ---- the memory form: rows go by reg and not by rm, under prefixes that differ in X and B alone

pub record SamePrefixes (p q : Prefixes) : Type 0 where
  pub f2 : repnz p ≡ repnz q
  pub f3 : rep p ≡ rep q
  pub operand_size : p.operand_size ≡ q.operand_size
  pub address_size : p.address_size ≡ q.address_size
  pub w : has_w p ≡ has_w q
  pub r : has_r p ≡ has_r q

-- a row that B doesn't choose
abbrev pub no_b : When → Bool
no_b when.Register0 = false
no_b w = true

prefixed_alike : (w : When) (own : TableRow) (p q : Prefixes) → SamePrefixes p q → no_b w ≡ true → is_prefixed w own p ≡ is_prefixed w own q
prefixed_alike w own p q h free = grind arith

pub row_absent : (row : TemplateRow) (own : TableRow) (strict : Bool) (p : Prefixes) (m : ℕ) → is_register_place row.at.place ≡ true →
    is_memory m ≡ true → is_there row own strict p m ≡ false
row_absent row own strict p m h e = and_left (is_placed row.at.place m) _ (grind arith)

-- a row that isn't chosen by rm
abbrev pub no_rm : Rm → Bool
no_rm rms.Any = true
no_rm m = false

abbrev pub no_rm_names : Names → Bool
no_rm_names (ByRm names) = false
no_rm_names names = true

-- a row of the register form, or one that is chosen by neither rm nor B
abbrev pub rm_free : TemplateRow → Bool
rm_free row = is_register_place row.at.place || (no_b row.when && (no_rm row.at.rm && no_rm_names row.names))

module _ (p q : Prefixes) (m n : ℕ) (h : SamePrefixes p q) (mm : is_memory m ≡ true) (nm : is_memory n ≡ true) (same : reg_field m ≡ reg_field n) where
  rm_alike : (r : Rm) (strict : Bool) → no_rm r ≡ true → is_rm r strict m ≡ is_rm r strict n
  rm_alike r strict e = grind arith

  reg_alike : (r : Reg) → is_reg r m ≡ is_reg r n
  reg_alike r = grind arith

  named_alike : (names : Names) → no_rm_names names ≡ true → is_named names m ≡ is_named names n
  named_alike names e = grind arith

  placed_alike : (place : Place) → is_placed place m ≡ is_placed place n
  placed_alike place = grind arith

  pub there_alike : (own : TableRow) (strict : Bool) (row : TemplateRow) → rm_free row ≡ true → is_there row own strict p m ≡ is_there row own strict q n
  there_alike own strict row free = elim (or_cases (is_register_place row.at.place) (no_b row.when && (no_rm row.at.rm && no_rm_names row.names)) free) [
    | inl is ↦ row_absent row own strict p m is mm ∙ sym (row_absent row own strict q n is nm)
    | inr rest ↦
        let parts = and_parts (no_b row.when) _ rest in
        let rms = and_parts (no_rm row.at.rm) (no_rm_names row.names) parts.1 in
        rw (
          placed_alike row.at.place,
          reg_alike row.at.reg,
          rm_alike row.at.rm strict rms.0,
          prefixed_alike row.when own p q h parts.0,
          named_alike row.names rms.1,
        ) refl
  ]

-- ---- sizes, immediates and gaps

-- a refusal for a form that isn't built
abbrev pub has_gap : Verdict → Bool
has_gap (Refuses Incomplete) = true
has_gap verdict = false

-- how many bytes of immediate an operand of a row has at most in an instance
abbrev pub most : OperandEncoding → ℕ
most encoding.Iv = 4
most encoding.Ivq = 8
most encoding.Ip = 4
most encoding.Jv = 4
most encoding.Offset = 8
most s = immediate_width s

abbrev pub few : Template → Bool
few t = nat_lt (most t.last + most t.extra) 9

-- no gap, unless gaps are passed, and few immediates
abbrev pub row_fits : Bool → TemplateRow → Bool
row_fits gaps row = (gaps || not (has_gap row.verdict)) && few row.template

settled_most : (s : OperandEncoding) (n : ℕ) (p : Prefixes) → immediate_width (resolved s n p) ≤ most s
settled_most s n p = grind arith

part_most : (at : Position) (s : OperandEncoding) (n : ℕ) (p : Prefixes) → part_width at (resolved s n p) ≤ most s
part_most Nowhere s n p = omega arith
part_most at s n p = settled_most s n p

narrow_by : (k a b c d : ℕ) → k ≡ a + b → a ≤ c → b ≤ d → nat_lt (c + d) 9 ≡ true → k ≤ 8
narrow_by k a b c d e last extra h = grind (arith, nat_tests)

small_width : (c : RegisterClass) → nat_lt (width_of c) 65 ≡ true
small_width c = search rules

size_small : (s : Size) (p : Prefixes) → nat_lt (bytes_under s p) 65 ≡ true
size_small size.FarPointer p = grind arith
size_small s p = grind (arith, small_width)

pub at_most_64 : (s : Size) (o : ℕ) (p : Prefixes) → size_bytes s o p ≤ 64
at_most_64 s o p = let below = ltb-true (size_bytes s o p) 65 (size_small (operation_size s o) p) in omega (arith, below)

module _ (gaps : Bool) (own : TableRow) (strict : Bool) (p : Prefixes) (m : ℕ) where
  pub chosen_fits : (rows : List TemplateRow) → list_all (row_fits gaps) rows ≡ true → row_fits gaps (choose rows own strict p m) ≡ true
  chosen_fits = chosen_has (λ row. row_fits gaps row ≡ true) (row_fits gaps) own strict p m (grind arith) (λ row e held. e)

  pub at_most_8 : (row : TemplateRow) → row_fits gaps row ≡ true → immediates_width (instance_of_row row own p m) ≤ 8
  at_most_8 row h =
      let t = row.template in
      let n = carried own.form in
      let at : Order = positions (sequence_of t.order) in
      narrow_by (immediates_width (instance_of_row row own p m)) (part_width at.last (resolved t.last n p))
      (part_width at.extra (resolved t.extra n p)) (most t.last) (most t.extra) refl (part_most at.last t.last n p)
      (part_most at.extra t.extra n p) (and_parts (gaps || not (has_gap row.verdict)) _ h).1

pub without_gap : (row : TemplateRow) → row_fits false row ≡ true → row.verdict ≢ Refuses Incomplete
without_gap row h e = absurd (true≢false (sym (and_parts (not (has_gap row.verdict)) _ h).0 ∙ ap (λ v. not (has_gap v)) e))

-- ---- two ModRM bytes of the memory form that have the same reg, under prefixes that differ in X and B alone

abbrev pub rm_free_encoding : OperandEncoding → Bool
rm_free_encoding (encoding.E w) = false
rm_free_encoding encoding.Emm = false
rm_free_encoding encoding.StRm = false
rm_free_encoding encoding.RdInReg = false
rm_free_encoding (encoding.Z at w n) = false
rm_free_encoding (encoding.A w) = false
rm_free_encoding s = true

-- no name of it goes by rm; and it refuses, or has a memory operand, and no other operand that goes by rm, X or B
abbrev pub in_memory : TemplateRow → Bool
in_memory row = no_rm_names row.names && (is_order row.template.order && (is_refusal row.verdict || ((somewhere row.template.order.rm
    && is_modrm_encoding (rm_encoding row.template.rm)) && (rm_free_encoding row.template.last && rm_free_encoding row.template.extra))))

abbrev pub row_in_memory : TemplateRow → Bool
row_in_memory row = is_register_place row.at.place || in_memory row

-- what holds of rows with ModRM
abbrev pub keeps_reg : TemplateRow → Bool
keeps_reg row = rm_free row && row_in_memory row

settled_alike : (s : OperandEncoding) (n : ℕ) (p q : Prefixes) → SamePrefixes p q → resolved s n p ≡ resolved s n q
settled_alike s n p q h = grind arith

size_alike : (s : Size) (p q : Prefixes) → SamePrefixes p q → bytes_under s p ≡ bytes_under s q
size_alike s p q h = grind arith

module _ (own : TableRow) (p q : Prefixes) (m n : ℕ) (h : SamePrefixes p q) where
  opcode_alike : (names : Names) → reg_field m ≡ reg_field n → no_rm_names names ≡ true → opcode_of names own m ≡ opcode_of names own n
  opcode_alike names same e = grind arith

  pub instance_alike : (row : TemplateRow) → reg_field m ≡ reg_field n → is_memory m ≡ is_memory n → in_memory row ≡ true →
      instance_of_row row own p m ≡ instance_of_row row own q n
  instance_alike row same mem e =
      let x = and_parts (no_rm_names row.names) _ e in
      rw (
        opcode_alike row.names same x.0,
        settled_alike row.template.last (carried own.form) p q h,
        settled_alike row.template.extra (carried own.form) p q h,
        mem,
        size_alike (operation_size (size_at row.template n) own.opcode) p q h,
      ) refl

-- so does its instance
abbrev pub has_memory_alone : Instance → Bool
has_memory_alone instance = writes_modrm instance && (rm_free_encoding instance.last && (rm_free_encoding instance.extra && rm_free_encoding instance.reg))

abbrev pub instance_in_memory : Instance → Bool
instance_in_memory instance = is_refusal instance.verdict || has_memory_alone instance

resolved_free : (s : OperandEncoding) (n : ℕ) (p : Prefixes) → rm_free_encoding (resolved s n p) ≡ rm_free_encoding s
resolved_free s n p = grind arith

reg_free : (rm of_opcode : Bool) (w : Width) (n : ℕ) → rm ≡ true → rm_free_encoding (if rm then reg_encoding w else fixed_encoding of_opcode w n) ≡ true
reg_free rm of_opcode w n h = grind arith

-- with an operand of rm that of reg is a register of ModRM
with_reg : (refuses there memory last extra reg : Bool) → (there ≡ true → reg ≡ true) → (refuses || ((there && memory) && (last && extra))) ≡ true →
    (refuses || ((there && memory) && (last && (extra && reg)))) ≡ true
with_reg refuses there memory last extra reg free h = grind (arith, free)

pub chosen_in_memory : (row : TemplateRow) (own : TableRow) (p : Prefixes) (m : ℕ) → in_memory row ≡ true →
    instance_in_memory (instance_of_row row own p m) ≡ true
chosen_in_memory row own p m h =
    let t = row.template in
    let n = carried own.form in
    let parts = and_parts (is_order t.order) _ (and_parts (no_rm_names row.names) _ h).1 in
    rw (in_order t.order parts.0, resolved_free t.last n p, resolved_free t.extra n p)
    (with_reg (is_refusal row.verdict) (somewhere t.order.rm) (is_modrm_encoding (rm_encoding t.rm)) (rm_free_encoding t.last) (rm_free_encoding t.extra)
    _ (reg_free (somewhere t.order.rm) t.of_opcode t.reg n) parts.1)

-- in the memory form the first row refuses, or has a memory operand
pub first_in_memory : (rows : List TemplateRow) (own : TableRow) (strict : Bool) (p : Prefixes) (m : ℕ) → list_all keeps_reg rows ≡ true →
    is_memory m ≡ true → in_memory (choose rows own strict p m) ≡ true
first_in_memory rows own strict p m h mem =
    chosen_has (λ row. in_memory row ≡ true) keeps_reg own strict p m refl
    (λ row test held. elim (or_cases (is_register_place row.at.place) (in_memory row) (and_parts (rm_free row) _ test).1) [
      | inl is ↦ absurd (true≢false (sym held ∙ row_absent row own strict p m is mem))
      | inr e ↦ e
    ]) rows h

pub rows_alike : (rows : List TemplateRow) (own : TableRow) (strict : Bool) (p q : Prefixes) (m n : ℕ) → list_all keeps_reg rows ≡ true →
    SamePrefixes p q → is_memory m ≡ true → is_memory n ≡ true → reg_field m ≡ reg_field n →
    instance_of_row (choose rows own strict p m) own p m ≡ instance_of_row (choose rows own strict q n) own q n
rows_alike rows own strict p q m n kept h mm nm same =
    instance_alike own p q m n h (choose rows own strict p m) same (mm ∙ sym nm) (first_in_memory rows own strict p m kept mm)
    ∙ ap (λ row. instance_of_row row own q n) (chosen_alike keeps_reg own strict strict p q m n (λ row test.
    there_alike p q m n h mm nm same own strict row (and_parts (rm_free row) _ test).0) rows kept)
