-- The cells of the groups: each is the first row that may be at its mod and reg, where that is sure.
use Rattle.std.proofs.Common.{true≢false, ◌≡◌, ◌≢◌, ℕ, zero, suc, ◌<◌, ◌+◌, ◌-◌, ◌==◌, nat_lt, Bool, true, false, not, ◌&&◌, ◌||◌, if◌then◌else◌}
use Rattle.std.proofs.Common.{List, [], ◌∷◌, length, take, drop, get_or, Some, None, unwrap_or, lt-ltb, refl, sym, ap, subst, ◌∙◌, arith, length-drop}
use Rattle.std.specs.List.{list_all}
use Rattle.std.proofs.lemmas.Bool.{and_parts, cond_both, eqb-true, ne_eqb, ltb-true, leb-true}
use Rattle.std.proofs.lemmas.List.{get_or-drop, get_or-take, get_or_default, length-take-le}
use Rattle.std.proofs.lemmas.List.Elements.{All-get_or}
use Rattle.std.proofs.lemmas.List.Sums.{AllPass-from_list_all}
use Rattle.x86_groups.specs.Vocabulary.{Form, Names, Prefixes, TableRow, is_memory, reg_field, rm_field}
use Rattle.x86_forms.specs.declared.Form.TheVariants as form
use Rattle.x86_forms.specs.Groups.{is_group}
use Rattle.x86_forms.specs.Ordinals.{first_ordinal_of, ordinal_of}
use Rattle.x86_forms.specs.Words.{carried}
use Rattle.x86_opcodes.specs.Names.{Invalid}
use Rattle.x86_opcodes.specs.Numbers.{IsNamed, count_of_names}
use Rattle.x86_operands.specs.declared.templates.Template.{Template}
use Rattle.x86_operands.specs.declared.rows.TemplateRow.{TemplateRow}
use Rattle.x86_operands.specs.declared.rows.Names.TheVariants.{Name, ByReg, ByRm, Own}
use Rattle.x86_operands.specs.Columns.{choose, is_named, is_placed, name_at, named, opcode_of, instance_of_row}
use Rattle.x86_operands.specs.Forms.{is_searched}
use Rattle.x86_operands.specs.Records.{template_instance}
use Rattle.x86_operands.specs.Templates.{has_free_sizes, is_read_at}
use Rattle.x86_operands.proofs.HeadLemmas.{if_true, or_true}
use Rattle.x86_operands.proofs.SureLemmas.{after, chosen, is_read, is_sure, may_be, placed_by, instance_is, sure_at}
use Rattle.x86_operands.proofs.TemplateLemmas.{sizes_by}
use Rattle.x86_groups.specs.declared.cells.Cell.{Cell}
use Rattle.x86_groups.specs.declared.tables.TheConstants.{CELLS, CELLS_AT, ROWS, SPANS}
use Rattle.x86_groups.specs.Bytes.{IsCelled}
use Rattle.x86_groups.specs.Groups.{group_instance, group_record, record_of}
use Rattle.x86_groups.specs.Heads.{operation_number}
use Rattle.x86_groups.proofs.HeadLemmas.{span_at}

-- ---- the cells of a group by its rows

abbrev span_of : Form → ℕ × ℕ
span_of f = get_or SPANS.now (first_ordinal_of f) (0, 0)

abbrev rows_of : Form → List TemplateRow
rows_of f = take ((span_of f).1 - (span_of f).0) (drop (span_of f).0 ROWS.now)

abbrev first_of : Form → ℕ
first_of f = (span_of f).0

-- the number of a cell: 0 where rm names the operation
abbrev number_at : Names → ℕ → ℕ
number_at (Name n) k = n
number_at (ByReg names) k = name_at names k
number_at names k = 0

abbrev number_in : List TemplateRow → ℕ → ℕ → ℕ
number_in [] n k = 0
number_in (row ∷ rest) zero k = number_at row.names k
number_in (row ∷ rest) (suc n) k = number_in rest n k

abbrev cell_from : List TemplateRow → ℕ → ℕ → ℕ → Cell
cell_from rows first k zero = record { row = 0; number = 0 }
cell_from rows first k (suc n) = record { row = first + n; number = number_in rows n k }

abbrev cell_by : List TemplateRow → ℕ → Bool → ℕ → Cell
cell_by rows first memory k = cell_from rows first k (sure_at rows memory k)

abbrev cells_by : List TemplateRow → ℕ → List Cell
cells_by rows first =
    cell_by rows first true 0 ∷ cell_by rows first true 1 ∷ cell_by rows first true 2 ∷ cell_by rows first true 3 ∷
    cell_by rows first true 4 ∷ cell_by rows first true 5 ∷ cell_by rows first true 6 ∷ cell_by rows first true 7 ∷
    cell_by rows first false 0 ∷ cell_by rows first false 1 ∷ cell_by rows first false 2 ∷ cell_by rows first false 3 ∷
    cell_by rows first false 4 ∷ cell_by rows first false 5 ∷ cell_by rows first false 6 ∷ cell_by rows first false 7 ∷ []

-- ---- the table has them

abbrev is_celled : Form → Bool
is_celled f = is_group f && not (is_searched f)

abbrev cells_of : Form → List Cell → List Cell
cells_of f z = get_or CELLS.now (get_or CELLS_AT.now (first_ordinal_of f + 1) 0) z

cells_are : (f : Form) (z : List Cell) → (if is_celled f then cells_of f z else []) ≡ (if is_celled f then cells_by (rows_of f) (first_of f) else [])
unfolding sure_at
cells_are (form.Zv_R n) z = refl
cells_are f z = refl

-- the numbers of opcodes alone
abbrev is_number : ℕ → Bool
is_number n = nat_lt n count_of_names

abbrev has_numbers : Names → Bool
has_numbers Own = false
has_numbers (Name n) = is_number n
has_numbers (ByReg names) = list_all is_number names
has_numbers (ByRm names) = list_all is_number names

-- what a sure row of a group has: names by numbers, no size that the operation decides, and no register of the opcode byte
abbrev fits_cell : TemplateRow → Bool
fits_cell row = has_numbers row.names && (has_free_sizes row.template && not row.template.of_opcode)

abbrev may_fit : TemplateRow → Bool
may_fit row = not (is_sure row) || fits_cell row

rows_fit : (f : Form) → (not (is_celled f) || list_all may_fit (rows_of f)) ≡ true
rows_fit (form.Zv_R n) = refl
rows_fit f = refl

-- ---- the row of a cell

record IsAt (rows : List TemplateRow) (m n : ℕ) (d : TemplateRow) : Type 0 where
  inside : n < length rows
  sure : is_sure (get_or rows n d) ≡ true
  placed : is_placed (get_or rows n d).at.place m ≡ true
  number : number_in rows n (reg_field m) ≡ number_at (get_or rows n d).names (reg_field m)

module _ (m : ℕ) (d : TemplateRow) where
  at_step : (row : TemplateRow) (rest : List TemplateRow) (may sure : Bool) (k n : ℕ) → may_be row (is_memory m) (reg_field m) ≡ may → is_sure row ≡ sure →
      ((j : ℕ) → k ≡ suc j → IsAt rest m j d) → (if may then (if sure then 1 else 0) else after k) ≡ suc n → IsAt (row ∷ rest) m n d
  at_step row rest true true k zero e s h is = record { inside = omega arith; sure = s; placed = placed_by row m e; number = refl }
  at_step row rest false sure (suc k) (suc n) e s h is =
      let next = h n (grind (arith, is)) in
      record { inside = omega (arith, next.inside); sure = next.sure; placed = next.placed; number = next.number }
  at_step row rest may sure k n e s h is = absurd (grind (arith, is))

  is_at : (rows : List TemplateRow) (n : ℕ) → sure_at rows (is_memory m) (reg_field m) ≡ suc n → IsAt rows m n d
  unfolding sure_at
  is_at [] n e = absurd (grind (arith, e))
  is_at (row ∷ rest) n e = at_step row rest (may_be row (is_memory m) (reg_field m)) (is_sure row)
      (sure_at rest (is_memory m) (reg_field m)) n refl refl (λ j is. is_at rest j is) e

-- ---- at a mod and reg

below_8 : (P : ℕ → Type 0) → P 0 → P 1 → P 2 → P 3 → P 4 → P 5 → P 6 → P 7 → (k : ℕ) → k < 8 → P k
below_8 P a b c d e f g h zero low = a
below_8 P a b c d e f g h (suc zero) low = b
below_8 P a b c d e f g h (suc (suc zero)) low = c
below_8 P a b c d e f g h (suc (suc (suc zero))) low = d
below_8 P a b c d e f g h (suc (suc (suc (suc zero)))) low = e
below_8 P a b c d e f g h (suc (suc (suc (suc (suc zero))))) low = f
below_8 P a b c d e f g h (suc (suc (suc (suc (suc (suc zero)))))) low = g
below_8 P a b c d e f g h (suc (suc (suc (suc (suc (suc (suc zero))))))) low = h
below_8 P a b c d e f g h (suc (suc (suc (suc (suc (suc (suc (suc k)))))))) low = absurd (omega (arith, low))

in_place : (rows : List TemplateRow) (first : ℕ) (memory : Bool) (d : Cell) (k : ℕ) → k < 8 →
    get_or (cells_by rows first) (if memory then k else k + 8) d ≡ cell_by rows first memory k
in_place rows first true d = below_8 (λ k. get_or (cells_by rows first) k d ≡ cell_by rows first true k) refl refl refl refl refl refl refl refl
in_place rows first false d = below_8 (λ k. get_or (cells_by rows first) (k + 8) d ≡ cell_by rows first false k) refl refl refl refl refl refl refl refl

cell_is : (f : Form) (k : ℕ) (memory : Bool) (z : List Cell) (d : Cell) → is_celled f ≡ true → k < 8 →
    get_or (cells_of f z) (if memory then k else k + 8) d ≡ cell_by (rows_of f) (first_of f) memory k
cell_is f k memory z d is low =
    ap (λ cells. get_or cells (if memory then k else k + 8) d) (if_true (is_celled f) (cells_of f z) (cells_by (rows_of f) (first_of f)) [] (cells_are f z) is)
    ∙ in_place (rows_of f) (first_of f) memory d k low

-- the number of an operation is that of a name
zero_named : IsNamed 0
zero_named = ltb-true 0 count_of_names refl

in_list : (names : List ℕ) (k : ℕ) → list_all is_number names ≡ true → IsNamed (name_at names k)
in_list [] k h = zero_named
in_list (n ∷ names) zero h = ltb-true n count_of_names (and_parts (is_number n) _ h).0
in_list (n ∷ names) (suc k) h = in_list names k (and_parts (is_number n) _ h).1

one_named : (n m : ℕ) → IsNamed n → IsNamed m → IsNamed (if n == 0 then m else n)
one_named n m h e = cond_both (n == 0) m n IsNamed (λ _. e) (λ _. h)

number_named : (names : Names) (m : ℕ) → has_numbers names ≡ true → IsNamed (operation_number (number_at names (reg_field m)) names m)
number_named Own m h = absurd cc
number_named (Name n) m h = one_named n 0 (ltb-true n count_of_names h) zero_named
number_named (ByReg names) m h = one_named (name_at names (reg_field m)) 0 (in_list names (reg_field m) h) zero_named
number_named (ByRm names) m h = in_list names (rm_field m) h

named_is : (n : ℕ) → IsNamed n → named n ≡ n
named_is n h = ap (λ b. unwrap_or (if b then Some n else None) Invalid) (lt-ltb n count_of_names h)

named_by : (names : Names) (own : TableRow) (m : ℕ) → has_numbers names ≡ true →
    opcode_of names own m ≡ named (operation_number (number_at names (reg_field m)) names m)
named_by names own m h = grind arith

has_name : (names : Names) (m : ℕ) → has_numbers names ≡ true → (operation_number (number_at names (reg_field m)) names m == 0) ≡ false →
    is_named names m ≡ true
has_name names m h e = grind arith

no_number : (of_opcode : Bool) (n k : ℕ) → not of_opcode ≡ true → of_opcode ≡ true → n ≡ k
no_number of_opcode n k h e = absurd (grind (arith, h, e))

-- the row of the table at the first place and so many further
in_table : (f : Form) (n : ℕ) (d : TemplateRow) → n < length (rows_of f) → get_or (rows_of f) n d ≡ get_or ROWS.now (first_of f + n) d
in_table f n d low =
    let span = span_at f (0, 0) in
    let taken : length (rows_of f) ≡ (span_of f).1 - first_of f =
    length-take-le ((span_of f).1 - first_of f) (drop (first_of f) ROWS.now) (omega (arith, length-drop (first_of f) ROWS.now, leb-true _ _ span.inside)) in
    let short : n < (span_of f).1 - first_of f = subst (λ k. n < k) taken low in
    get_or-take ((span_of f).1 - first_of f) (drop (first_of f) ROWS.now) n d short ∙ get_or-drop (first_of f) ROWS.now n d

-- What the row of a cell is at a ModRM byte: its template, with the number of its operation.
pub record IsRowOf (row : TableRow) (register m number : ℕ) (t : Template) : Type 0 where
  pub named : IsNamed number
  pub free : has_free_sizes t ≡ true
  pub fits : is_read_at t m ≡ true
  pub instance : (strict : Bool) (p : Prefixes) → template_instance t register number p m ≡ (record_of strict row p).instance m

module _ (row : TableRow) (register m : ℕ) (group : is_group row.form ≡ true) (searched : is_searched row.form ≡ false) where
  abbrev f : Form
  f = row.form

  celled : is_celled f ≡ true
  celled = rw (group, searched) refl

  -- a row of this number, if it has an operation
  abbrev SureRowOf : ℕ → TemplateRow → Type 0
  SureRowOf number here =
      (operation_number number here.names m == 0) ≡ false → IsRowOf row register m (operation_number number here.names m) here.template

  instance_same : (strict : Bool) (p : Prefixes) → group_instance row p m strict ≡ (record_of strict row p).instance m
  unfolding group_record
  instance_same strict p = rw group refl

  from_sure : (k n : ℕ) (d : TemplateRow) → sure_at (rows_of f) (is_memory m) (reg_field m) ≡ k → k ≡ suc n →
      SureRowOf (number_in (rows_of f) n (reg_field m)) (get_or ROWS.now (first_of f + n) d)
  unfolding group_instance
  from_sure k n d e is =
      let at = is_at m d (rows_of f) n (e ∙ is) in
      let here : TemplateRow = get_or (rows_of f) n d in
      let number = number_in (rows_of f) n (reg_field m) in
      let fits : fits_cell here ≡ true = or_true (is_sure here) (fits_cell here)
      (All-get_or (λ r. may_fit r ≡ true) (rows_of f) n d at.inside
      (AllPass-from_list_all may_fit (rows_of f) (or_true (is_celled f) _ (rows_fit f) celled))) at.sure in
      let parts = and_parts (has_numbers here.names) _ fits in
      let free = and_parts (has_free_sizes here.template) (not here.template.of_opcode) parts.1 in
      subst (SureRowOf number) (in_table f n d at.inside) (λ some.
      let o = operation_number number here.names m in
      let same : o ≡ operation_number (number_at here.names (reg_field m)) here.names m = ap (λ k. operation_number k here.names m) at.number in
      let name = has_name here.names m parts.0 (subst (λ k. (k == 0) ≡ false) same some) in
      let is_name : IsNamed o = subst IsNamed (sym same) (number_named here.names m parts.0) in
      record {
        named = is_name;
        free = free.0;
        fits = is_read here m at.sure at.placed;
        instance = λ strict p.
            instance_is here row register o p m at.sure (named_by here.names row m parts.0 ∙ ap named (sym same) ∙ named_is o is_name)
            (no_number here.template.of_opcode register (carried f) free.1)
            (sizes_by here.template m o p free.0 ∙ sym (sizes_by here.template m row.opcode p free.0))
            ∙ ap (λ first. instance_of_row first row p m)
            (sym (chosen row strict p m (rows_of f) n d (e ∙ is) name) ∙ ap (λ rows. choose rows row strict p m) (span_at f (0, 0)).rows)
            ∙ instance_same strict p;
      })

  abbrev SureCell : Cell → TemplateRow → Type 0
  SureCell cell d = SureRowOf cell.number (get_or ROWS.now cell.row d)

  from_cell : (k : ℕ) (d : TemplateRow) → sure_at (rows_of f) (is_memory m) (reg_field m) ≡ k → SureCell (cell_from (rows_of f) (first_of f) (reg_field m) k) d
  from_cell zero d e h = absurd (true≢false h)
  from_cell (suc n) d e h = from_sure (suc n) n d e refl h

  cell_is_sure : (cell : Cell) (d : TemplateRow) → cell ≡ cell_by (rows_of f) (first_of f) (is_memory m) (reg_field m) →
      (operation_number cell.number (get_or ROWS.now cell.row d).names m == 0) ≡ false →
      IsRowOf row register m (operation_number cell.number (get_or ROWS.now cell.row d).names m) (get_or ROWS.now cell.row d).template
  cell_is_sure cell d e h = subst (λ cell. SureCell cell d) (sym e) (from_cell (sure_at (rows_of f) (is_memory m) (reg_field m)) d refl) h

-- ---- the places

-- a group has one number
has_number : (f : Form) → is_group f ≡ true → ((1 + ordinal_of f < length CELLS_AT.now) × (ordinal_of f ≡ first_ordinal_of f))
unfolding ordinal_of
has_number (form.Zv_R n) h = absurd cc
has_number (form.Zv_AX_R n) h = absurd cc
has_number (form.Zb_Ib_R n) h = absurd cc
has_number (form.Zv_Ivq_R n) h = absurd cc
has_number (form.Zv_B n) h = absurd cc
has_number _ h = (ltb-true _ _ refl, refl)

module _ (n : ℕ) (f : Form) (is : IsCelled n f) where
  pub number_below : n < length CELLS_AT.now
  number_below = subst (λ n. n < length CELLS_AT.now) (sym is.numbered) (has_number f is.group).0

  plus_one : (n : ℕ) → 1 + n ≡ n + 1
  plus_one n = omega arith

  cells_at : (d : ℕ) → get_or CELLS_AT.now n d ≡ get_or CELLS_AT.now (first_ordinal_of f + 1) 0
  cells_at d = get_or_default CELLS_AT.now n d 0 number_below
      ∙ ap (λ n. get_or CELLS_AT.now n 0) (is.numbered ∙ ap (λ n. 1 + n) (has_number f is.group).1 ∙ plus_one (first_ordinal_of f))

cells_inside : list_all (λ n. nat_lt n (length CELLS.now)) CELLS_AT.now ≡ true
cells_inside = refl

pub cells_below : (n d : ℕ) → n < length CELLS_AT.now → get_or CELLS_AT.now n d < length CELLS.now
cells_below n d below = ltb-true _ _ (All-get_or (λ n. nat_lt n (length CELLS.now) ≡ true) CELLS_AT.now n d below
    (AllPass-from_list_all (λ n. nat_lt n (length CELLS.now)) CELLS_AT.now cells_inside))

rows_inside : list_all (λ cells. list_all (λ cell. nat_lt cell.row (length ROWS.now)) cells) CELLS.now ≡ true
rows_inside = refl

sixteen : list_all (λ cells. length cells == 16) CELLS.now ≡ true
sixteen = refl

pub row_below : (n k : ℕ) (z : List Cell) (d : Cell) → n < length CELLS.now → k < 16 → (get_or (get_or CELLS.now n z) k d).row < length ROWS.now
row_below n k z d below low =
    let cells = get_or CELLS.now n z in
    let each = All-get_or (λ cells. list_all (λ cell. nat_lt cell.row (length ROWS.now)) cells ≡ true) CELLS.now n z below
    (AllPass-from_list_all (λ cells. list_all (λ cell. nat_lt cell.row (length ROWS.now)) cells) CELLS.now rows_inside) in
    let long = All-get_or (λ cells. (length cells == 16) ≡ true) CELLS.now n z below (AllPass-from_list_all (λ cells. length cells == 16) CELLS.now sixteen) in
    let inside : k < length cells = subst (λ n. k < n) (sym (eqb-true (length cells) 16 long)) low in
    ltb-true _ _ (All-get_or (λ cell. nat_lt cell.row (length ROWS.now) ≡ true) cells k d inside
    (AllPass-from_list_all (λ cell. nat_lt cell.row (length ROWS.now)) cells each))

-- the cell of a group at a ModRM byte
cell_at : (n : ℕ) (f : Form) (m at : ℕ) (z : List Cell) (c : Cell) (d : ℕ) → IsCelled n f → reg_field m < 8 →
    at ≡ (if is_memory m then reg_field m else reg_field m + 8) →
    get_or (get_or CELLS.now (get_or CELLS_AT.now n d) z) at c ≡ cell_by (rows_of f) (first_of f) (is_memory m) (reg_field m)
cell_at n f m at z c d is low place =
    let celled : is_celled f ≡ true = rw (is.group, is.celled) refl in
    ap (λ n. get_or (get_or CELLS.now n z) at c) (cells_at n f is d)
    ∙ ap (λ n. get_or (cells_of f z) n c) place
    ∙ cell_is f (reg_field m) (is_memory m) z c celled low

-- the row of the cell of a group at a ModRM byte, where it has an operation
module _ (n d at number m : ℕ) (row : TableRow) (z : List Cell) (c : Cell) (r : TemplateRow) where
  abbrev cell : Cell
  cell = get_or (get_or CELLS.now (get_or CELLS_AT.now n d) z) at c

  abbrev row_of : TemplateRow
  row_of = get_or ROWS.now cell.row r

  pub row_of_cell : IsCelled n row.form → reg_field m < 8 → at ≡ (if is_memory m then reg_field m else reg_field m + 8) →
      number ≡ operation_number cell.number row_of.names m → number ≢ 0 → IsRowOf row 0 m number row_of.template
  row_of_cell is low place same some =
      subst (λ k. IsRowOf row 0 m k row_of.template) (sym same)
      (cell_is_sure row 0 m is.group is.celled cell r (cell_at n row.form m at z c d is low place)
      (subst (λ k. (k == 0) ≡ false) same (ne_eqb number 0 some)))
