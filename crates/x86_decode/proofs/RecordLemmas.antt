-- What holds of the records of all rows: sizes up to 64 bytes, only 8F left out, and at which bytes 8F and the fences
-- are.
use Rattle.std.proofs.Common.{◌≡◌, ◌≢◌, ℕ, ◌<◌, ◌≤◌, Bool, true, false, List, Some, None, Ok, sym, ap, ◌∙◌, arith, rules, [], ◌∷◌, ◌&&◌, ◌==◌, eqb, IfSome}
use Rattle.std.proofs.lemmas.Bool.Decides.{nat_tests}
use Rattle.std.proofs.lemmas.Bool.{and_parts, cond_both, eqb-true}
use Rattle.x86_fields.specs.declared.prefixes.Prefixes.{Prefixes}
use Rattle.x86_fields.specs.Run.{reading_of}
use Rattle.x86_forms.specs.declared.Map.{Map}
use Rattle.x86_forms.specs.declared.Map.TheVariants.{One, Of}
use Rattle.x86_forms.specs.declared.Column.{Column}
use Rattle.x86_forms.specs.declared.Form.{Form}
use Rattle.x86_forms.specs.declared.Form.TheVariants as form
use Rattle.x86_forms.specs.Rows.{Row, printed_rows, row_in, has_column, printed_row}
use Rattle.x86_forms.specs.declared.TableRow.{TableRow}
use Rattle.x86_forms.specs.Groups.{is_group}
use Rattle.x86_forms.specs.Words.{rows_of, packed}
use Rattle.x86_operands.specs.declared.vocabulary.Fault.TheVariants.{Incomplete}
use Rattle.x86_operands.specs.declared.vocabulary.Verdict.TheVariants.{Refuses}
use Rattle.x86_operands.specs.Forms.{form_record}
use Rattle.x86_operands.specs.Asks.{modrm_of}
use Rattle.x86_operands.specs.Pieces.{after_pieces, no_name, RefusesRow, at_opcode, past_opcode}
use Rattle.x86_groups.specs.Groups.{group_record, record_of}
use Rattle.x86_decode.specs.declared.instructions.Instruction.{Instruction}
use Rattle.x86_decode.specs.Head.{Rows, column_of, seen_by}
use Rattle.x86_decode.specs.Grammar.{IsRefusedByRecord, IsAnswer}
use Rattle.x86_decode.specs.Answer.{answer_of, count_of}
use Rattle.x86_decode.specs.Choices.{IsFence}
use Rattle.x86_decode.proofs.PrintedLemmas.{printed_answer}

-- ---- sizes, by the laws on plain forms and on groups

module _ (plain : (row : TableRow) (p : Prefixes) (m : ℕ) → ((form_record row p).instance m).size ≤ 64)
    (group : (strict : Bool) (row : TableRow) (p : Prefixes) (m : ℕ) → ((group_record strict row p).instance m).size ≤ 64) where
  -- an instruction has the size of its instance
  pub answer_small : (rows : Rows) (strict : Bool) (input : List ℕ) (a : Instruction) (n : ℕ) → IsAnswer rows strict input (Ok a) n →
      a.operand_list.mem_size < 65
  answer_small rows strict input a n h =
      let row = h.is.whole.row in
      let p : Prefixes = seen_by h.is.whole.map h.is.whole.opcode (reading_of h.is.whole.run) in
      let m = modrm_of (record_of strict row p).modrm h.is.whole.row_spelled.modrm in
      let small = cond_both (is_group row.form) (group_record strict row p) (form_record row p) (λ r. (r.instance m).size ≤ 64)
      (λ _. group strict row p m) (λ _. plain row p m) in
      omega (arith, ap (λ i. i.operand_list.mem_size) h.is.yields, ap (λ x. x.mem_size) h.is.whole.row_spelled.tail_spelled.yields, small)

  pub printed_small : (strict : Bool) (xs : List ℕ) (i : Instruction) → answer_of strict xs ≡ Ok i → i.operand_list.mem_size < 65
  printed_small strict xs i e = answer_small (rows_of packed) strict xs i (count_of strict xs) (printed_answer strict xs (Ok i) (sym e))

-- ---- where a form is printed: 8F and the fences each at one byte

abbrev is_place : Form → Map → ℕ → Bool
is_place form.ModRM_0x8f One byte = byte == 0x8f
is_place form.ModRM_0x8f m byte = false
is_place form.ModRM_0x0fae Of byte = byte == 0xae
is_place form.ModRM_0x0fae m byte = false
is_place f m byte = true

abbrev in_place : Map → List Row → Bool
in_place m [] = true
in_place m (r ∷ rs) = is_place r.row.form m r.byte && in_place m rs

place_8f : (m : Map) (byte : ℕ) → is_place form.ModRM_0x8f m byte ≡ true → (m ≡ One) × (byte ≡ 0x8f)
place_8f m byte h = grind (arith, nat_tests)

place_0fae : (m : Map) (byte : ℕ) → is_place form.ModRM_0x0fae m byte ≡ true → (m ≡ Of) × (byte ≡ 0xae)
place_0fae m byte h = grind (arith, nat_tests)

found : (m : Map) (rs : List Row) (column : Column) (byte : ℕ) → in_place m rs ≡ true → IfSome (row_in rs column byte) (λ row. is_place row.form m byte ≡ true)
found m [] column byte h = tt
found m (r ∷ rs) column byte h =
    let parts = and_parts (is_place r.row.form m r.byte) (in_place m rs) h in
    cond_both (eqb r.byte byte && has_column r.columns column) (Some r.row) (row_in rs column byte) (λ o. IfSome o (λ row. is_place row.form m byte ≡ true))
    (λ here. ap (is_place r.row.form m) (sym (eqb-true r.byte byte (and_parts (eqb r.byte byte) (has_column r.columns column) here).0)) ∙ parts.0)
    (λ _. found m rs column byte parts.1)

-- the law that the printed words have the printed rows
abbrev PrintedRows : Type 0
PrintedRows = (m : Map) (column : Column) (byte : ℕ) → rows_of packed m column byte ≡ printed_row m column byte

printed_at : PrintedRows → (m : Map) (column : Column) (byte : ℕ) (row : TableRow) → rows_of packed m column byte ≡ Some row → is_place row.form m byte ≡ true
unfolding printed_row
printed_at printed m column byte row e = rw (sym (printed m column byte) ∙ e) at (found m (printed_rows m) column byte (search rules))

-- ---- records that are left out, by the laws on what is built

module _ (plain : (row : TableRow) (p : Prefixes) (m : ℕ) → is_group row.form ≡ false →
    ((form_record row p).instance m).verdict ≢ Refuses Incomplete)
    (passes : (row : TableRow) (p : Prefixes) → (form_record row p).at_opcode ≡ None)
    (group_passes : (strict : Bool) (row : TableRow) (p : Prefixes) → (group_record strict row p).at_opcode ≢ Some Incomplete)
    (group : (strict : Bool) (row : TableRow) (p : Prefixes) (m : ℕ) → is_group row.form ≡ true →
    ((group_record strict row p).instance m).verdict ≡ Refuses Incomplete → row.form ≡ form.ModRM_0x8f) where
  gap_of_8f : (strict : Bool) (row : TableRow) (p : Prefixes) (m : ℕ) →
      ((record_of strict row p).instance m).verdict ≡ Refuses Incomplete → row.form ≡ form.ModRM_0x8f
  gap_of_8f strict row p m = cond_both (is_group row.form) (group_record strict row p) (form_record row p)
      (λ r. (r.instance m).verdict ≡ Refuses Incomplete → row.form ≡ form.ModRM_0x8f)
      (λ is. group strict row p m is) (λ is e. absurd (plain row p m is e))

  row_of_8f : (strict : Bool) (row : TableRow) (p : Prefixes) (bytes : List ℕ) → RefusesRow (record_of strict row p) p bytes Incomplete →
      row.form ≡ form.ModRM_0x8f
  row_of_8f strict row p bytes (at_opcode e _) = absurd
      (cond_both (is_group row.form) (group_record strict row p) (form_record row p) (λ r. r.at_opcode ≢ Some Incomplete)
      (λ _. group_passes strict row p) (λ _ e. let none = passes row p in cc) e)
  row_of_8f strict row p bytes (past_opcode _ _ _ _ _ (after_pieces e _)) = gap_of_8f strict row p _ e
  row_of_8f strict row p bytes (past_opcode _ _ _ _ _ (no_name _ _ _ e)) = absurd cc

  pub left_out_is_8f : (rows : Rows) (strict : Bool) (q : List ℕ) (c : IsRefusedByRecord rows strict q Incomplete) → c.row.form ≡ form.ModRM_0x8f
  left_out_is_8f rows strict q c = row_of_8f strict c.row (seen_by c.map c.opcode (reading_of c.run)) c.tail c.refuses

  pub left_out_at_8f : PrintedRows → (strict : Bool) (q : List ℕ) (c : IsRefusedByRecord (rows_of packed) strict q Incomplete) →
      (c.map ≡ One) × (c.opcode ≡ 0x8f)
  left_out_at_8f printed strict q c =
      place_8f c.map c.opcode (rw (left_out_is_8f (rows_of packed) strict q c) at
      (printed_at printed c.map (column_of (reading_of c.run)) c.opcode c.row c.has_row))

pub fence_at_0fae : PrintedRows → (q : List ℕ) (c : IsFence (rows_of packed) q) → (c.map ≡ Of) × (c.opcode ≡ 0xae)
fence_at_0fae printed q c = place_0fae c.map c.opcode (rw c.names.group at (printed_at printed c.map (column_of (reading_of c.run)) c.opcode c.row c.has_row))
