-- What the answer of a sentence has: tied operands, and the address of its raw fields.
use Rattle.std.proofs.Common.{◌≡◌, ℕ, ◌<◌, Bool, true, List, ◌∷◌, ◌++◌, All, Some, Result, Ok, Err, IfOk, length, refl, sym, ap, subst, ◌∙◌, arith}
use Rattle.std.proofs.lemmas.Bool.{cond_both, lt-ltb}
use Rattle.std.specs.Prelude.{FitsSigned}
use Rattle.std.specs.Int.{w32}
use Rattle.x86_fields.specs.declared.errors.DecodeError.{DecodeError}
use Rattle.x86_fields.specs.declared.prefixes.Prefixes.{Prefixes}
use Rattle.x86_fields.specs.declared.raw.Raw.{Raw}
use Rattle.x86_fields.specs.Run.{reading_of}
use Rattle.x86_fields.specs.Linear.{raw_form}
use Rattle.x86_forms.specs.Words.{rows_of, packed}
use Rattle.x86_operands.specs.Operands.{shape, operand_form}
use Rattle.x86_operands.specs.Records.{RowRecord, order_of}
use Rattle.x86_decode.specs.declared.instructions.Instruction.{Instruction}
use Rattle.x86_decode.specs.Head.{Rows, escape_bytes, clears, column_of, seen_by}
use Rattle.x86_decode.specs.Instruction.{slot_at, operand_at, instruction_of, operand_count}
use Rattle.x86_decode.specs.Ties.{HasTiedOperands}
use Rattle.x86_decode.specs.Addresses.{instance_within, raw_within}
use Rattle.x86_groups.specs.Groups.{record_of}
use Rattle.x86_decode.specs.Grammar.{places_of, IsSentence, IsAnswer}
use Rattle.x86_decode.specs.Answer.{answer_of, count_of}
use Rattle.x86_operands.specs.declared.reader.Reading.{Reading}
use Rattle.x86_operands.specs.Asks.{modrm_of}
use Rattle.x86_operands.specs.Pieces.{SpellsRow, names_modrm, instance_spelled, HasShapeAt, slot_read, operand_read, AreTied}
use Rattle.x86_decode.proofs.ByteLemmas.{Bytes, bytes_of, bytes_after, bytes_before, memory_fits}
use Rattle.x86_operands.proofs.TieLemmas.{spelled_tied}
use Rattle.x86_decode.proofs.PrintedLemmas.{printed_answer}
use Rattle.x86_operands.specs.declared.places.Places.{Places}

-- ---- an instruction, from its reading

module _ (reading : Reading) (places : Places) (n : ℕ) where
  abbrev made : Instruction
  made = instruction_of reading places n

  slot_here : (k : ℕ) → k < reading.count → slot_at made k ≡ slot_read reading k
  slot_here k below = rw (lt-ltb k reading.count below) refl

  operand_here : (k : ℕ) → k < reading.count → operand_at made k ≡ operand_read reading k
  operand_here k below = rw (lt-ltb k reading.count below) refl

  present : (k : ℕ) → k < operand_count made → k < reading.count
  present k below = omega (arith, below)

  pub tied_operands : AreTied reading → HasTiedOperands made
  tied_operands tied = record {
    few = tied.few;
    decoded = λ k below. let here = present k below in rw (operand_here k here) (tied.decoded k here);
    suited = λ k below. let here = present k below in rw (operand_here k here, slot_here k here) (tied.suited k here);
  }

  -- the slot and the operand are the shape of the raw fields
  pub is_shape : (k : ℕ) (raw : Raw) → HasShapeAt reading k raw → (slot_at made k ≡ (shape raw).0) × (operand_at made k ≡ (shape raw).1)
  is_shape k raw shapes = (slot_here k shapes.below ∙ shapes.slot, operand_here k shapes.below ∙ shapes.operand)

-- ---- tied operands

pub sentence_tied : (rows : Rows) (strict : Bool) (s : List ℕ) (a : Instruction) → IsSentence rows strict s a → HasTiedOperands a
sentence_tied rows strict s a is = rw is.yields
    (tied_operands is.reading (places_of rows strict s is.reading is.whole) (length s)
    (spelled_tied _ _ is.whole.tail is.reading is.whole.row_spelled))

-- ---- the memory operand of ModRM, by the laws on such operands and on shapes

module _ (shapes : (r : RowRecord) (p : Prefixes) (bytes : List ℕ) (reading : Reading) (row_spelled : SpellsRow r p bytes reading)
    (raw : Raw) → row_spelled.tail_spelled.pieces.memory ≡ Some raw → (k : ℕ) →
    names_modrm (instance_spelled r p bytes reading row_spelled) k ≡ true → HasShapeAt reading k raw)
    (rows : Rows) (strict : Bool) (s : List ℕ) (a : Instruction) (is : IsSentence rows strict s a) (raw : Raw) (k : ℕ)
    (memory : raw_within rows strict s is.reading is.whole ≡ Some raw)
    (named : names_modrm (instance_within rows strict s is.reading is.whole) k ≡ true) where
  pub sentence_shape : (slot_at a k ≡ (shape raw).0) × (operand_at a k ≡ (shape raw).1)
  sentence_shape =
      let here = is_shape is.reading (places_of rows strict s is.reading is.whole) (length s) k raw
      (shapes _ _ is.whole.tail is.reading is.whole.row_spelled raw memory k named) in
      (ap (λ i. slot_at i k) is.yields ∙ here.0, ap (λ i. operand_at i k) is.yields ∙ here.1)

  pub sentence_address : ((r : RowRecord) (p : Prefixes) (bytes : List ℕ) (reading : Reading) (row_spelled : SpellsRow r p bytes reading)
      (raw : Raw) → row_spelled.tail_spelled.pieces.memory ≡ Some raw → raw.address_size ≡ p.address_size) →
      ((raw : Raw) → FitsSigned w32 raw.disp → operand_form raw.address_size (shape raw).1 ≡ Some (raw_form raw)) → All (λ b. b < 256) s →
      operand_form (reading_of is.whole.run).address_size (operand_at a k) ≡ Some (raw_form raw)
  sentence_address size form bytes =
      let w = is.whole in
      let r = w.row_spelled in
      let q = r.tail_spelled.pieces in
      let p : Prefixes = seen_by w.map w.opcode (reading_of w.run) in
      -- the bytes of SIB and displacement
      let after_run = bytes_after w.run (escape_bytes w.map ++ w.opcode ∷ w.tail) (subst Bytes w.spelled (bytes_of s bytes)) in
      let past_opcode : Bytes r.tail = bytes_after r.modrm r.tail (subst Bytes r.spelled (bytes_after (escape_bytes w.map) (w.opcode ∷ w.tail) after_run).1) in
      let fits : FitsSigned w32 raw.disp = memory_fits (order_of ((record_of strict w.row p).instance (modrm_of (record_of strict w.row p).modrm r.modrm))).rm p
      (modrm_of (record_of strict w.row p).modrm r.modrm) q.address q.memory raw q.address_spelled memory
      (bytes_before q.address (q.immediates ++ q.suffix) (subst Bytes q.spelled past_opcode)) in
      -- clearing 66 leaves 67
      let seen : p.address_size ≡ (reading_of w.run).address_size =
      cond_both (clears w.map (column_of (reading_of w.run)) w.opcode) _ _
      (λ (q : Prefixes). q.address_size ≡ (reading_of w.run).address_size) (λ _. refl) (λ _. refl) in
      rw (sym seen, sym (size (record_of strict w.row p) p w.tail is.reading r raw memory), sentence_shape.1) (form raw fits)

-- an answer has tied operands
pub answer_tied : (rows : Rows) (strict : Bool) (input : List ℕ) (r : Result Instruction DecodeError) (n : ℕ) →
    IsAnswer rows strict input r n → IfOk r HasTiedOperands
answer_tied rows strict input (Ok a) n h = sentence_tied rows strict h.sentence a h.is
answer_tied rows strict input (Err e) n h = tt

pub printed_tied : (strict : Bool) (xs : List ℕ) (i : Instruction) → answer_of strict xs ≡ Ok i → HasTiedOperands i
printed_tied strict xs i e = answer_tied (rows_of packed) strict xs (Ok i) (count_of strict xs) (printed_answer strict xs (Ok i) (sym e))
