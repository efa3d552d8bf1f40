-- What the pieces of a row yield: tied slots and operands, and the shape of the raw fields.
use Rattle.std.proofs.Common.{◌≡◌, ℕ, zero, suc, ◌<◌, ◌≤◌, true, List, take, drop, Option, Some, None, Ok, slice_index_or, refl, sym, ap, subst, ◌∙◌, arith}
use Rattle.std.proofs.lemmas.Bool.{and_parts, eqb-true}
use Rattle.x86_operands.specs.Vocabulary.{Order, Position, Prefixes, Raw, Slot, Operand, OperandEncoding, Operands, Reading}
use Rattle.x86_arch.specs.Reader.{State}
use Rattle.x86_operands.specs.declared.operands.Slot.TheVariants as slots
use Rattle.x86_operands.specs.declared.operands.Operand.TheVariants as operands
use Rattle.x86_operands.specs.Operands.{shape}
use Rattle.x86_operands.specs.Orders.{Sequence, NO, I, I_X, R, R_I, R_I_X, I_R, G_E_I_X, positions}
use Rattle.x86_operands.specs.Records.{Instance, RowRecord, order_of}
use Rattle.x86_operands.specs.RowSteps.{changed, known_operand, put_in, reading_with, record_step, sized}
use Rattle.x86_operands.specs.Pieces.{is_decoded, suits, slot_read, operand_read, AreTied, is_modrm_encoding, names_modrm}
use Rattle.x86_operands.specs.Pieces.{reading_from, writes_modrm}
use Rattle.x86_operands.specs.Pieces.{HasShapeAt, operand_from, SpellsMemory, SpellsRow}
use Rattle.x86_operands.specs.Asks.{modrm_of, part_width}
use Rattle.x86_operands.specs.Templates.{index_of_position, somewhere}
use Rattle.x86_operands.proofs.RecordLemmas.{row_read}

-- ---- one operand

abbrev Pair : Type 0
Pair = Slot × Operand

abbrev IsTied : Pair → Type 0
IsTied x = (is_decoded x.1 ≡ true) × (suits x.0 x.1 ≡ true)

shape_decoded : (raw : Raw) → is_decoded (shape raw).1 ≡ true
unfolding shape
shape_decoded raw = grind arith

shape_suits : (raw : Raw) → suits (shape raw).0 (shape raw).1 ≡ true
unfolding shape
shape_suits raw = grind arith

known_tied : (s : OperandEncoding) (p : Prefixes) (m : ℕ) (memory : Option Raw) → IsTied (known_operand s p m memory)
known_tied s p m memory = (grind (arith, shape_decoded), grind (arith, shape_suits))

operand_tied : (s : OperandEncoding) (p : Prefixes) (m : ℕ) (bytes : List ℕ) → IsTied (operand_from s p m bytes)
operand_tied s p m bytes = (grind (arith, shape_decoded), grind (arith, shape_suits))

modrm_yields : (s : OperandEncoding) (p : Prefixes) (m : ℕ) (raw : Raw) → is_modrm_encoding s ≡ true → known_operand s p m (Some raw) ≡ shape raw
modrm_yields s p m raw e = grind arith

-- ---- the operands in their order

module _ (rm reg last extra : Pair) (size opcode : ℕ) (p : Prefixes) where
  abbrev written : Sequence → Reading
  written o =
      let at : Order = positions o in
      reading_with opcode p (put_in at.extra extra (put_in at.last last (put_in at.reg reg (put_in at.rm rm (sized at.count size)))))

  abbrev pair_read : Sequence → ℕ → Pair
  pair_read o k = (slot_read (written o) k, operand_read (written o) k)

  nothing_in : (o : Sequence) → (k : ℕ) → (positions o).count ≤ k → pair_read o k ≡ (slots.Nothing, operands.Nothing)
  nothing_in NO zero le = refl
  nothing_in o zero le = absurd (omega arith)
  nothing_in NO (suc zero) le = refl
  nothing_in o (suc zero) le = grind arith
  nothing_in NO (suc (suc zero)) le = refl
  nothing_in o (suc (suc zero)) le = grind arith
  nothing_in G_E_I_X (suc (suc (suc zero))) le = absurd (omega arith)
  nothing_in o (suc (suc (suc zero))) le = refl
  nothing_in NO (suc (suc (suc (suc k)))) le = refl
  nothing_in o (suc (suc (suc (suc k)))) le = refl

  tied_in : (o : Sequence) → IsTied rm → IsTied reg → IsTied last → IsTied extra → (k : ℕ) → k < (positions o).count → IsTied (pair_read o k)
  tied_in NO a b c d k below = absurd (omega arith)
  tied_in o a b c d zero below = (grind arith, grind arith)
  tied_in o a b c d (suc zero) below = (grind arith, grind arith)
  tied_in o a b c d (suc (suc zero)) below = (grind arith, grind arith)
  tied_in o a b c d (suc (suc (suc zero))) below = (grind arith, grind arith)
  tied_in o a b c d (suc (suc (suc (suc k)))) below = absurd (omega arith)

  few_in : (o : Sequence) → (positions o).count ≤ 4
  few_in NO = omega arith
  few_in o = omega arith

  all_tied : (o : Sequence) → IsTied rm → IsTied reg → IsTied last → IsTied extra → AreTied (written o)
  all_tied o a b c d = record {
    few = few_in o;
    decoded = λ k below. (tied_in o a b c d k below).0;
    suited = λ k below. (tied_in o a b c d k below).1;
    empty_slots = λ k le. ap (λ x. x.0) (nothing_in o k le);
    empty_operands = λ k le. ap (λ x. x.1) (nothing_in o k le);
  }

  rm_in : (o : Sequence) → somewhere (positions o).rm ≡ true → (raw : Raw) → rm ≡ shape raw → HasShapeAt (written o) (index_of_position (positions o).rm) raw
  rm_in NO is raw e = absurd cc
  rm_in I is raw e = absurd cc
  rm_in I_X is raw e = absurd cc
  rm_in R is raw e = absurd cc
  rm_in R_I is raw e = absurd cc
  rm_in R_I_X is raw e = absurd cc
  rm_in I_R is raw e = absurd cc
  rm_in o is raw e = record { below = omega arith; slot = ap (λ x. x.0) e; operand = ap (λ x. x.1) e }

-- 67 of the raw fields is that of the prefixes
same_address_size : (at : Position) (p : Prefixes) (m : ℕ) (bytes : List ℕ) (memory : Option Raw) (raw : Raw) → SpellsMemory at p m bytes memory →
    memory ≡ Some raw → raw.address_size ≡ p.address_size
same_address_size at p m bytes None raw h e = absurd cc
same_address_size at p m bytes (Some other) raw h e =
    let same : other ≡ raw = cc in
    let fields = h.1.fields in
    ap (λ x. x.address_size) (sym same ∙ fields)

module _ (r : RowRecord) (p : Prefixes) (bytes : List ℕ) (reading : Reading) (row_spelled : SpellsRow r p bytes reading) where
  abbrev m : ℕ
  m = modrm_of r.modrm row_spelled.modrm

  abbrev instance : Instance
  instance = r.instance m

  abbrev memory : Option Raw
  memory = row_spelled.tail_spelled.pieces.memory

  abbrev last : Pair
  last = operand_from instance.last p m (take (part_width (order_of instance).last instance.last) row_spelled.tail_spelled.pieces.immediates)

  abbrev extra : Pair
  extra = operand_from instance.extra p m (drop (part_width (order_of instance).last instance.last) row_spelled.tail_spelled.pieces.immediates)

  abbrev reg : Pair
  reg = known_operand instance.reg p m None

  pub spelled_tied : AreTied reading
  spelled_tied = subst AreTied (sym row_spelled.tail_spelled.yields)
      (all_tied (known_operand instance.rm p m memory) reg last extra instance.size row_spelled.tail_spelled.opcode (changed instance.change p)
      instance.order (known_tied instance.rm p m memory) (known_tied instance.reg p m None)
      (operand_tied instance.last p m (take (part_width (order_of instance).last instance.last) row_spelled.tail_spelled.pieces.immediates))
      (operand_tied instance.extra p m (drop (part_width (order_of instance).last instance.last) row_spelled.tail_spelled.pieces.immediates)))

  module _ (raw : Raw) (read : memory ≡ Some raw) where
    -- 67 of the raw fields is that of the prefixes
    pub memory_size_is : raw.address_size ≡ p.address_size
    memory_size_is = same_address_size (order_of instance).rm p m row_spelled.tail_spelled.pieces.address memory raw
        row_spelled.tail_spelled.pieces.address_spelled read

    -- the slot and the operand at the index of rm
    pub memory_is_shape : (k : ℕ) → names_modrm instance k ≡ true → HasShapeAt reading k raw
    memory_is_shape k is =
        let parts = and_parts (writes_modrm instance) _ is in
        let there = and_parts (somewhere (order_of instance).rm) (is_modrm_encoding instance.rm) parts.0 in
        subst (λ x. HasShapeAt x k raw) (sym row_spelled.tail_spelled.yields)
        (subst (λ k. HasShapeAt (reading_from instance p m row_spelled.tail_spelled.opcode memory row_spelled.tail_spelled.pieces.immediates) k raw)
        (eqb-true (index_of_position (order_of instance).rm) k parts.1)
        (rm_in (known_operand instance.rm p m memory) reg last extra instance.size row_spelled.tail_spelled.opcode (changed instance.change p)
        instance.order there.0 raw (ap (λ o. known_operand instance.rm p m o) read ∙ modrm_yields instance.rm p m raw there.1)))

-- what is read is tied
pub read_tied : (r : RowRecord) (p : Prefixes) (s : State ℕ) (reading : Reading) → (record_step r p s).answer ≡ Ok reading → AreTied reading
read_tied r p s reading h = let is = row_read r p s reading h in spelled_tied r p is.bytes reading is.spelled
