-- Instructions that == finds equal are the same but for their length, by the laws on the equality of what they hold.
use Rattle.std.proofs.Common.{◌≡◌, ◌↔◌, ℕ, ◌<◌, true, List, [], ◌∷◌, refl, sym, ap, ◌∙◌, arith}
use Rattle.std.proofs.lemmas.Bool.{and_parts}
use Rattle.std.proofs.lemmas.Bool.Decides.{Decides-eqb}
use Rattle.std.proofs.lemmas.Slice.Eq.{slice_eq-Decides}
use Rattle.x86_fields.specs.declared.prefixes.Prefixes.{Prefixes}
use Rattle.x86_fields.specs.contracts.prefixes.PrefixesPartialEq.TheImpl as prefixes
use Rattle.x86_operands.specs.declared.operands.Slot.{Slot}
use Rattle.x86_operands.specs.declared.operands.Operand.{Operand}
use Rattle.x86_operands.specs.contracts.operands.SlotPartialEq.TheImpl as slot
use Rattle.x86_operands.specs.contracts.operands.OperandPartialEq.TheImpl as operand
use Rattle.x86_decode.specs.declared.instructions.Instruction.{Instruction}
use Rattle.x86_decode.specs.Instruction.{slot_at, operand_at, shown_of, IsSameInstruction}
use Rattle.x86_decode.specs.contracts.instructions.ShownPartialEq.TheImpl as shown
use Rattle.x86_decode.specs.contracts.instructions.ShownEq.TheImpl.Laws as shown_laws

-- the elements of equal lists of four
each_of : {A : Type 0} (f g : ℕ → A) → ◌≡◌ {A = List A} (f 0 ∷ f 1 ∷ f 2 ∷ f 3 ∷ []) (g 0 ∷ g 1 ∷ g 2 ∷ g 3 ∷ []) → (k : ℕ) → k < 4 → f k ≡ g k
each_of f g e k below = grind arith

module _ (same_prefixes : (a b : Prefixes) → (prefixes.ghosts.eq a b ≡ true) ↔ (a ≡ b)) (same_slots : (a b : Slot) → (slot.ghosts.eq a b ≡ true) ↔ (a ≡ b))
    (same_operands : (a b : Operand) → (operand.ghosts.eq a b ≡ true) ↔ (a ≡ b)) (a b : Instruction) where
  pub equal_exactly : (shown.ghosts.eq (shown_of a) (shown_of b) ≡ true) ↔ IsSameInstruction a b
  equal_exactly = (
    λ h.
        let h1 = and_parts _ _ (and_parts _ _ h).1 in
        let h3 = and_parts _ _ (and_parts _ _ h1.1).1 in
        let h4 = and_parts _ _ h3.1 in
        record {
          prefixes = (same_prefixes a.prefixes b.prefixes).0 (and_parts _ _ h).0;
          opcode = (Decides-eqb a.opcode b.opcode).0 h1.0;
          count = (Decides-eqb a.operand_list.count b.operand_list.count).0 (and_parts _ _ h1.1).0;
          mem_size = (Decides-eqb a.operand_list.mem_size b.operand_list.mem_size).0 h3.0;
          slots = each_of (slot_at a) (slot_at b) ((slice_eq-Decides same_slots (shown_of a).slots (shown_of b).slots _ refl).0 h4.0);
          operands = each_of (operand_at a) (operand_at b) ((slice_eq-Decides same_operands (shown_of a).operands (shown_of b).operands _ refl).0 h4.1);
        },
    λ is.
        let e : shown_of a ≡ shown_of b = rw (
          is.slots 0 (omega arith),
          is.slots 1 (omega arith),
          is.slots 2 (omega arith),
          is.slots 3 (omega arith),
          is.operands 0 (omega arith),
          is.operands 1 (omega arith),
          is.operands 2 (omega arith),
          is.operands 3 (omega arith),
          is.prefixes,
          is.opcode,
          is.count,
          is.mem_size,
        ) refl in
        ap (λ z. shown.ghosts.eq (shown_of a) z) (sym e) ∙ shown_laws.laws-law.refl (shown_of a),
  )
