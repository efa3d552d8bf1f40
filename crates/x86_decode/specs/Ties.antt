-- What the operands and slots of an instruction have in common.
use Rattle.std.specs.Prelude.{◌≡◌, ℕ, ◌<◌, ◌≤◌, true}
use Rattle.x86_decode.specs.declared.instructions.Instruction.{Instruction}
use Rattle.x86_decode.specs.Instruction.{operand_count, slot_at, operand_at}
pub use Rattle.x86_operands.specs.Pieces.{is_decoded, suits}

-- At most four operands, each of them decoded and suited to its slot.
pub record HasTiedOperands (i : Instruction) : Type 0 where
  pub few : i.operand_list.count ≤ 4
  pub decoded : (k : ℕ) → k < operand_count i → is_decoded (operand_at i k) ≡ true
  pub suited : (k : ℕ) → k < operand_count i → suits (slot_at i k) (operand_at i k) ≡ true
