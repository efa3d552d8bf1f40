use Rattle.std.proofs.Common.{◌≡◌, ℕ, ◌<◌, false}
use Rattle.x86_operands.specs.Operands.{is_memory_slot}
use Rattle.x86_decode.specs.Instruction.{slot_at}
use Rattle.x86_layout.proofs.tightening.tighten.names_memory.Given as goal

abbrev pub invariant-loop-i : goal.invariant-loop-i
invariant-loop-i l = (k : ℕ) → k < l.i → is_memory_slot (slot_at l.instruction k) ≡ false
