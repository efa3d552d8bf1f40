use Rattle.std.proofs.Common.{arith}
use Rattle.x86_opcodes.proofs.Opcode.from_number.Goals as goal

pub invariant_of-result : goal.invariant_of-result
invariant_of-result c = grind arith

pub returns-then-number : goal.returns-then-number
returns-then-number c = grind arith
