use Rattle.std.proofs.Common.{arith}
use Rattle.std.proofs.lemmas.Grind.{common_steps}
use Rattle.x86_decode.proofs.instructions.Instruction.operands.Goals as goal

pub returns : goal.returns
returns c = grind (arith, common_steps)
