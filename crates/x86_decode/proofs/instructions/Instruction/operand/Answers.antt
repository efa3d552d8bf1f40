use Rattle.std.proofs.Common.{rules}
use Rattle.x86_decode.proofs.instructions.Instruction.operand.Goals as goal

pub returns : goal.returns
returns c = search rules
