use Rattle.std.proofs.Common.{rules}
use Rattle.x86_decode.proofs.instructions.Instruction.segment_override_for_op.Goals as goal

pub returns-in-0 : goal.returns-in-0
returns-in-0 c = search rules
