use Rattle.std.proofs.Common.{rules}
use Rattle.x86_opcodes.proofs.Opcode.condition.Goals as goal

pub returns-in-JNB : goal.returns-in-JNB
returns-in-JNB c = search rules
