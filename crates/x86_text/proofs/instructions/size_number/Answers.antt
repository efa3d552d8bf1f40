use Rattle.std.proofs.Common.{sym}
use Rattle.x86_text.proofs.OperandLemmas.{no_size}
use Rattle.x86_text.proofs.instructions.size_number.Goals as goal

pub returns-in-None : goal.returns-in-None
returns-in-None c = sym (no_size c.args.instruction.now.operand_list.mem_size _ _ c.mem_size.ensures c.in-None.is)
