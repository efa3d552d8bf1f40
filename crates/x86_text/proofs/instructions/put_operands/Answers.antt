use Rattle.std.proofs.Common.{arith}
use Rattle.std.proofs.lemmas.Grind.{common_steps}
use Rattle.x86_text.specs.Operands.{operands_text}
use Rattle.x86_text.proofs.instructions.put_operands.Goals as goal

pub returns-then-operand_count-gt2-clause-text : goal.returns-then-operand_count-gt2-clause-text
unfolding operands_text
returns-then-operand_count-gt2-clause-text c = grind (arith, common_steps)

pub returns-else-operand_count-gt2-clause-text : goal.returns-else-operand_count-gt2-clause-text
unfolding operands_text
returns-else-operand_count-gt2-clause-text c = grind (arith, common_steps)
