use Rattle.std.proofs.Common.{arith}
use Rattle.std.proofs.lemmas.Grind.{elements}
use Rattle.x86_text.proofs.operands.put_displacement.Goals as goal

pub returns-clause-text : goal.returns-clause-text
returns-clause-text c = grind (arith, elements)
