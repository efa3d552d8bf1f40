use Rattle.x86_operands.proofs.TieLemmas.{spelled_tied}
use Rattle.x86_operands.proofs.laws.readings_are_tied.Goals as goal

pub returns-clause-spelled : goal.returns-clause-spelled
returns-clause-spelled c r p bytes reading row_spelled = spelled_tied r p bytes reading row_spelled
