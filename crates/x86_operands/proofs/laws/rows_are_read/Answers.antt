use Rattle.x86_operands.proofs.RecordLemmas.{row_wherever, row_refuses}
use Rattle.x86_operands.proofs.laws.rows_are_read.Goals as goal

pub returns-clause-wherever : goal.returns-clause-wherever
returns-clause-wherever c = row_wherever

pub returns-clause-refuses : goal.returns-clause-refuses
returns-clause-refuses c = row_refuses
