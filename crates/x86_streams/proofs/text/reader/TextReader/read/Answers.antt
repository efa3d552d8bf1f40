use Rattle.std.proofs.Common.{arith}
use Rattle.std.proofs.lemmas.Grind.{common_steps}
use Rattle.x86_streams.proofs.TextLemmas.Cells.{read_after, read_none}
use Rattle.x86_streams.proofs.text.reader.TextReader.read.Goals as goal

pub returns-clause-reads : goal.returns-clause-reads
returns-clause-reads g c = grind (arith, common_steps, read_after)

pub returns-in_err-count-clause-reads : goal.returns-in_err-count-clause-reads
returns-in_err-count-clause-reads g c = grind (arith, common_steps, read_none)
