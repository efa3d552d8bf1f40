use Rattle.std.proofs.Common.{arith}
use Rattle.std.proofs.lemmas.Grind.{common_steps}
use Rattle.x86_streams.proofs.outside.array_sink.ArraySinkSink.put.Goals as goal

pub returns-then-fits-piece : goal.returns-then-fits-piece
returns-then-fits-piece g c = grind (arith, common_steps)

pub returns : goal.returns
returns g c = grind (arith, common_steps)
