use Rattle.x86_streams.proofs.OutsideLemmas.Record.{records}
use Rattle.x86_streams.proofs.laws.recorded.Goals as goal

pub returns-clause-calls : goal.returns-clause-calls
returns-clause-calls g c cs s t did = records g.P.Input.reads g.P.Output.writes g.P.Output.flushes cs s t did
