use Rattle.x86_cli.proofs.CommandLemmas.Ends.{unrefused}
use Rattle.x86_cli.proofs.laws.unrefused.Goals as goal

pub returns : goal.returns
returns g c command status a b runs goes = unrefused _ _ _ _ command _ a b runs.1 goes
