use Rattle.x86_cli.proofs.CommandLemmas.Ends.{ends_at}
use Rattle.x86_cli.proofs.laws.ends.Goals as goal

pub returns-clause-listed : goal.returns-clause-listed
returns-clause-listed g c command outcome s t h = ends_at _ _ _ _ command outcome s t h

pub returns-clause-run : goal.returns-clause-run
returns-clause-run g c command status a b h = ends_at _ _ _ _ command _ a b h.1
