use Rattle.x86_cli.proofs.CommandLemmas.Says.{says}
use Rattle.x86_cli.proofs.laws.headline.Goals as goal

pub returns-clause-runs : goal.returns-clause-runs
returns-clause-runs g c command status a b h =
    says g.S.Source.gives g.K.Sink.takes g.S.Source.left g.S.Source.faults g.K.Sink.written g.K.Sink.faults g.met.S.Source.reports
    g.met.K.Sink.reports command _ a b h.1
