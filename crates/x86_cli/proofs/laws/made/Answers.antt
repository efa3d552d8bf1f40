use Rattle.std.proofs.Common.{ℕ, List, Result}
use Rattle.x86_streams.specs.Outside.Joined.{FlushesWriter, WritesWriter}
use Rattle.x86_streams.specs.Outside.OneByOne.{HoldsNothing, PutsPiece}
use Rattle.x86_streams.proofs.OutsideLemmas.Calls.{writers_leave_the_reader}
use Rattle.x86_cli.proofs.CommandLemmas.Ends.{make_unread}
use Rattle.x86_cli.proofs.CommandLemmas.Says.{made_says}
use Rattle.x86_cli.proofs.laws.made.Goals as goal

pub returns-clause-says : goal.returns-clause-says
returns-clause-says g c n status a b h = (
  writers_leave_the_reader (PutsPiece g.K.Sink.takes) HoldsNothing h.1.calls a b (make_unread _ _ _ _ n _ a b h.1),
  made_says g.S.Source.gives g.K.Sink.takes g.S.Source.left g.S.Source.faults g.K.Sink.written g.K.Sink.faults g.met.S.Source.reports
      g.met.K.Sink.reports n _ a b h.1,
)

pub returns-clause-unread : goal.returns-clause-unread
returns-clause-unread g c n outcome s t h = make_unread _ _ _ _ n outcome s t h
