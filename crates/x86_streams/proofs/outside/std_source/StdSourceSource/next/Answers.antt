use Rattle.x86_streams.proofs.OutsideLemmas.Calls.{next_reports}
use Rattle.x86_streams.proofs.outside.std_source.StdSourceSource.next.Goals as goal

pub returns : goal.returns
returns g c = (next_reports g.R.Read.remaining _ _ _ _ _ _ _ c.next_by.ensures.calls c.next_by.ensures.faults, c.next_by.ensures.calls)
