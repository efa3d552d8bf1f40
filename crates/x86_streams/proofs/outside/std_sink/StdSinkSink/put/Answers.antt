use Rattle.x86_streams.proofs.OutsideLemmas.Calls.{put_reports}
use Rattle.x86_streams.proofs.outside.std_sink.StdSinkSink.put.Goals as goal

pub returns : goal.returns
returns g c = (put_reports g.W.Write.contents _ _ _ _ _ _ c.put_by.ensures.calls c.put_by.ensures.faults, c.put_by.ensures.calls)
