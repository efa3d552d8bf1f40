use Rattle.std.proofs.Common.{◌≤◌, ◌-◌, [], length, drop, Ok}
use Rattle.x86_streams.specs.Outside.Chain.{Sends}
use Rattle.x86_streams.proofs.outside.sending.send_out.Given as goal

abbrev pub invariant-loop-sent : goal.invariant-loop-sent
invariant-loop-sent g l = record {
  within : l.sent ≤ length l.bytes;
  sends : Sends g.O.Output.writes g.O.Output.flushes (Ok tt) [] l.bytes (drop l.sent l.bytes) l.initial.writer l.writer;
}

abbrev pub decreases-loop-sent : goal.decreases-loop-sent
decreases-loop-sent g l = length l.bytes - l.sent
