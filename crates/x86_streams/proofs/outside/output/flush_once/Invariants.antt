use Rattle.std.proofs.Common.{Err}
use Rattle.x86_streams.specs.Outside.Chain.{Interruptions}
use Rattle.x86_streams.proofs.outside.output.flush_once.Given as goal

abbrev pub invariant-loop-tried : goal.invariant-loop-tried
invariant-loop-tried g l = record { tries : Interruptions (λ u e v. g.O.Output.flushes u (Err e) v) l.tried l.initial.writer l.writer }
