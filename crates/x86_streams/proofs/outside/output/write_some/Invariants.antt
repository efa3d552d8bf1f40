use Rattle.std.proofs.Common.{Err}
use Rattle.x86_streams.specs.Outside.Chain.{Interruptions}
use Rattle.x86_streams.proofs.outside.output.write_some.Given as goal

abbrev pub invariant-loop-tried : goal.invariant-loop-tried
invariant-loop-tried g l = record { tries : Interruptions (λ u e v. g.O.Output.writes u l.bytes (Err e) v) l.tried l.initial.writer l.writer }
