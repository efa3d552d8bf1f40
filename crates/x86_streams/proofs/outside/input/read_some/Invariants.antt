use Rattle.std.proofs.Common.{ℕ, List, Err}
use Rattle.x86_streams.specs.Outside.Chain.{Interruptions}
use Rattle.x86_streams.proofs.outside.input.read_some.Given as goal

abbrev pub invariant-loop-tried : goal.invariant-loop-tried
invariant-loop-tried g l = record { tries : Interruptions (λ u e v. (part : List ℕ) × g.I.Input.reads u part (Err e) v) l.tried l.initial.reader l.reader }
