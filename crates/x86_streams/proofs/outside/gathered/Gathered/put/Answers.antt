use Rattle.std.proofs.Common.{sym, arith}
use Rattle.x86_streams.proofs.OutsideLemmas.Calls.{puts_fitting, puts_new}
use Rattle.x86_streams.proofs.outside.gathered.Gathered.put.Goals as goal

pub returns-then-not-gathers : goal.returns-then-not-gathers
returns-then-not-gathers g c = rw (c.requires.empty (sym c.if-not-gathers.ensures)) c.put_whole.ensures

pub returns : goal.returns
returns g c = grind (arith, puts_new, puts_fitting)
