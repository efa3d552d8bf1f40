use Rattle.std.proofs.Common.{sym, take-append-drop}
use Rattle.x86_streams.proofs.OutsideLemmas.Calls.{puts_fitting}
use Rattle.x86_streams.proofs.outside.gathered.Gathered.take_written.Goals as goal

pub returns-then-len-le-SIZE-clause-puts : goal.returns-then-len-le-SIZE-clause-puts
returns-then-len-le-SIZE-clause-puts g c =
    puts_fitting _ _ _ _ _ _ _ (sym c.if-gathers.ensures) (sym (take-append-drop c.args.held c.args.self.now.bytes.items))
