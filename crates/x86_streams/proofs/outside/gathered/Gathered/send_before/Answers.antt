use Rattle.std.proofs.Common.{Ok, Err, sym}
use Rattle.x86_streams.proofs.OutsideLemmas.Calls.{puts_before}
use Rattle.x86_streams.proofs.outside.gathered.Gathered.send_before.Goals as goal

pub returns-in-Ok-clause-puts : goal.returns-in-Ok-clause-puts
returns-in-Ok-clause-puts g c =
    let on = sym c.if-not-gathers.ensures in
    let sent = c.send_out-sent.ensures in
    puts_before _ _ _ (Ok tt) c.args.self.now.bytes.items c.leave.new.self.items c.args.held c.send_out-sent.result.0 _ _ on
    (rw (c.as_slice-2.ensures, c.in-Ok.is) at sent.sends) (rw c.as_slice-2.ensures at sent.bound) c.leave.ensures tt (c.requires.full on)

pub returns-in-Err-clause-puts : goal.returns-in-Err-clause-puts
returns-in-Err-clause-puts g c =
    let on = sym c.if-not-gathers.ensures in
    let sent = c.send_out-sent.ensures in
    puts_before _ _ _ (Err c.in-Err.failed) c.args.self.now.bytes.items c.leave-in-Err.new.self.items c.args.held c.send_out-sent.result.0 _ _ on
    (rw (c.as_slice-2.ensures, c.in-Err.is) at sent.sends) (rw c.as_slice-2.ensures at sent.bound) tt (rw c.truncate.ensures at c.leave-in-Err.ensures)
    (c.requires.full on)
