use Rattle.std.proofs.Common.{sym, append-nil}
use Rattle.x86_streams.proofs.outside.recorder.RecorderOutputRecord.flush.Goals as goal

pub returns-in-Ok : goal.returns-in-Ok
returns-in-Ok g c = (c.in-Ok.ensures, (c.if-record.false, c.push.ensures.items, sym (append-nil _), sym (append-nil _)))

pub returns-in-Err : goal.returns-in-Err
returns-in-Err g c free =
    let pushed = rw c.kind.ensures at c.push-in-Err.ensures.items in
    (c.in-Err.ensures, (free, pushed, sym (append-nil _), sym (append-nil _)))

pub returns-then-record : goal.returns-then-record
returns-then-record g c free = cc
