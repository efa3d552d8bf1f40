use Rattle.std.proofs.Common.{sym, append-nil, arith, length, take, ◌≤◌, length-take-le}
use Rattle.x86_streams.proofs.OutsideLemmas.Record.{appended}
use Rattle.x86_streams.proofs.outside.recorder.RecorderInputRecord.read.Goals as goal

pub returns-in-Ok-clause-read : goal.returns-in-Ok-clause-read
returns-in-Ok-clause-read g c =
    let added = c.try_extend_from_slice.ensures in
    let short : length (take c.in-Ok.count c.read.new.buffer) ≤ c.remaining_capacity.result =
    omega (arith, c.in-Ok.ensures.bound, length-take-le c.in-Ok.count c.read.new.buffer) in
    let read = appended _ _ _ _ _ added.variant c.remaining_capacity.ensures short added.ok in
    (c.in-Ok.ensures.read, (c.if-record.false, c.push.ensures.items, read, sym (append-nil _)))

pub returns-in-Err-clause-read : goal.returns-in-Err-clause-read
returns-in-Err-clause-read g c free =
    let pushed = rw c.kind.ensures at c.push-in-Err.ensures.items in
    (c.in-Err.ensures.read, (free, pushed, sym (append-nil _), sym (append-nil _)))

pub returns-then-record-clause-read : goal.returns-then-record-clause-read
returns-then-record-clause-read g c free = cc
