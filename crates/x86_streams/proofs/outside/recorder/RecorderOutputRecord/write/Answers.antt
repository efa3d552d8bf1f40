use Rattle.std.proofs.Common.{sym, append-nil, arith, length, take, ◌≤◌, length-take-le}
use Rattle.x86_streams.proofs.OutsideLemmas.Record.{appended}
use Rattle.x86_streams.proofs.outside.recorder.RecorderOutputRecord.write.Goals as goal

pub returns-in-Ok-clause-wrote : goal.returns-in-Ok-clause-wrote
returns-in-Ok-clause-wrote g c =
    let added = c.try_extend_from_slice.ensures in
    let short : length (take c.in-Ok.count c.args.bytes.now) ≤ c.remaining_capacity.result =
    omega (arith, c.in-Ok.ensures.bound, length-take-le c.in-Ok.count c.args.bytes.now) in
    let wrote = appended _ _ _ _ _ added.variant c.remaining_capacity.ensures short added.ok in
    (c.in-Ok.ensures.wrote, (c.if-record.false, c.push.ensures.items, sym (append-nil _), wrote))

pub returns-in-Err-clause-wrote : goal.returns-in-Err-clause-wrote
returns-in-Err-clause-wrote g c free =
    let pushed = rw c.kind.ensures at c.push-in-Err.ensures.items in
    (c.in-Err.ensures.wrote, (free, pushed, sym (append-nil _), sym (append-nil _)))

pub returns-then-record-clause-wrote : goal.returns-then-record-clause-wrote
returns-then-record-clause-wrote g c free = cc
