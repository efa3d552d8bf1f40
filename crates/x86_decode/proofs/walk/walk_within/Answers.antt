use Rattle.x86_decode.proofs.walk.walk_within.Goals as goal

pub returns-in-Err : goal.returns-in-Err
returns-in-Err g c = (rw c.in-Err.is at c.read_encoding.ensures.read) c.args.strict
