use Rattle.std.proofs.Common.{rules, Ok, Err}
use Rattle.x86_decode.proofs.DecodeLemmas.{decoded}
use Rattle.x86_decode.proofs.decoder.InstDecoder.decode_into.Goals as goal

pub returns-in-Ok : goal.returns-in-Ok
returns-in-Ok g c =
    let d = decoded {strict = c.args.self.now.strict} (g.T.Reader.state c.args.words.now) {after = g.T.Reader.state c.walk_into.new.reader}
    {r = Ok c.walk_into.new.inst} (search rules) in
    record { answers = d.answers; value = d.value; count = d.count; moved = d.moved; invalid = search rules }

pub returns-in-Err : goal.returns-in-Err
returns-in-Err g c =
    let d = decoded {strict = c.args.self.now.strict} (g.T.Reader.state c.args.words.now) {after = g.T.Reader.state c.walk_into.new.reader}
    {r = Err c.in-Err.error} (search rules) in
    record { answers = d.answers; value = d.value; count = d.count; moved = d.moved; invalid = search rules }
