use Rattle.x86_decode.proofs.PrintedLemmas.{only_answer}
use Rattle.x86_decode.proofs.decoder.InstDecoder.decode.Goals as goal

pub returns : goal.returns
returns g c =
    let called = c.decode_by.ensures in
    let only = only_answer c.args.self.now.strict (g.T.Reader.state c.args.words.now).left c.decode_by.result
    (g.T.Reader.state c.decode_by.new.words).since_mark called.answers.answer in
    record { answers = called.answers; value = only.0; count = only.1; moved = called.moved }
