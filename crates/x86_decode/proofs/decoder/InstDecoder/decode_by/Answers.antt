use Rattle.x86_decode.proofs.Theorem.{answered_by}
use Rattle.x86_decode.proofs.DecodeLemmas.{answers}
use Rattle.x86_decode.proofs.decoder.InstDecoder.decode_by.Goals as goal

pub returns : goal.returns
returns g c = let a = answered_by _ _ (g.T.Reader.state c.args.words.now) c.walk.ensures in record { answers = answers a.0; moved = a.1 }
