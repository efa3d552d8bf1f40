use Rattle.x86_decode.specs.contracts.decoder.InstDecoderOrd.TheImpl.Laws as laws
use Rattle.x86_decode.proofs.laws.decoders_are_ordered.Goals as goal

pub returns-clause-total : goal.returns-clause-total
returns-clause-total c = laws.total-law
