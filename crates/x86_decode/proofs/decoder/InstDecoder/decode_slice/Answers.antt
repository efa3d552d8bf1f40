use Rattle.std.proofs.Common.{rules}
use Rattle.x86_decode.proofs.DecodeLemmas.{printed_answers}
use Rattle.x86_decode.proofs.decoder.InstDecoder.decode_slice.Goals as goal

pub returns-in-Ok-clause-answers : goal.returns-in-Ok-clause-answers
returns-in-Ok-clause-answers c = printed_answers (search rules)

pub returns-in-Err-clause-answers : goal.returns-in-Err-clause-answers
returns-in-Err-clause-answers c = printed_answers (search rules)
