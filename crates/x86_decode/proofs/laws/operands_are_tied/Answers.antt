use Rattle.x86_decode.proofs.SentenceLemmas.{sentence_tied, printed_tied}
use Rattle.x86_decode.proofs.laws.operands_are_tied.Goals as goal

pub returns : goal.returns
returns c = record { any_table = λ rows strict input a n h. sentence_tied rows strict h.sentence a h.is; printed = printed_tied }
