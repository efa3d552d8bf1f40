use Rattle.x86_decode.proofs.AnswerLemmas.{decided_answer}
use Rattle.x86_decode.proofs.laws.decided_bytes_are_refused.Goals as goal

pub returns : goal.returns
returns c = decided_answer
