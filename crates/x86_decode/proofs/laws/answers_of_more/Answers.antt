use Rattle.std.proofs.Common.{sym}
use Rattle.x86_decode.proofs.PrintedLemmas.{answer_stays}
use Rattle.x86_decode.proofs.laws.answers_of_more.Goals as goal

pub returns : goal.returns
returns c = record { answer = λ strict xs ys d. sym (answer_stays strict xs ys d).0; count = λ strict xs ys d. sym (answer_stays strict xs ys d).1 }
