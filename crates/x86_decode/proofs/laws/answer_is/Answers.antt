use Rattle.x86_decode.proofs.PrintedLemmas.{is_answer, only_answer}
use Rattle.x86_decode.proofs.laws.answer_is.Goals as goal

pub returns : goal.returns
returns c = record { there = is_answer; only = only_answer }
