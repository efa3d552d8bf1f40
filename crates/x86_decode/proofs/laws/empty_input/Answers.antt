use Rattle.x86_decode.proofs.PrintedLemmas.{empty_input}
use Rattle.x86_decode.proofs.laws.empty_input.Goals as goal

pub returns : goal.returns
returns c = empty_input
