use Rattle.x86_groups.proofs.KnownLemmas.{operands_known}
use Rattle.x86_groups.proofs.laws.operands_are_known.Goals as goal

pub returns : goal.returns
returns c strict row p q m n memory = operands_known q m memory strict row p n
