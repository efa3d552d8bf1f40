use Rattle.x86_cli.proofs.WorkedLemmas.{group_sentence, worked}
use Rattle.x86_cli.proofs.laws.worked.group.Goals as goal

pub returns : goal.returns
returns c = worked c.headline_of_bytes.ensures _ _ group_sentence
