use Rattle.x86_cli.proofs.WorkedLemmas.{locked_add_sentence, worked}
use Rattle.x86_cli.proofs.laws.worked.locked_add.Goals as goal

pub returns : goal.returns
returns c = worked c.headline_of_bytes.ensures _ _ locked_add_sentence
