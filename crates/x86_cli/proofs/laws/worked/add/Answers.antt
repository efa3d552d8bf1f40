use Rattle.x86_cli.proofs.WorkedLemmas.{add_sentence, worked}
use Rattle.x86_cli.proofs.laws.worked.add.Goals as goal

pub returns : goal.returns
returns c = worked c.headline_of_bytes.ensures _ _ add_sentence
