use Rattle.x86_cli.proofs.WorkedLemmas.{load_sentence, worked}
use Rattle.x86_cli.proofs.laws.worked.load.Goals as goal

pub returns : goal.returns
returns c = worked c.headline_of_bytes.ensures _ _ load_sentence
