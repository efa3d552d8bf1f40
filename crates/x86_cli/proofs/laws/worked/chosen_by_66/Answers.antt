use Rattle.x86_cli.proofs.WorkedLemmas.{chosen_by_66_sentence, worked}
use Rattle.x86_cli.proofs.laws.worked.chosen_by_66.Goals as goal

pub returns : goal.returns
returns c = worked c.headline_of_bytes.ensures _ _ chosen_by_66_sentence
