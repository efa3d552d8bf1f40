use Rattle.x86_cli.proofs.WorkedLemmas.{load_least, long_load_sentence}
use Rattle.x86_cli.proofs.laws.worked.shortest.Goals as goal

pub returns : goal.returns
returns c = record { sentence = long_load_sentence; least = λ strict. load_least strict (c.headline_of_bytes.ensures strict) }
