use Rattle.x86_cli.proofs.WorkedLemmas.{add_permitted, no_row_refused}
use Rattle.x86_cli.proofs.laws.worked.permitted.Goals as goal

pub returns : goal.returns
returns c = record {
  add = λ strict. add_permitted strict (c.headline_of_bytes.ensures strict);
  no_row = λ strict. no_row_refused strict (c.headline_of_bytes.ensures strict);
}
