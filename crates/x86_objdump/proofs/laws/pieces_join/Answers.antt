use Rattle.x86_objdump.proofs.PieceLemmas.{go_on, of_more, join}
use Rattle.x86_objdump.proofs.laws.pieces_join.Goals as goal

pub returns : goal.returns
returns c = record {
  rest = λ strict. go_on strict (c.decoder_laws.ensures strict);
  more = λ strict. of_more strict (c.decoder_laws.ensures strict);
  join = λ strict. join strict (c.decoder_laws.ensures strict);
}
