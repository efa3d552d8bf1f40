use Rattle.x86_layout.proofs.TightenLemmas.Tighten.{keeps}
use Rattle.x86_layout.proofs.laws.encodings_without_a_relative_keep_their_length.Goals as goal

pub returns : goal.returns
returns c = λ strict s a is error. keeps is.whole error
