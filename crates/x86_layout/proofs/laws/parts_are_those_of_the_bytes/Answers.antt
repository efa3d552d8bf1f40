use Rattle.std.proofs.Common.{refl}
use Rattle.x86_layout.proofs.PartLemmas.OfBytes.{parts_are}
use Rattle.x86_layout.proofs.laws.parts_are_those_of_the_bytes.Goals as goal

pub returns : goal.returns
returns c = λ strict s rest reading w. parts_are rest w refl
