use Rattle.std.proofs.Common.{arith}
use Rattle.std.proofs.lemmas.Grind.{elements}
use Rattle.x86_forms.proofs.words.nth_form.Goals as goal

pub get-requires : goal.get-requires
get-requires c = grind arith

pub returns : goal.returns
returns c = grind (arith, elements)
