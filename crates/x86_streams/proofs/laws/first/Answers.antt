use Rattle.x86_streams.proofs.TextLemmas.Pair.{bad_is_first}
use Rattle.x86_streams.proofs.laws.first.Goals as goal

pub returns : goal.returns
returns c = bad_is_first
