use Rattle.x86_decode.proofs.PrintedLemmas.{fifteen_are_enough}
use Rattle.x86_decode.proofs.laws.fifteen_are_enough.Goals as goal

pub returns : goal.returns
returns c = fifteen_are_enough
