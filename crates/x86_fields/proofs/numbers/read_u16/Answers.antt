use Rattle.std.proofs.Common.{rules}
use Rattle.x86_fields.specs.Steps.{number_step}
use Rattle.x86_fields.proofs.numbers.read_u16.Goals as goal

pub returns : goal.returns
unfolding number_step
returns g c = search rules
