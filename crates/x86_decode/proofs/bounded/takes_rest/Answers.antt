use Rattle.std.proofs.Common.{rules}
use Rattle.x86_decode.proofs.bounded.takes_rest.Goals as goal

pub returns-clause-there : goal.returns-clause-there
returns-clause-there g c = search rules

pub returns-clause-taken : goal.returns-clause-taken
returns-clause-taken g c = search rules
