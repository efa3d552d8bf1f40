use Rattle.std.proofs.Common.{rules}
use Rattle.x86_fields.proofs.prefixes.Prefixes.set_rex.Goals as goal

pub returns-clause-live : goal.returns-clause-live
returns-clause-live c = search rules
