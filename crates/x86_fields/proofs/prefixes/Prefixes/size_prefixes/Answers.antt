use Rattle.std.proofs.Common.{rules}
use Rattle.x86_fields.proofs.prefixes.Prefixes.size_prefixes.Goals as goal

pub returns-in-true-true : goal.returns-in-true-true
returns-in-true-true c = search rules
