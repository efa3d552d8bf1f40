use Rattle.std.proofs.Common.{rules}
use Rattle.x86_fields.proofs.prefixes.Prefixes.mandatory.Goals as goal

pub returns-in-Some-F3 : goal.returns-in-Some-F3
returns-in-Some-F3 c = search rules
