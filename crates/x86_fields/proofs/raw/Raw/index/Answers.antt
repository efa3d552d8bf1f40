use Rattle.std.proofs.Common.{rules}
use Rattle.x86_fields.proofs.raw.Raw.index.Goals as goal

pub returns-in-Some : goal.returns-in-Some
returns-in-Some c = search rules
