use Rattle.std.proofs.Common.{rules}
use Rattle.x86_fields.proofs.raw.Raw.scale.Goals as goal

pub returns-in-0 : goal.returns-in-0
returns-in-0 c = search rules
