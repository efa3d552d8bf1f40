use Rattle.std.proofs.Common.{rules}
use Rattle.x86_fields.proofs.raw.Raw.next_pointer.Goals as goal

pub returns-then-self : goal.returns-then-self
returns-then-self c = search rules
