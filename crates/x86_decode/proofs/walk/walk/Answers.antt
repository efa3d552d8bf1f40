use Rattle.std.proofs.Common.{rules}
use Rattle.x86_decode.proofs.walk.walk.Goals as goal

pub returns-in_err-walk_into : goal.returns-in_err-walk_into
returns-in_err-walk_into g c = search rules
