use Rattle.std.proofs.Common.{rules}
use Rattle.x86_text.proofs.parts.parts_length.Goals as goal

pub returns : goal.returns
returns c = search rules
