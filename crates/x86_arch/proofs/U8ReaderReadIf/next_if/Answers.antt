use Rattle.std.proofs.Common.{rules}
use Rattle.x86_arch.proofs.U8ReaderReadIf.next_if.Goals as goal

pub returns-else-wanted-clause-unmoved : goal.returns-else-wanted-clause-unmoved
returns-else-wanted-clause-unmoved c = search rules
