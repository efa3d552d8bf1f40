use Rattle.std.proofs.Common.{rules}
use Rattle.x86_regs.proofs.RegSpec.rb.Goals as goal

pub returns-else-num-lt4 : goal.returns-else-num-lt4
returns-else-num-lt4 c = search rules
