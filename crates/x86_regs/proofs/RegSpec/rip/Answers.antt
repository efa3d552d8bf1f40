use Rattle.std.proofs.Common.{refl}
use Rattle.x86_regs.proofs.RegSpec.rip.Goals as goal

pub returns-clause-parts : goal.returns-clause-parts
returns-clause-parts c = refl
