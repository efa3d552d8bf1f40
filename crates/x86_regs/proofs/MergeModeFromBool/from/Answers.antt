use Rattle.std.proofs.Common.{rules}
use Rattle.x86_regs.proofs.MergeModeFromBool.from.Goals as goal

pub returns-then-zeroes : goal.returns-then-zeroes
returns-then-zeroes c = search rules
