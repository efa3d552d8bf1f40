use Rattle.std.proofs.Common.{sym, ap}
use Rattle.x86_regs.specs.Class.{label}
use Rattle.x86_regs.proofs.SaeMode.label.Goals as goal

pub returns-in-RoundUp : goal.returns-in-RoundUp
returns-in-RoundUp c = ap label (sym c.in-RoundUp.is)
