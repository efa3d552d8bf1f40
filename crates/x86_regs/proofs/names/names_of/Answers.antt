use Rattle.std.proofs.Common.{sym, ap}
use Rattle.x86_regs.specs.Names.{names_of}
use Rattle.x86_regs.proofs.names.names_of.Goals as goal

pub returns-in-RB : goal.returns-in-RB
returns-in-RB c = ap names_of (sym c.in-RB.is)
