use Rattle.std.proofs.Common.{rules}
use Rattle.x86_regs.proofs.NameLemmas.{name_short}
use Rattle.x86_regs.proofs.RegSpec.name.Goals as goal

pub returns-clause-printed : goal.returns-clause-printed
returns-clause-printed c = search rules

pub returns-clause-short : goal.returns-clause-short
returns-clause-short c = let short = name_short c.args.self.now.class c.args.self.now.num in search rules
