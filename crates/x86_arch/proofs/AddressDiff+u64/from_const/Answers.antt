use Rattle.std.proofs.Common.{rules}
use Rattle.x86_arch.proofs.AddressDiff+u64.from_const.Goals as goal

pub returns : goal.returns
returns c = search rules
