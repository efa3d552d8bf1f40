use Rattle.std.proofs.Common.{arith}
use Rattle.x86_groups.proofs.ByteLemmas.{one_says}
use Rattle.x86_groups.proofs.bytes.byte_row.Goals as goal

pub returns : goal.returns
returns c = one_says c.args.byte _ (omega (arith, c.ranges.byte.fits))
