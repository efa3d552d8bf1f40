use Rattle.std.proofs.Common.{arith}
use Rattle.x86_groups.proofs.ByteLemmas.{escaped_says}
use Rattle.x86_groups.proofs.bytes.escaped_row.Goals as goal

pub returns : goal.returns
returns c = escaped_says c.args.byte _ (omega (arith, c.ranges.byte.fits))
