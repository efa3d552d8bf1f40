use Rattle.std.proofs.Common.{length}
use Rattle.x86_objdump.proofs.vectors.+after_prefixes.Given as goal

abbrev pub decreases-after_prefixes : goal.decreases-after_prefixes
decreases-after_prefixes l = length l.bytes.now
