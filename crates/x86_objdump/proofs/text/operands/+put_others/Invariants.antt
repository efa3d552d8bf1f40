use Rattle.std.proofs.Common.{length}
use Rattle.x86_objdump.proofs.text.operands.+put_others.Given as goal

abbrev pub decreases-put_others : goal.decreases-put_others
decreases-put_others l = length l.others.now
