use Rattle.std.proofs.Common.{◌≡◌, drop}
use Rattle.x86_fields.specs.Run.{holds}
use Rattle.x86_objdump.proofs.text.words.holds.Given as goal

abbrev pub invariant-loop-other : goal.invariant-loop-other
invariant-loop-other l = holds l.byte l.bytes ≡ holds l.byte (drop l.other-index l.bytes)
