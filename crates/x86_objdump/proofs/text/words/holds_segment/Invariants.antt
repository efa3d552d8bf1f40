use Rattle.std.proofs.Common.{◌≡◌, drop}
use Rattle.x86_objdump.specs.Text.Words.{holds_segment}
use Rattle.x86_objdump.proofs.text.words.holds_segment.Given as goal

abbrev pub invariant-loop-byte : goal.invariant-loop-byte
invariant-loop-byte l = holds_segment l.bytes ≡ holds_segment (drop l.byte-index l.bytes)
