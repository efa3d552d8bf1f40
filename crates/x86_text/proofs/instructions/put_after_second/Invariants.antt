use Rattle.std.proofs.Common.{◌≡◌, ◌≤◌, ◌+◌, ◌*◌, ◌++◌, take}
use Rattle.x86_text.specs.Operands.{others_text}
use Rattle.x86_text.proofs.instructions.put_after_second.Given as goal

abbrev pub invariant-loop-operand : goal.invariant-loop-operand
invariant-loop-operand l = record {
  text : take l.at l.cells ≡ take l.fn.at l.fn.cells ++ others_text (take l.operand-index l.others);
  short : l.at ≤ l.fn.at + 32 * l.operand-index;
}
