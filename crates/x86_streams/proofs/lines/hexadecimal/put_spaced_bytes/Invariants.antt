use Rattle.std.proofs.Common.{◌≡◌, ◌+◌, ◌*◌, ◌++◌, take}
use Rattle.x86_streams.specs.Lines.Hexadecimal.{spaced_bytes}
use Rattle.x86_streams.proofs.lines.hexadecimal.put_spaced_bytes.Given as goal

abbrev pub invariant-loop-byte : goal.invariant-loop-byte
invariant-loop-byte l = record {
  text : take l.at l.cells ≡ take l.fn.at l.fn.cells ++ spaced_bytes (take l.byte-index l.bytes);
  place : l.at ≡ l.fn.at + 3 * l.byte-index;
}
