use Rattle.std.proofs.Common.{◌≡◌, ◌+◌, ◌*◌, ◌++◌, take}
use Rattle.hex.specs.Hex.{encode_lower}
use Rattle.x86_streams.proofs.lines.digits.put_hex.Given as goal

abbrev pub invariant-loop-byte : goal.invariant-loop-byte
invariant-loop-byte l = record {
  text : take l.at l.cells ≡ take l.fn.at l.fn.cells ++ encode_lower (take l.byte-index l.bytes);
  place : l.at ≡ l.fn.at + 2 * l.byte-index;
}
