use Rattle.std.proofs.Common.{◌++◌, take}
use Rattle.hex.specs.Hex.{encode_with}
use Rattle.x86_streams.proofs.lines.digits.put_hex_pair.Goals as goal

pub returns-clause-text : goal.returns-clause-text
unfolding encode_with
returns-clause-text c = rw c.hex_of.ensures at c.put_first.ensures.text
