use Rattle.std.proofs.Common.{refl}
use Rattle.std.proofs.lemmas.List.{take_more_set}
use Rattle.x86_streams.proofs.outside.one_by_one.OneByOneInput.read.Goals as goal

pub returns-in-Byte-clause-read : goal.returns-in-Byte-clause-read
returns-in-Byte-clause-read g c = (c.in-Byte.byte, refl, take_more_set c.args.buffer.now 0 c.in-Byte.byte c.requires, c.in-Byte.ensures)
