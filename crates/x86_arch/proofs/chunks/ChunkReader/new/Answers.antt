use Rattle.std.proofs.Common.{rules}
use Rattle.x86_arch.proofs.chunks.ChunkReader.new.Goals as goal

pub returns : goal.returns
returns c = search rules
