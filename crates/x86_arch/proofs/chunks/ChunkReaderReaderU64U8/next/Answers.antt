use Rattle.std.proofs.Common.{◌++◌, arith}
use Rattle.std.proofs.lemmas.Grind.{elements}
use Rattle.x86_arch.proofs.StateLemmas.{at_moved}
use Rattle.x86_arch.proofs.chunks.ChunkReaderReaderU64U8.next.Goals as goal

pub returns-then-self-seam-2-clause-taken : goal.returns-then-self-seam-2-clause-taken
returns-then-self-seam-2-clause-taken c = grind (arith, elements)

pub returns-then-self-seam-2-clause-moved : goal.returns-then-self-seam-2-clause-moved
returns-then-self-seam-2-clause-moved c =
    let reader = c.args.self.now in
    at_moved (reader.first.now ++ reader.rest.now) reader.place reader.mark 1 reader.in_range.0
