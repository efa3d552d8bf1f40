use Rattle.std.proofs.Common.{rules}
use Rattle.x86_arch.proofs.U8ReaderReaderU64U8.offset.Goals as goal

pub returns-clause-count : goal.returns-clause-count
returns-clause-count c = search rules
