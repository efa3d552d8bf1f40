use Rattle.x86_fields.proofs.PieceLemmas.{takes_raw}
use Rattle.x86_fields.proofs.laws.raw_fields_are_read.Goals as goal

pub returns-clause-wherever : goal.returns-clause-wherever
returns-clause-wherever c p modrm s bytes rest raw beginning spelled = (takes_raw p modrm bytes raw spelled).takes rest s beginning
