use Rattle.std.proofs.Common.{arith}
use Rattle.x86_cli.proofs.WorkedLemmas.{erring, no_row_errs}
use Rattle.x86_cli.proofs.laws.worked.no_row.Goals as goal

pub returns : goal.returns
returns c = erring c.headline_of_bytes.ensures _ _ (λ same. cc) (omega arith) no_row_errs
