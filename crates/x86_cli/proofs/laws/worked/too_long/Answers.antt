use Rattle.std.proofs.Common.{arith}
use Rattle.x86_cli.proofs.WorkedLemmas.{erring, too_long_errs}
use Rattle.x86_cli.proofs.laws.worked.too_long.Goals as goal

pub returns : goal.returns
returns c = erring c.headline_of_bytes.ensures _ _ (λ same. cc) (omega arith) too_long_errs
