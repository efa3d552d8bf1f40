use Rattle.std.proofs.Common.{arith}
use Rattle.x86_cli.proofs.WorkedLemmas.{erring, forbidden_lock_errs}
use Rattle.x86_cli.proofs.laws.worked.forbidden_lock.Goals as goal

pub returns : goal.returns
returns c = erring c.headline_of_bytes.ensures _ _ (λ same. cc) (omega arith) forbidden_lock_errs
