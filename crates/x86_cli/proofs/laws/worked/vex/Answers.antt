use Rattle.std.proofs.Common.{arith}
use Rattle.x86_cli.proofs.WorkedLemmas.{erring, vex_after_66_errs, vex_errs}
use Rattle.x86_cli.proofs.laws.worked.vex.Goals as goal

pub returns : goal.returns
returns c =
    let alone = erring c.headline_of_bytes.ensures _ _ (λ same. cc) (omega arith) vex_errs in
    let after_66 = erring c.headline_of_bytes.ensures _ _ (λ same. cc) (omega arith) vex_after_66_errs in
    record { alone = alone.has; after_66 = after_66.has; answer = alone.answer; answer_after_66 = after_66.answer }
