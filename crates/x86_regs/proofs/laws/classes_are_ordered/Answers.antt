use Rattle.std.proofs.Common.{rules, ap, ◌∙◌}
use Rattle.std.specs.Ordering.{is_eq}
use Rattle.std.specs.Cmp.{tied_itself}
use denote.Enum.Bare.{same_true}
use Rattle.x86_regs.specs.contracts.RegisterClass.{the_type}
use Rattle.x86_regs.specs.contracts.RegisterClassOrd.TheImpl.Laws as laws
use Rattle.x86_regs.proofs.OrderLemmas.{by_code}
use Rattle.x86_regs.proofs.laws.classes_are_ordered.Goals as goal

pub returns-clause-by_code : goal.returns-clause-by_code
returns-clause-by_code c = by_code

pub returns-clause-partly : goal.returns-clause-partly
returns-clause-partly c = laws.matches_partial_cmp-law

pub returns-clause-total : goal.returns-clause-total
returns-clause-total c = laws.total-law

pub returns-clause-agrees : goal.returns-clause-agrees
returns-clause-agrees c =
    λ a b. (λ e. same_true the_type (search rules) a b (laws.matches_eq-law a b ∙ ap is_eq e), λ e. rw e (tied_itself laws.total-law b))
