use Rattle.std.proofs.Common.{rules, ap, ◌∙◌}
use Rattle.std.specs.Prelude.{◌==◌}
use Rattle.std.specs.Ordering.{is_eq, nat_cmp, ordering_then}
use Rattle.std.specs.Cmp.{tied_itself}
use Rattle.std.proofs.lemmas.Bool.{and_parts, eqb-true}
use denote.Enum.Bare.{sameb, same_true}
use Rattle.x86_regs.specs.contracts.RegisterClass.{the_type}
use Rattle.x86_regs.specs.contracts.RegSpecOrd.TheImpl.Laws as laws
use Rattle.x86_regs.proofs.OrderLemmas.{by_code}
use Rattle.x86_regs.proofs.laws.registers_are_ordered.Goals as goal

pub returns-clause-by_number_then_code : goal.returns-clause-by_number_then_code
returns-clause-by_number_then_code c = λ a b. ap (ordering_then (nat_cmp a.num b.num)) (by_code a.class b.class)

pub returns-clause-partly : goal.returns-clause-partly
returns-clause-partly c = laws.matches_partial_cmp-law

pub returns-clause-total : goal.returns-clause-total
returns-clause-total c = laws.total-law

pub returns-clause-agrees : goal.returns-clause-agrees
returns-clause-agrees c = λ a b. (
  λ e.
      let h = and_parts (a.num == b.num) (sameb the_type a.class b.class) (laws.matches_eq-law a b ∙ ap is_eq e) in
      λ i. record { num = eqb-true a.num b.num h.0 i; class = same_true the_type (search rules) a.class b.class h.1 i },
  λ e. rw e (tied_itself laws.total-law b),
)
