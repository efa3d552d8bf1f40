use denote.Enum.Bare.{same_true, true_same}
use Rattle.std.proofs.Common.{rules, ap, sym, ◌∙◌}
use Rattle.x86_operands.proofs.EqualLemmas.{same_operands}
use Rattle.x86_operands.specs.contracts.operands.OperandPartialEq.TheImpl as operand
use Rattle.x86_operands.specs.contracts.operands.OperandEq.TheImpl.Laws as operand_laws
use Rattle.x86_operands.specs.contracts.operands.Slot.{the_type}
use Rattle.x86_operands.proofs.laws.values_are_equal.Goals as goal

pub returns-clause-operands : goal.returns-clause-operands
returns-clause-operands c a b = (same_operands a b, λ e. ap (λ x. operand.ghosts.eq a x) (sym e) ∙ operand_laws.laws-law.refl a)

pub returns-clause-slots : goal.returns-clause-slots
returns-clause-slots c a b = (same_true the_type (search rules) a b, true_same the_type a b)
