use Rattle.std.proofs.Common.{sym, ◌∙◌}
use Rattle.x86_decode.specs.contracts.instructions.InstructionEq.TheImpl.Laws as whole
use Rattle.x86_decode.specs.contracts.instructions.InstructionPartialEq.TheImpl.Laws as part
use Rattle.x86_decode.proofs.EqualLemmas.{equal_exactly}
use Rattle.x86_decode.proofs.laws.equality_is_an_equivalence.Goals as goal

pub returns : goal.returns
returns c = record {
  exactly = equal_exactly c.values_are_equal.ensures.prefixes c.values_are_equal-2.ensures.slots c.values_are_equal-2.ensures.operands;
  reflexive = whole.laws-law.refl;
  symmetric = λ a b h. sym (part.laws-law.symm a b) ∙ h;
  transitive = part.laws-law.trans;
  any_length = λ a n. whole.laws-law.refl a;
}
