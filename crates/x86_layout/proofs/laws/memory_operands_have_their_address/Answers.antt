use Rattle.x86_forms.specs.Words.{rows_of, packed}
use Rattle.x86_layout.proofs.TightenLemmas.Same.{operand_has_address}
use Rattle.x86_layout.proofs.laws.memory_operands_have_their_address.Goals as goal

pub returns : goal.returns
returns c strict s a is raw k read named =
    operand_has_address c.shapes_have_the_address.ensures.address strict s a is raw k read
    (c.memory_operands_denote_their_raw_fields.ensures.operand (rows_of packed) strict s a is raw k read named)
