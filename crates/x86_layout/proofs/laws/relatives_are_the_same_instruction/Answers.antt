use Rattle.x86_layout.proofs.TightenLemmas.Same.{relative_is_same, relative_has_addresses}
use Rattle.x86_layout.proofs.laws.relatives_are_the_same_instruction.Goals as goal

pub returns-clause-but_in_memory : goal.returns-clause-but_in_memory
returns-clause-but_in_memory c = relative_is_same

pub returns-clause-address : goal.returns-clause-address
returns-clause-address c = relative_has_addresses c.shapes_have_the_address.ensures.address c.raw_forms_are_reduced.ensures
    c.forms_are_their_values.ensures.exactly
