use Rattle.x86_fields.proofs.FormLemmas.{same_value, units_of, units_show}
use Rattle.x86_fields.proofs.laws.forms_are_their_values.Goals as goal

pub returns-clause-exactly : goal.returns-clause-exactly
returns-clause-exactly c f g same f_small g_small =
    (λ equal regs next file small. same_value f g equal regs next, λ agree. units_show f g same f_small g_small (units_of f g agree))
