use Rattle.std.proofs.Common.{ap, sym, ◌∙◌}
use Rattle.x86_forms.specs.Equality.{equal_forms, equal_rows}
use Rattle.x86_forms.specs.contracts.equality.FormEq.TheImpl.Laws as form_laws
use Rattle.x86_forms.specs.contracts.TableRowEq.TheImpl.Laws as row_laws
use Rattle.x86_forms.proofs.EqualLemmas.{same_parts, same_rows}
use Rattle.x86_forms.proofs.laws.equality_is_of_all_parts.Goals as goal

pub returns-clause-forms : goal.returns-clause-forms
unfolding equal_forms
returns-clause-forms c f g = (same_parts f g, λ e. ap (equal_forms f) (sym e) ∙ form_laws.laws-law.refl f)

pub returns-clause-rows : goal.returns-clause-rows
unfolding equal_rows
returns-clause-rows c r s = (same_rows r s, λ e. ap (equal_rows r) (sym e) ∙ row_laws.laws-law.refl r)
