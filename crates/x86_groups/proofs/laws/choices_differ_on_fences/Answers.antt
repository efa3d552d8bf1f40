use Rattle.x86_groups.proofs.ChoiceLemmas.{same_elsewhere, fence_by_default, fence_strictly}
use Rattle.x86_groups.proofs.laws.choices_differ_on_fences.Goals as goal

pub returns-clause-elsewhere : goal.returns-clause-elsewhere
returns-clause-elsewhere c = same_elsewhere

pub returns-clause-by_default : goal.returns-clause-by_default
returns-clause-by_default c = fence_by_default

pub returns-clause-strictly : goal.returns-clause-strictly
returns-clause-strictly c = fence_strictly
