use Rattle.std.proofs.Common.{refl}
use Rattle.x86_fields.proofs.laws.memory_forms_are_those_of_the_tables.Goals as goal

pub returns-clause-widths_0 : goal.returns-clause-widths_0
returns-clause-widths_0 c = refl

pub returns-clause-widths_1 : goal.returns-clause-widths_1
returns-clause-widths_1 c = refl

pub returns-clause-widths_2 : goal.returns-clause-widths_2
returns-clause-widths_2 c = refl

pub returns-clause-sib_widths_0 : goal.returns-clause-sib_widths_0
returns-clause-sib_widths_0 c = refl

pub returns-clause-sib_widths_1 : goal.returns-clause-sib_widths_1
returns-clause-sib_widths_1 c = refl

pub returns-clause-sib_widths_2 : goal.returns-clause-sib_widths_2
returns-clause-sib_widths_2 c = refl

pub returns-clause-scales : goal.returns-clause-scales
returns-clause-scales c = refl

pub returns-clause-bases_0 : goal.returns-clause-bases_0
returns-clause-bases_0 c raw = refl

pub returns-clause-bases_1 : goal.returns-clause-bases_1
returns-clause-bases_1 c raw = refl

pub returns-clause-bases_2 : goal.returns-clause-bases_2
returns-clause-bases_2 c raw = refl

pub returns-clause-sib_bases_0 : goal.returns-clause-sib_bases_0
returns-clause-sib_bases_0 c raw = refl

pub returns-clause-sib_bases_1 : goal.returns-clause-sib_bases_1
returns-clause-sib_bases_1 c raw = refl

pub returns-clause-sib_bases_2 : goal.returns-clause-sib_bases_2
returns-clause-sib_bases_2 c raw = refl

pub returns-clause-indexes : goal.returns-clause-indexes
returns-clause-indexes c raw = refl

pub returns-clause-indexes_of_x : goal.returns-clause-indexes_of_x
returns-clause-indexes_of_x c raw = refl
