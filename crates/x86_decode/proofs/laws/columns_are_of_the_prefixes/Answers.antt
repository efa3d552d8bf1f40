use Rattle.std.proofs.Common.{refl, arith}
use Rattle.x86_decode.proofs.laws.columns_are_of_the_prefixes.Goals as goal

pub returns-clause-columns : goal.returns-clause-columns
returns-clause-columns c = refl

pub returns-clause-others : goal.returns-clause-others
returns-clause-others c = refl

pub returns-clause-cleared : goal.returns-clause-cleared
returns-clause-cleared c = refl

pub returns-clause-there : goal.returns-clause-there
returns-clause-there c opcode_map column byte e = grind arith
