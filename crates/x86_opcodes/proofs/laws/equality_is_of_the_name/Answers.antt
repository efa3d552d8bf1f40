use denote.Enum.Bare.{same_true, true_same}
use Rattle.std.proofs.Common.{rules, ap}
use Rattle.x86_opcodes.specs.Equality.{equal_codes}
use Rattle.x86_opcodes.specs.contracts.ConditionCode.{the_type}
use Rattle.x86_opcodes.specs.contracts.ConditionCodeHash.TheImpl as code_hash
use Rattle.x86_opcodes.proofs.laws.equality_is_of_the_name.Goals as goal

pub returns-clause-codes : goal.returns-clause-codes
unfolding equal_codes
returns-clause-codes c d e = (same_true the_type (search rules) d e, true_same the_type d e)

pub returns-clause-hashed : goal.returns-clause-hashed
unfolding equal_codes
returns-clause-hashed c d e same = ap (code_hash.ghosts).hash_input (same_true the_type (search rules) d e same)
