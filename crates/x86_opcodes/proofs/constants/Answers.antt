use Rattle.std.proofs.Common.{◌≡◌, ℕ, ◌*◌, List, take, drop, sym, ap, arith}
use Rattle.x86_opcodes.specs.Mnemonics.{all_spellings}
use Rattle.x86_opcodes.specs.Names.{every_opcode}
use Rattle.x86_opcodes.proofs.constants.Goals as goal

abbrev part_of : {A : Type 0} → List A → ℕ → List A
part_of xs n = take 128 (drop (128 * n) xs)

pub returns-in-0-clause-numbers : goal.returns-in-0-clause-numbers
returns-in-0-clause-numbers c = ap (part_of every_opcode) (sym c.in-0.is)

pub returns-in-1-clause-numbers : goal.returns-in-1-clause-numbers
returns-in-1-clause-numbers c = ap (part_of every_opcode) (sym c.in-1.is)

pub returns-in-2-clause-numbers : goal.returns-in-2-clause-numbers
returns-in-2-clause-numbers c = ap (part_of every_opcode) (sym c.in-2.is)

pub returns-in-3-clause-numbers : goal.returns-in-3-clause-numbers
returns-in-3-clause-numbers c = ap (part_of every_opcode) (sym c.in-3.is)

pub returns-in-4-clause-numbers : goal.returns-in-4-clause-numbers
returns-in-4-clause-numbers c = ap (part_of every_opcode) (sym c.in-4.is)

pub returns-in_default-clause-numbers : goal.returns-in_default-clause-numbers
returns-in_default-clause-numbers c = let last : 5 ≡ c.args.part = omega arith in ap (part_of every_opcode) last

pub returns-in-0-clause-names : goal.returns-in-0-clause-names
returns-in-0-clause-names c = ap (part_of all_spellings) (sym c.in-0.is)

pub returns-in-1-clause-names : goal.returns-in-1-clause-names
returns-in-1-clause-names c = ap (part_of all_spellings) (sym c.in-1.is)

pub returns-in-2-clause-names : goal.returns-in-2-clause-names
returns-in-2-clause-names c = ap (part_of all_spellings) (sym c.in-2.is)

pub returns-in-3-clause-names : goal.returns-in-3-clause-names
returns-in-3-clause-names c = ap (part_of all_spellings) (sym c.in-3.is)

pub returns-in-4-clause-names : goal.returns-in-4-clause-names
returns-in-4-clause-names c = ap (part_of all_spellings) (sym c.in-4.is)

pub returns-in_default-clause-names : goal.returns-in_default-clause-names
returns-in_default-clause-names c = let last : 5 ≡ c.args.part = omega arith in ap (part_of all_spellings) last
