use Rattle.std.proofs.Common.{arith}
use Rattle.x86_layout.proofs.TightenLemmas.Shortest.{shortest_is_of_bytes, shortest_laws}
use Rattle.x86_layout.proofs.laws.shortest_raw_fields.Goals as goal

pub returns-clause-of_bytes : goal.returns-clause-of_bytes
returns-clause-of_bytes c = shortest_is_of_bytes

pub returns-clause-same_address : goal.returns-clause-same_address
returns-clause-same_address c = grind (arith, shortest_laws)

pub returns-clause-same_register : goal.returns-clause-same_register
returns-clause-same_register c = grind (arith, shortest_laws)

pub returns-clause-no_new_bits : goal.returns-clause-no_new_bits
returns-clause-no_new_bits c = grind (arith, shortest_laws)

pub returns-clause-none_shorter : goal.returns-clause-none_shorter
returns-clause-none_shorter c = grind (arith, shortest_laws)
