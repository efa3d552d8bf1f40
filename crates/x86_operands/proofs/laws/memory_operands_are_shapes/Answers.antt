use Rattle.x86_operands.proofs.TieLemmas.{memory_is_shape}
use Rattle.x86_operands.proofs.laws.memory_operands_are_shapes.Goals as goal

pub returns-clause-shapes : goal.returns-clause-shapes
returns-clause-shapes c r p bytes reading row_spelled raw memory = memory_is_shape r p bytes reading row_spelled raw memory
