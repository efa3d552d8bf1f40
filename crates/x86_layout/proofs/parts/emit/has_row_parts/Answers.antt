use Rattle.std.proofs.Common.{arith}
use Rattle.x86_layout.proofs.parts.emit.has_row_parts.Goals as goal

pub returns-then-immediate_fits : goal.returns-then-immediate_fits
returns-then-immediate_fits c = grind arith

pub returns-else-immediate_fits : goal.returns-else-immediate_fits
returns-else-immediate_fits c = grind arith
