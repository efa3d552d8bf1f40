use Rattle.std.proofs.Common.{◌+◌, ◌*◌}
use Rattle.x86_streams.proofs.lines.digits.+decimals.Given as goal

abbrev pub decreases-put_decimal : goal.decreases-put_decimal
decreases-put_decimal l = 2 * l.n + 1

abbrev pub decreases-put_many : goal.decreases-put_many
decreases-put_many l = 2 * l.n
