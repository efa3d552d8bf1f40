use Rattle.std.proofs.Common.{suc, ◌+◌, ◌*◌, ◌/◌, ◌^◌, ◌≤◌, ◌<◌, max, pow_mono, arith}
use Rattle.x86_streams.proofs.lines.hexadecimal.digits_after_first.Goals as goal

pub returns-clause-few : goal.returns-clause-few
returns-clause-few c = omega (arith, c.ilog2.ensures.bound)

pub returns-clause-most : goal.returns-clause-most
returns-clause-most c =
    let l = c.ilog2.result in
    let grows : 2 ^ suc l ≤ 2 ^ (4 * (l / 4) + 4) = pow_mono (omega arith) in
    let largest : c.args.n ≤ max c.args.n 1 = omega arith in
    omega (arith, grows, largest, c.ilog2.ensures.next_power_gt, c.max.ensures)

pub returns-clause-least : goal.returns-clause-least
returns-clause-least c =
    let l = c.ilog2.result in
    let grows : 2 ^ (4 * (l / 4)) ≤ 2 ^ l = pow_mono (omega arith) in
    omega (arith, grows, c.ilog2.ensures.power_le, c.max.ensures)
