use Rattle.std.proofs.Common.{arith, take}
use Rattle.itoa.proofs.Decimal.{length_pair}
use Rattle.x86_streams.proofs.lines.digits.+decimals.Goals as goal

-- the hundreds, and two digits

pub put_many-put_decimal-at-requires : goal.put_many-put_decimal-at-requires
put_many-put_decimal-at-requires t c =
    (omega arith, omega (arith, c.requires.room, length_pair c.args.n c.requires.many (omega (arith, c.ranges.n.fits))))

pub put_many-put_last_two-requires : goal.put_many-put_last_two-requires
put_many-put_last_two-requires t c =
    let e = length_pair c.args.n c.requires.many (omega (arith, c.ranges.n.fits)) in
    record { many = c.requires.many; room = omega (arith, c.requires.room, e, c.put_decimal-at.ensures.place) }

pub put_many-returns-clause-text : goal.put_many-returns-clause-text
put_many-returns-clause-text t c = c.put_last_two.ensures.text (take c.args.at c.args.cells.now) c.put_decimal-at.ensures.text

pub put_many-returns-clause-place : goal.put_many-returns-clause-place
put_many-returns-clause-place t c =
    omega (arith, c.put_last_two.ensures.place, c.put_decimal-at.ensures.place, length_pair c.args.n c.requires.many (omega (arith, c.ranges.n.fits)))
