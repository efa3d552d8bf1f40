use Rattle.std.proofs.Common.{arith}
use Rattle.std.proofs.lemmas.Fmt.{length-decimal-le}
use Rattle.x86_streams.proofs.lines.digits.put_u32.Goals as goal

pub put_decimal-requires : goal.put_decimal-requires
put_decimal-requires c = omega (
  arith,
  c.requires,
  length-decimal-le 10 c.args.n (omega arith) (omega (arith, c.ranges.n.fits)) (omega (arith, c.ranges.n.fits)),
)

pub returns-clause-short : goal.returns-clause-short
returns-clause-short c = omega (
  arith,
  c.put_decimal.ensures.place,
  length-decimal-le 10 c.args.n (omega arith) (omega (arith, c.ranges.n.fits)) (omega (arith, c.ranges.n.fits)),
)
