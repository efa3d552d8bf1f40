use Rattle.std.proofs.Common.{◌≤◌, ◌+◌, arith}
use Rattle.std.proofs.lemmas.Grind.{common_steps}
use Rattle.std.proofs.lemmas.Fmt.{length-decimal-le}
use Rattle.x86_streams.proofs.lines.digits.put_signed.Goals.{then-n-lt0, else-n-lt0}
use Rattle.x86_streams.proofs.lines.digits.put_signed.Goals as goal

pub returns-clause-text : goal.returns-clause-text
returns-clause-text c = grind (arith, common_steps)

-- a sign at most, and at most 19 digits

pub put_decimal-requires : goal.put_decimal-requires
put_decimal-requires c =
    let sign : c.if-n-lt0.at ≤ c.args.at + 1 =
    elim c.if-n-lt0.branch [ then-n-lt0 w ↦ omega (arith, w.put-at.ensures.place, w.at-is) | else-n-lt0 w ↦ omega (arith, w.at-is) ] in
    let small = c.unsigned_abs.ensures.bound in
    omega (arith, c.requires, sign, length-decimal-le 19 c.unsigned_abs.result (omega arith) (omega (arith, small)) (omega (arith, small)))

pub returns-clause-short : goal.returns-clause-short
returns-clause-short c =
    let sign : c.if-n-lt0.at ≤ c.args.at + 1 =
    elim c.if-n-lt0.branch [ then-n-lt0 w ↦ omega (arith, w.put-at.ensures.place, w.at-is) | else-n-lt0 w ↦ omega (arith, w.at-is) ] in
    let small = c.unsigned_abs.ensures.bound in
    omega (arith, c.put_decimal.ensures.place, sign, length-decimal-le 19 c.unsigned_abs.result (omega arith) (omega (arith, small)) (omega (arith, small)))
