use Rattle.std.proofs.Common.{◌∙◌, ap, length, arith}
use Rattle.x86_text.proofs.OperandLemmas.{description_short}
use Rattle.x86_text.proofs.refusals.push_refusal.Goals as goal

pub extend-requires-2 : goal.extend-requires-2
extend-requires-2 g c = omega (
  arith,
  c.append.ensures.len,
  c.digits.ensures.short,
  c.extend.ensures.len,
  description_short c.args.error,
  ap length (c.as_bytes.ensures.value ∙ c.description.ensures),
)

pub returns-clause-short : goal.returns-clause-short
returns-clause-short g c = omega (
  arith,
  c.append.ensures.len,
  c.digits.ensures.short,
  c.extend.ensures.len,
  c.extend-2.ensures.len,
  description_short c.args.error,
  ap length (c.as_bytes.ensures.value ∙ c.description.ensures),
)
