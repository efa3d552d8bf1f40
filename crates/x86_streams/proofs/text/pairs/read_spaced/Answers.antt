use Rattle.std.proofs.Common.{arith}
use Rattle.x86_streams.proofs.TextLemmas.Spells.{spells_spaced}
use Rattle.x86_streams.proofs.text.pairs.read_spaced.Goals as goal

pub returns-clause-spells : goal.returns-clause-spells
returns-clause-spells c =
    spells_spaced c.args.text.now c.args.values.now c.put_values.new.values c.spaced_at.result c.digits_at-digits.result c.args.at c.args.count
    c.requires.spells c.requires.inside (omega arith) c.spaced_at.ensures (c.are_spaced.ensures c.if-not-are_spaced.false) c.digits_at-digits.ensures
    (c.are_digits.ensures c.if-not-are_digits.false) c.put_values.ensures.before c.put_values.ensures.values
