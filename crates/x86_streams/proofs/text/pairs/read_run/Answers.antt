use Rattle.std.proofs.Common.{arith}
use Rattle.x86_streams.proofs.TextLemmas.Spells.{spells_run}
use Rattle.x86_streams.proofs.text.pairs.read_run.Goals as goal

pub returns-clause-spells : goal.returns-clause-spells
returns-clause-spells c =
    spells_run c.args.text.now c.args.values.now c.put_values.new.values c.digits_at-digits.result c.args.at c.args.count c.run_of-run.result
    c.requires.spells (omega (arith, c.requires.spells.inside)) (omega arith) c.run_of-run.ensures.few c.digits_at-digits.ensures c.run_of-run.ensures.digits
    c.put_values.ensures.before c.put_values.ensures.values c.run_of-run.result (omega arith)
