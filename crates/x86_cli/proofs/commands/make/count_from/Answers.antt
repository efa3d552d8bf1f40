use Rattle.std.proofs.Common.{arith}
use Rattle.std.proofs.lemmas.Fmt.{parse-decimal}
use Rattle.x86_cli.proofs.commands.make.count_from.Goals as goal

pub returns-in_err-count-clause-every : goal.returns-in_err-count-clause-every
returns-in_err-count-clause-every c n least most e = grind (arith, parse-decimal 32 n c.args.argument.now c.parse.result)

pub returns-then-not-is_decimal-clause-every : goal.returns-then-not-is_decimal-clause-every
returns-then-not-is_decimal-clause-every c n least most e = grind (arith, parse-decimal 32 n c.args.argument.now c.parse.result)

pub returns-else-not-is_decimal-clause-every : goal.returns-else-not-is_decimal-clause-every
returns-else-not-is_decimal-clause-every c n least most e = grind (arith, parse-decimal 32 n c.args.argument.now c.parse.result)
