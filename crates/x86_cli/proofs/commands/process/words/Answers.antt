use Rattle.std.proofs.Common.{rules, arith}
use Rattle.x86_cli.proofs.commands.process.words.Goals as goal

pub returns : goal.returns
returns g c = let run = c.in_ok-words.ensures.runs (search rules) in (run.0, run.1, run.2, grind (arith, run.3.0))
