use Rattle.x86_cli.proofs.CommandLemmas.Leaves.{leaves, make_leaves}
use Rattle.x86_cli.proofs.laws.program.Goals as goal

pub returns-clause-lists : goal.returns-clause-lists
returns-clause-lists g c command outcome s t h = leaves (λ r. g.R.Read.remaining r) (λ w. g.W.Write.contents w) command outcome s t h

pub returns-clause-made : goal.returns-clause-made
returns-clause-made g c n outcome s t h = make_leaves (λ r. g.R.Read.remaining r) (λ w. g.W.Write.contents w) n outcome s t h
