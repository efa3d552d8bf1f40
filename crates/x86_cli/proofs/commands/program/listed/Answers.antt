use Rattle.x86_cli.proofs.CommandLemmas.Ends.{performs_used}
use Rattle.x86_cli.proofs.commands.program.listed.Goals as goal

pub returns-in-Some-clause-usage : goal.returns-in-Some-clause-usage
returns-in-Some-clause-usage g c = (
  λ e. absurd (performs_used _ _ _ _ _ _ _ _ c.run.ensures.ends c.run.ensures.performs e),
  λ nothing. absurd (nothing c.in-Some.request c.in-Some.ensures.found),
)

pub returns-in-Some-clause-nothing : goal.returns-in-Some-clause-nothing
returns-in-Some-clause-nothing g c e = absurd (performs_used _ _ _ _ _ _ _ _ c.run.ensures.ends c.run.ensures.performs e)
