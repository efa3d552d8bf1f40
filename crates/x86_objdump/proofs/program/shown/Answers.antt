use Rattle.std.proofs.Common.{◌≡◌, ◌≢◌, ◌∙◌, ℕ, Option, Some, None, sym}
use Rattle.x86_cli.specs.declared.listings.status.Status.{Status}
use Rattle.x86_cli.specs.declared.listings.status.Status.TheVariants.{Usage}
use Rattle.x86_cli.proofs.CommandLemmas.Ends.{performs_used}
use Rattle.x86_objdump.proofs.program.shown.Goals as goal

usage : {o : Option ℕ} {base : ℕ} {status : Status} → o ≡ Some base → status ≢ Usage → (status ≡ Usage → o ≡ None) × (o ≡ None → status ≡ Usage)
usage is used = (λ e. absurd (used e), λ e. absurd (cc))

pub returns-in-Some-clause-performs : goal.returns-in-Some-clause-performs
returns-in-Some-clause-performs g c = rw (← c.base_in.ensures, c.in-Some.is) c.run.ensures.performs

pub returns-in-Some-clause-usage : goal.returns-in-Some-clause-usage
returns-in-Some-clause-usage g c = usage (sym c.base_in.ensures ∙ c.in-Some.is) (performs_used _ _ _ _ _ _ _ _ c.run.ensures.ends c.run.ensures.performs)

pub returns-in-Some-clause-nothing : goal.returns-in-Some-clause-nothing
returns-in-Some-clause-nothing g c = λ e. absurd (performs_used _ _ _ _ _ _ _ _ c.run.ensures.ends c.run.ensures.performs e)
