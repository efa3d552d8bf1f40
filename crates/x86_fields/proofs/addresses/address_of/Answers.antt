use Rattle.std.proofs.Common.{ap, ◌∙◌}
use Rattle.x86_fields.specs.Linear.{value_at}
use Rattle.x86_fields.proofs.addresses.address_of.Goals as goal

pub returns : goal.returns
returns c = c.value.ensures ∙ ap (λ f. value_at f c.args.regs.now.regs c.args.next) c.parts.ensures
