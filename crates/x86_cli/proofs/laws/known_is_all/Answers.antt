use Rattle.std.specs.Prelude.{◌+◌, ◌≤◌, false, length}
use Rattle.x86_cli.specs.declared.commands.command.Command.{Command}
use Rattle.x86_cli.specs.declared.commands.request.Request.{Request}
use Rattle.x86_cli.specs.Commands.Request.{task_of}
use Rattle.x86_cli.proofs.ListingLemmas.Certain.{awaits_more, sent_all, sent_up_to_refusal, sweep_knows, up_to_refusal_knows}
use Rattle.x86_cli.proofs.laws.known_is_all.Goals as goal

pub returns-clause-up_to_refusal : goal.returns-clause-up_to_refusal
returns-clause-up_to_refusal g c strict text bytes = up_to_refusal_knows strict (c.decoder_laws.ensures strict) text bytes

pub returns-clause-sweep : goal.returns-clause-sweep
returns-clause-sweep g c bytes room = sweep_knows false (c.decoder_laws.ensures false) (c.lengths.ensures.short false) bytes room

pub returns-clause-awaits : goal.returns-clause-awaits
returns-clause-awaits g c command outcome s t h = awaits_more command h.calls h.rule

pub returns-clause-listed : goal.returns-clause-listed
returns-clause-listed g c command outcome s t up h = sent_up_to_refusal c.decoder_laws.ensures command up h.calls h.rule

pub returns-clause-swept : goal.returns-clause-swept
returns-clause-swept g c outcome s t h =
    sent_all (task_of (Request.Reads Command.Sweep)) (λ bytes. length bytes + 30 ≤ 67108864)
    (sweep_knows false (c.decoder_laws.ensures false) (c.lengths.ensures.short false)) h.calls h.rule
