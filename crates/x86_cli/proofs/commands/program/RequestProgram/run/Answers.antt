use Rattle.std.proofs.Common.{[], None, refl}
use Rattle.x86_streams.specs.Text.Reader.{TextPosition}
use Rattle.x86_cli.specs.Commands.Make.{made_listing}
use Rattle.x86_cli.proofs.ListingLemmas.Live.{live_closes, live_new}
use Rattle.x86_cli.proofs.commands.program.RequestProgram.run.Goals as goal

pub returns-in-Makes-clause-performs : goal.returns-in-Makes-clause-performs
returns-in-Makes-clause-performs g c =
    let made = made_listing c.in-Makes.count in
    let text : TextPosition = record { position = 0; room = 0; unread = [] } in
    rw c.in-Makes.is (live_closes g.O.Input.reads g.O.Output.writes g.O.Output.flushes g.O.Output.gathers (λ n t. made)
    (λ n t. made) 0 c.args.streams.now [] 0 None [] text [] c.args.streams.now
    (live_new g.O.Input.reads g.O.Output.writes g.O.Output.flushes g.O.Output.gathers (λ n t. made)
    (λ n t. made) 0 c.args.streams.now text refl) _ _ made (λ xs stop. refl) c.make.ensures)
