use Rattle.x86_cli.proofs.commands.command.Command.run.Goals as goal

pub returns-in-Fields : goal.returns-in-Fields
returns-in-Fields g c = rw c.in-Fields.is (rw c.default-default.ensures at c.list-in-Fields.ensures)

pub returns-in-Tighten : goal.returns-in-Tighten
returns-in-Tighten g c = rw c.in-Tighten.is (rw c.default-default.ensures at c.list-in-Tighten.ensures)
