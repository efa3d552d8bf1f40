-- Kinds of commands.
use Rattle.std.specs.Prelude.{Bool, true, false}
use Rattle.x86_cli.specs.declared.commands.command.Command.{Command}

-- A command that continues after refusals is never refused.
abbrev pub goes_past_refusals : Command → Bool
goes_past_refusals Command.Sweep = true
goes_past_refusals Command.Targets = true
goes_past_refusals c = false
