use Rattle.std.proofs.Common.{◌≡◌, ◌≤◌, ◌*◌}
use Rattle.x86_cli.specs.Commands.Make.{tally_of}
use Rattle.x86_cli.proofs.commands.make.tally_of.Given as goal

abbrev pub invariant-loop-i : goal.invariant-loop-i
invariant-loop-i l = record {
  counted : record { bytes = l.bytes; at_rip = l.at_rip; absolute = l.absolute } ≡ tally_of l.i;
  few_bytes : l.bytes ≤ 15 * l.i;
  few_at_rip : l.at_rip ≤ l.i;
  few_absolute : l.absolute ≤ l.i;
}
