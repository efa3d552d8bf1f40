-- The number that a status ends the program with.
use Rattle.std.specs.Prelude.{ℕ}
use Rattle.x86_cli.specs.declared.listings.status.Status.{Status}

-- the number that a program ends with
abbrev pub code : Status → ℕ
code Status.Done = 0
code Status.Usage = 2
code Status.Refused = 3
code Status.BadText = 4
code Status.ReadFault = 5
code Status.WriteFault = 6
code Status.TooLarge = 7
