-- What follows from what a program does.
use Rattle.std.specs.Prelude.{◌≡◌, ◌≢◌, ◌⊎◌, ℕ, List, [], Option, Some, IfSome, ⊤}
use Rattle.std.specs.Io.{StartsWith}
use Rattle.std.specs.Io.KnownBytes.{Appends}
use Rattle.x86_cli.specs.declared.commands.command.Command.{Command}
use Rattle.x86_cli.specs.declared.listings.status.Status.{Status}
use Rattle.x86_streams.specs.Outside.Stop.{Stop, End, Failed}
use Rattle.x86_cli.specs.Listings.Listing.{Listing}
use Rattle.x86_cli.specs.Listings.Performs.{IsPrinted}
use Rattle.x86_cli.specs.Commands.Request.{full_listing, taken_listing}

-- How the reads ended, by the status.
abbrev pub EndsAt : Status → Option Stop → Type 0
EndsAt Status.Done stop = stop ≡ Some End
EndsAt Status.ReadFault stop = stop ≡ Some Failed
EndsAt Status.WriteFault stop = ⊤
EndsAt Status.Usage stop = ⊥
EndsAt status stop = stop ≢ Some Failed

-- ---- what that says where the bytes that the reader has left and those that the writer has are known

-- The writer has what it had and then the listing, or a prefix of that at a write fault.
abbrev pub Has : Status → Listing → Option (List ℕ) → Option (List ℕ) → Type 0
Has status l old new = (bytes : List ℕ) × IsPrinted status bytes [] l × Appends old new bytes

-- of the bytes that were read, where a read failed after them
abbrev pub HasOfTaken : Status → Command → Option (List ℕ) → Option (List ℕ) → Option (List ℕ) → Type 0
HasOfTaken status c left old new = (taken : List ℕ) × IfSome left (λ b. StartsWith b taken) × Has status (taken_listing c taken) old new

-- of all the bytes that the reader had left
abbrev pub HasOfAll : Status → Command → Option (List ℕ) → Option (List ℕ) → Option (List ℕ) → Type 0
HasOfAll status c left old new = IfSome left (λ b. Has status (full_listing c b) old new)

abbrev pub Leaves : Status → Command → Option (List ℕ) → Option (List ℕ) → Option (List ℕ) → Type 0
Leaves Status.ReadFault c left old new = HasOfTaken Status.ReadFault c left old new
Leaves Status.WriteFault c left old new = HasOfAll Status.WriteFault c left old new ⊎ HasOfTaken Status.WriteFault c left old new
Leaves status c left old new = HasOfAll status c left old new
