-- What a run says of a source and of a sink whose bytes are known.
use Rattle.std.specs.Prelude.{◌≡◌, ◌⊎◌, ℕ, List, [], Option, Some, IfSome}
use Rattle.std.specs.Io.KnownBytes.{Consumes}
use Rattle.x86_streams.specs.declared.outside.joined.Joined.{Joined}
use Rattle.x86_cli.specs.declared.commands.command.Command.{Command}
use Rattle.x86_cli.specs.declared.listings.status.Status.{Status}
use Rattle.x86_streams.specs.Outside.FaultCounts.{Rose}
use Rattle.x86_cli.specs.Commands.Make.{made_listing}
use Rattle.x86_cli.specs.Commands.Program.{Has, HasOfAll}
use Rattle.x86_cli.specs.Commands.Request.{taken_listing}

-- what is seen of a source and a sink
pub record Streams : Type 0 where
  pub left : Option (List ℕ)
  pub source_faults : ℕ
  pub written : Option (List ℕ)
  pub sink_faults : ℕ

abbrev pub streams_of : {S K : Type 0} → (S → Option (List ℕ)) → (S → ℕ) → (K → Option (List ℕ)) → (K → ℕ) → Joined S K → Streams
streams_of left faults written others s =
    record { left = left s.reader; source_faults = faults s.reader; written = written s.writer; sink_faults = others s.writer }

-- The sink has the listing of all the bytes that the source has, where those are known.
abbrev pub OfAll : Status → Command → Streams → Streams → Type 0
OfAll status c old new = HasOfAll status c old.left old.written new.written

-- The source failed, and the sink has the listing of the bytes taken of it before.
pub record OfTaken (status : Status) (c : Command) (old new : Streams) : Type 0 where
  pub taken : List ℕ
  pub takes : Consumes old.left new.left taken
  pub holds : Has status (taken_listing c taken) old.written new.written
  pub cause : Rose old.source_faults new.source_faults

-- what each status says
abbrev pub Says : Status → Command → Streams → Streams → Type 0
Says Status.Usage c old new = ⊥
Says Status.Done c old new =
    OfAll Status.Done c old new × (new.source_faults ≡ old.source_faults) × (new.sink_faults ≡ old.sink_faults) × IfSome old.left (λ b. new.left ≡ Some [])
Says Status.ReadFault c old new = OfTaken Status.ReadFault c old new × (new.sink_faults ≡ old.sink_faults)
Says Status.WriteFault c old new = Rose old.sink_faults new.sink_faults × (OfAll Status.WriteFault c old new ⊎ OfTaken Status.WriteFault c old new)
Says status c old new = OfAll status c old new × (new.source_faults ≡ old.source_faults) × (new.sink_faults ≡ old.sink_faults)

-- What a run of `make` says: the line is written whole, or in part where the sink failed.
abbrev pub Makes : ℕ → Status → Option (List ℕ) → Option (List ℕ) → ℕ → ℕ → Type 0
Makes n Status.Done written written' faults faults' = Has Status.Done (made_listing n) written written' × (faults' ≡ faults)
Makes n Status.WriteFault written written' faults faults' = Rose faults faults' × Has Status.WriteFault (made_listing n) written written'
Makes n status written written' faults faults' = ⊥
