-- What follows from what a run says.
use Rattle.std.specs.Prelude.{◌≡◌, ◌↔◌, ℕ, List, IfSome}
use Rattle.std.specs.List.{concat}
use Rattle.std.specs.Io.KnownBytes.{Consumes, Appends}
use Rattle.x86_cli.specs.declared.commands.command.Command.{Command}
use Rattle.x86_streams.specs.declared.text.reader.Ending.TheVariants.{Clean}
use Rattle.x86_streams.specs.Outside.Stop.{End}
use Rattle.x86_cli.specs.declared.listings.status.Status.{Status}
use Rattle.x86_streams.specs.Outside.FaultCounts.{Rose}
use Rattle.x86_streams.specs.Text.{text_of}
use Rattle.x86_cli.specs.Commands.Request.{full_listing, max_of, taken_listing}
use Rattle.x86_cli.specs.Commands.Complete.{GoesThrough}
use Rattle.x86_cli.specs.Commands.Says.{Streams}

-- Neither count rose.
abbrev pub IsSound : Streams → Streams → Type 0
IsSound old new = (Rose old.source_faults new.source_faults → ⊥) × (Rose old.sink_faults new.sink_faults → ⊥)

-- Where neither count rose, a status comes exactly where the listing ends with it.
abbrev pub IsExact : Status → Command → Streams → Streams → Type 0
IsExact result c old new =
    IfSome old.left (λ b. IsSound old new → (status : Status) → (result ≡ status) ↔ ((full_listing c b).status ≡ status))

-- A read fault comes only where the count rose, and the listing of the bytes taken reaches it.
abbrev pub HasReadFault : Status → Command → Streams → Streams → Type 0
HasReadFault result c old new = result ≡ Status.ReadFault → Rose old.source_faults new.source_faults
    × ((taken : List ℕ) × Consumes old.left new.left taken × ((taken_listing c taken).status ≡ Status.ReadFault))

-- Where the text is clean, the command goes through its image, and neither count rose, the run is done and has
-- written all.
abbrev pub Completes : Status → Command → Streams → Streams → Type 0
Completes result c old new =
    IfSome old.left (λ b. (text_of (max_of c) b End).ending ≡ Clean → GoesThrough c (text_of (max_of c) b End).image → IsSound old new →
    (result ≡ Status.Done) × Appends old.written new.written (concat (full_listing c b).lines))
