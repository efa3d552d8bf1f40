-- What words request, and a run over a source and a sink.
use Rattle.std.specs.Prelude.{◌≡◌, ℕ, ◌≤◌, Bool, true, false, List, [], ◌∷◌, Option, Some, None, Result, ⊤, ◌&&◌, if◌then◌else◌, codes, decimal, bytes_eq}
use Rattle.x86_streams.specs.declared.outside.source.Got.{Got}
use Rattle.x86_streams.specs.declared.outside.sink.SinkFailed.{SinkFailed}
use Rattle.x86_streams.specs.Outside.Joined.{FlushesWriter, ReadsReader, WritesWriter}
use Rattle.x86_streams.specs.Outside.OneByOne.{HoldsNothing, PutsPiece, ReadsByte}
use Rattle.x86_streams.specs.declared.outside.joined.Joined.{Joined}
use Rattle.x86_streams.specs.Outside.Stop.{End, Failed}
use Rattle.x86_streams.specs.Text.{Text, text_of}
use Rattle.x86_decode.specs.declared.instructions.Instruction.{Instruction}
use Rattle.x86_decode.specs.Instruction.{length_of}
use Rattle.x86_layout.specs.Parts.OfBytes.{parts_of}
use Rattle.x86_layout.specs.Tightening.Least.{shortest_length}
use Rattle.x86_text.specs.Lines.{line_of}
use Rattle.x86_text.specs.Parts.{fields_line}
use Rattle.x86_cli.specs.declared.commands.command.Command.{Command}
use Rattle.x86_cli.specs.declared.commands.request.Request.{Request}
use Rattle.x86_cli.specs.declared.listings.status.Status.{Status}
use Rattle.x86_cli.specs.Commands.Make.{made_listing}
use Rattle.x86_cli.specs.Listings.Listing.{Listing, at_end, listing_from}
use Rattle.x86_cli.specs.Listings.Performs.{Performs, Task}
use Rattle.x86_cli.specs.Listings.Sweep.{known_sweep_at, sweep_at}
use Rattle.x86_cli.specs.Listings.Targets.{targets_at}
use Rattle.x86_cli.specs.Listings.Tighten.{least_text}

-- the command that the arguments are, matched whole
abbrev pub command_of : List (List ℕ) → Option Command
command_of (a ∷ []) =
    if bytes_eq a (codes "list") then Some (Command.List false)
    else (if bytes_eq a (codes "fields") then Some Command.Fields
    else (if bytes_eq a (codes "tighten") then Some Command.Tighten
    else (if bytes_eq a (codes "sweep") then Some Command.Sweep
    else (if bytes_eq a (codes "targets") then Some Command.Targets else None))))
command_of (a ∷ b ∷ []) = if bytes_eq a (codes "list") && bytes_eq b (codes "--strict") then Some (Command.List true) else None
command_of arguments = None

-- The words request this: those of a command, or `make` and a decimal from 1 to a million, without a sign or a leading
-- zero.
abbrev pub Denotes : List (List ℕ) → Request → Type 0
Denotes words (Request.Reads c) = command_of words ≡ Some c
Denotes words (Request.Makes n) = (words ≡ codes "make" ∷ decimal n ∷ []) × (1 ≤ n) × (n ≤ 1000000)

-- a listing that ends at a refusal, with this line of an instruction; of a text of at most 64 MiB
abbrev pub up_to_refusal : Bool → (ℕ → Instruction → List ℕ → List ℕ) → Task
up_to_refusal strict text = record {
  max = 67108864;
  known = λ t. listing_from strict text 0 0 t.image t.ending;
  lists = λ t. listing_from strict text 0 0 t.image t.ending;
}

-- What each request lists of a text, and what of that is known whatever follows: of `targets`, which lists once all is
-- read, only the end. `make` lists its line, whatever the text is.
abbrev pub task_of : Request → Task
task_of (Request.Reads (Command.List strict)) = up_to_refusal strict (λ place instruction bytes. line_of place instruction)
task_of (Request.Reads Command.Fields) = up_to_refusal false (λ place instruction bytes. fields_line place (parts_of false bytes))
task_of (Request.Reads Command.Tighten) = up_to_refusal false
    (λ place instruction bytes. least_text place (length_of instruction) (shortest_length false bytes))
task_of (Request.Reads Command.Sweep) = record { max = 67108864; known = known_sweep_at false 0; lists = sweep_at false 0 }
task_of (Request.Reads Command.Targets) = record { max = 16384; known = λ t. at_end t.ending; lists = targets_at false 0 }
task_of (Request.Makes n) = record { max = 0; known = λ t. made_listing n; lists = λ t. made_listing n }

-- What a run does with a source and a sink: each read is a call of the source, and each write a put
-- of one line.
abbrev pub Runs : {S K : Type 0} → (S → Got → S → Type 0) → (K → List ℕ → Result ⊤ SinkFailed → K → Type 0) → Request → Status →
    Joined S K → Joined S K → Type 0
Runs gives takes request status streams streams' = (gone : Bool)
    × Performs (ReadsReader (ReadsByte gives)) (WritesWriter (PutsPiece takes)) (FlushesWriter HoldsNothing) false (task_of request)
    (record { status = status; gone = gone }) streams streams'

-- ---- of a command

abbrev pub listing_for : Command → Text → Listing
listing_for c = (task_of (Request.Reads c)).lists

abbrev pub known_for : Command → Text → Listing
known_for c = (task_of (Request.Reads c)).known

abbrev pub max_of : Command → ℕ
max_of c = (task_of (Request.Reads c)).max

-- the listing of all the bytes b that a reader has, and that of the bytes t that were taken of it
abbrev pub full_listing : Command → List ℕ → Listing
full_listing c b = listing_for c (text_of (max_of c) b End)

abbrev pub taken_listing : Command → List ℕ → Listing
taken_listing c t = listing_for c (text_of (max_of c) t Failed)
