-- What a program does with its reader and its writer.
use Rattle.std.specs.Prelude.{◌≡◌, ◌≢◌, ◌↔◌, ℕ, ◌≤◌, Bool, false, IsTrue, List, [], ◌∷◌, ◌++◌, length, None, Result, ⊤}
use Rattle.std.specs.List.{concat}
use Rattle.std.specs.Io.{StartsWith}
use Rattle.std.specs.declared.io.Error.{Error}
use Rattle.x86_streams.specs.declared.text.reader.Ending.TheVariants.{Fault}
use Rattle.x86_streams.specs.Outside.Chain.{Call, Read, Calls, EndsIn, Fails, IsFlush, IsGone, pieces, received, not_taken, sent, stop_of}
use Rattle.x86_streams.specs.Outside.Stop.{Stop, Failed}
use Rattle.x86_streams.specs.Text.{Text, text_at}
use Rattle.x86_streams.specs.Text.Reading.{MayCome}
use Rattle.x86_cli.specs.declared.listings.status.Finished.{Finished}
use Rattle.x86_cli.specs.declared.listings.status.Status.{Status}
use Rattle.x86_cli.specs.Listings.Listing.{Listing, with_lines, at_end}

-- What is listed of a text, what of that is known whatever follows the text, and the most bytes of it that are read.
pub record Task : Type 0 where
  pub max : ℕ
  pub known : Text → Listing
  pub lists : Text → Listing

-- The rule of reading. Each read was made where what was read so far decides no more: what is known of it, should the read
-- fail, is what was written and flushed, and then the line of a read fault. It has room for 64 KiB. None follows the end of
-- the input, or an error. No call follows one of the writer that failed.
abbrev pub ByRule : (known : Text → Listing) → (List ℕ → Stop → Text) → List Call → Type 0
ByRule known text [] = ⊤
ByRule known text (Read buffer answer ∷ cs) = ByRule known text cs × (65536 ≤ length buffer) × (stop_of cs ≡ None)
    × EndsIn IsFlush cs × ((lines : List (List ℕ)) × (known (text (received cs) Failed) ≡ with_lines lines (at_end Fault)) × (concat lines ≡ sent cs))
ByRule known text (c ∷ cs) = ByRule known text cs × (EndsIn Fails cs → ⊥)

-- These bytes are a prefix of the listing, and the following ones come after them. They are all of it unless a call failed;
-- then the listing ends with this status.
pub record IsPrinted (status : Status) (bytes following : List ℕ) (l : Listing) : Type 0 where
  pub unsent : List ℕ
  pub whole : concat l.lines ≡ bytes ++ unsent
  pub next : StartsWith unsent following
  pub all : status ≢ Status.WriteFault → (unsent ≡ []) × (status ≡ l.status)

-- The program did its task: its calls in one order, by the rule of reading. The writer took the listing of every text
-- that begins with what was read, and a write that failed was to take what comes next of it. Where
-- nothing is gathered, each write is of one line.
pub record Performs {O : Type 0} (reads : O → List ℕ → Result ℕ Error → O → Type 0) (writes : O → List ℕ → Result ℕ Error → O → Type 0)
    (flushes : O → Result ⊤ Error → O → Type 0) (gathers : Bool) (task : Task) (outcome : Finished) (o o' : O) : Type 0 where
  pub calls : List Call
  pub did : Calls reads writes flushes calls o o'
  pub rule : ByRule task.known (text_at 0 task.max) calls
  pub flushed : outcome.status ≢ Status.WriteFault → EndsIn IsFlush calls
  pub failed : outcome.status ≡ Status.WriteFault → EndsIn Fails calls
  pub gone : IsTrue outcome.gone ↔ EndsIn IsGone calls
  pub lists : (xs : List ℕ) (stop : Stop) → MayCome (stop_of calls) xs stop →
      IsPrinted outcome.status (sent calls) (not_taken calls) (task.lists (text_at 0 task.max (received calls ++ xs) stop))
  pub each : gathers ≡ false → (xs : List ℕ) (stop : Stop) → MayCome (stop_of calls) xs stop →
      (more : List (List ℕ)) × ((task.lists (text_at 0 task.max (received calls ++ xs) stop)).lines ≡ pieces calls ++ more)

-- A listing ends neither in a mistake of usage nor in a failed write.
abbrev pub IsEnd : Status → Type 0
IsEnd status = (status ≢ Status.Usage) × (status ≢ Status.WriteFault)
