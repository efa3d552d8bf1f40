-- The last lines of a listing, and the flush after them.
use Rattle.std.specs.Prelude.{◌≡◌, ◌≢◌, ◌↔◌, ℕ, Bool, IsTrue, false, List, [], ◌++◌, Result, ⊤}
use Rattle.std.specs.List.{concat}
use Rattle.std.specs.Io.{StartsWith}
use Rattle.std.specs.declared.io.Error.{Error}
use Rattle.x86_streams.specs.Outside.Chain.{Call, EndsIn, Fails, Follow, IsFlush, IsGone, WriterCalls, pieces, not_taken, sent}
use Rattle.x86_cli.specs.declared.listings.status.Finished.{Finished}
use Rattle.x86_cli.specs.Listings.Listing.{Listing}
use Rattle.x86_cli.specs.declared.listings.status.Status.{Status}

-- The last call by the status: one that failed at a write fault, and else a flush.
abbrev pub IsLastAt : Status → Call → Type 0
IsLastAt Status.WriteFault c = Fails c
IsLastAt status c = IsFlush c

-- The writer took what was held and then these lines, and was flushed; or a call failed, and it took the beginning.
pub record Closes {W : Type 0} (writes : W → List ℕ → Result ℕ Error → W → Type 0) (flushes : W → Result ⊤ Error → W → Type 0)
    (gathers : Bool) (held : List ℕ) (last : Listing) (outcome : Finished) (w w' : W) : Type 0 where
  pub calls : List Call
  pub did : WriterCalls writes flushes calls w w'
  pub follow : Follow calls
  pub ends : EndsIn (IsLastAt outcome.status) calls
  pub gone : IsTrue outcome.gone ↔ EndsIn IsGone calls
  pub unsent : List ℕ
  pub whole : held ++ concat last.lines ≡ sent calls ++ unsent
  pub next : StartsWith unsent (not_taken calls)
  pub all : outcome.status ≢ Status.WriteFault → (unsent ≡ []) × (outcome.status ≡ last.status)
  pub each : gathers ≡ false → pieces calls ≡ last.lines
