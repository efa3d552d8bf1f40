-- What the bytes of a text that were read decide of its listing.
use Rattle.std.specs.Prelude.{◌≡◌, ℕ, List, [], ◌∷◌, ◌++◌, ⊤}
use Rattle.std.specs.List.{concat}
use Rattle.x86_streams.specs.Outside.Chain.{Call, Read, EndsIn, IsFlush, received, sent}
use Rattle.x86_streams.specs.Outside.Stop.{Stop, Failed}
use Rattle.x86_streams.specs.Text.{text_of}
use Rattle.x86_streams.specs.declared.text.reader.Ending.TheVariants.{Fault}
use Rattle.x86_cli.specs.Listings.Listing.{Listing, with_lines, at_end}
use Rattle.x86_cli.specs.Listings.Performs.{Task}

-- The listing of every text that begins with these bytes begins with these lines.
abbrev pub AreCertain : Task → List ℕ → List (List ℕ) → Type 0
AreCertain task bytes lines = (xs : List ℕ) (stop : Stop) →
    (more : List (List ℕ)) × ((task.lists (text_of task.max (bytes ++ xs) stop)).lines ≡ lines ++ more)

-- These lines are certain, and no more are: all that are certain are a prefix of them.
abbrev pub AreAllCertain : Task → List ℕ → List (List ℕ) → Type 0
AreAllCertain task bytes lines =
    AreCertain task bytes lines × ((others : List (List ℕ)) → AreCertain task bytes others → (more : List (List ℕ)) × (lines ≡ others ++ more))

-- Where one more read may be made after these bytes, the lines that are known are all that are certain.
abbrev pub KnowsAll : Task → List ℕ → Type 0
KnowsAll task bytes = (lines : List (List ℕ)) → task.known (text_of task.max bytes Failed) ≡ with_lines lines (at_end Fault) →
    AreAllCertain task bytes lines

-- No listing is that of every text that begins with these bytes.
abbrev pub Varies : Task → List ℕ → Type 0
Varies task bytes = (l : Listing) → ((xs : List ℕ) (stop : Stop) → task.lists (text_of task.max (bytes ++ xs) stop) ≡ l) → ⊥

-- Before each read this was so of the calls that had been made.
abbrev pub BeforeReads : (List Call → Type 0) → List Call → Type 0
BeforeReads P [] = ⊤
BeforeReads P (Read buffer answer ∷ cs) = BeforeReads P cs × P cs
BeforeReads P (c ∷ cs) = BeforeReads P cs

-- What was sent is flushed, and what was received doesn't decide the listing.
abbrev pub AwaitsMore : Task → List Call → Type 0
AwaitsMore task cs = EndsIn IsFlush cs × Varies task (received cs)

-- What was sent is all that is certain of what was received.
abbrev pub SentAllCertain : Task → List Call → Type 0
SentAllCertain task cs = (lines : List (List ℕ)) × AreAllCertain task (received cs) lines × (concat lines ≡ sent cs)
