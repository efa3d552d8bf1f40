-- The places that the instructions of a sweep branch to.
use Rattle.std.specs.Prelude.{◌≡◌, ◌↔◌, Bool, IsTrue, ℕ, ◌-◌, List, [], ◌++◌, length, map, decimal, Result, Ok, Err, ⊤}
use Rattle.std.specs.declared.io.Error.{Error}
use Rattle.std.specs.List.{filter, range_with_len}
use Rattle.x86_layout.specs.Sweeps.Marks.{is_marked}
use Rattle.x86_streams.specs.declared.outside.sending.WriteFailed.{WriteFailed}
use Rattle.x86_streams.specs.Outside.Chain.{AllContinue, Call, Calls, EndsIn, Fails, IsGone, pieces, received, not_taken, stop_of}
use Rattle.x86_streams.specs.Outside.Stop.{Stop}
use Rattle.x86_streams.specs.Text.{Text, text_of}
use Rattle.x86_streams.specs.Text.Reading.{MayCome}
use Rattle.x86_cli.specs.Listings.Line.{line}
use Rattle.x86_cli.specs.declared.listings.targets.WholeText.{WholeText}
use Rattle.x86_cli.specs.Listings.Listing.{Listing, with_lines, at_end}
use Rattle.x86_cli.specs.Listings.Performs.{ByRule}

-- the most bytes of an image that is held whole
abbrev pub image_max : ℕ
image_max = 8192

-- a line for each marked place from one on; then the end's
abbrev pub targets_at : Bool → ℕ → Text → Listing
targets_at strict place t = with_lines (map (λ p. line (decimal p))
    (filter (is_marked strict t.image) (range_with_len place (length t.image - place)))) (at_end t.ending)

-- A text was read to its end, and is this one; or a flush before a read failed. Nothing was written.
abbrev pub EndsWhole : ℕ → Result WholeText WriteFailed → List Call → Type 0
EndsWhole max (Ok text) cs = AllContinue cs × ((xs : List ℕ) (stop : Stop) → MayCome (stop_of cs) xs stop →
    text_of max (received cs ++ xs) stop ≡ record { image = text.image.items; ending = text.ending })
EndsWhole max (Err f) cs = EndsIn Fails cs × (not_taken cs ≡ []) × (IsTrue f.gone ↔ EndsIn IsGone cs)

pub record ReadsWhole {O : Type 0} (reads : O → List ℕ → Result ℕ Error → O → Type 0) (writes : O → List ℕ → Result ℕ Error → O → Type 0)
    (flushes : O → Result ⊤ Error → O → Type 0) (max : ℕ) (result : Result WholeText WriteFailed) (o o' : O) : Type 0 where
  pub calls : List Call
  pub did : Calls reads writes flushes calls o o'
  pub rule : ByRule (λ t. at_end t.ending) (text_of max) calls
  pub none : pieces calls ≡ []
  pub ends : EndsWhole max result calls
