-- The next entry of a listing.
use Rattle.std.specs.Prelude.{◌≡◌, ℕ, ◌+◌, ◌<◌, ◌≤◌, List, [], ◌∷◌, ◌++◌, length, drop, Option, None}
use Rattle.x86_streams.specs.declared.text.reader.Ending.{Ending}
use Rattle.x86_cli.specs.declared.listings.listing.Entry.{Entry}
use Rattle.x86_streams.specs.Outside.Stop.{Stop}
use Rattle.x86_streams.specs.Text.{Text}
use Rattle.x86_streams.specs.Text.Reading.{NeedsMore, with_bytes}
use Rattle.x86_streams.specs.Text.Window.{rest_of}
use Rattle.x86_cli.specs.Listings.Line.{line}
use Rattle.x86_cli.specs.Listings.Listing.{Listing, with_lines, at_end, at_refusal}

-- The listing of what is left is this line and then that of the bytes after it, whatever follows.
abbrev pub IsLine : (ℕ → Text → Listing) → ℕ → ℕ → List ℕ → Option Ending → List ℕ → ℕ → ℕ → Type 0
IsLine at n place text ended window position room = (xs : List ℕ) (stop : Stop) →
    at place (rest_of ended window position room xs stop) ≡ with_lines (line text ∷ []) (at (place + n) (rest_of ended (drop n window) position room xs stop))

-- The next entry at a place: a line, a refusal or an end, whatever follows; or nothing yet, where what was read decides
-- no more. at place text is what is listed of a text from a place on, known place text what is listed of it whatever
-- follows.
abbrev pub IsEntry : (at known : ℕ → Text → Listing) → Entry → ℕ → List ℕ → Option Ending → List ℕ → ℕ → ℕ → Type 0
IsEntry at known (Entry.Line n) place text ended window position room = (0 < n) × (n ≤ length window)
    × IsLine at n place text ended window position room × (ended ≡ None → IsLine known n place text ended window position room)
IsEntry at known (Entry.Refused error) place text ended window position room =
    (xs : List ℕ) (stop : Stop) → at place (rest_of ended window position room xs stop) ≡ at_refusal place error
IsEntry at known (Entry.Ended e) place text ended window position room =
    (xs : List ℕ) (stop : Stop) → at place (rest_of ended window position room xs stop) ≡ at_end e
IsEntry at known Entry.Undecided place text ended window position room = (ended ≡ None) × (length window < 15)
    × ((t : Text) → NeedsMore 1 t → known place (with_bytes window t) ≡ at_end Ending.Fault)

-- The text of a line comes after what is held. Another entry leaves that.
abbrev pub Appends : Entry → (text old new : List ℕ) → Type 0
Appends (Entry.Line n) text old new = new ≡ old ++ text
Appends entry text old new = new ≡ old
