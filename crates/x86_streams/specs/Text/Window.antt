-- What a window has taken of a text.
use Rattle.std.specs.Prelude.{◌≡◌, ℕ, ◌+◌, ◌-◌, ◌*◌, ◌<◌, ◌≤◌, List, [], ◌∷◌, ◌++◌, length, Option, Some, None, Result}
use Rattle.std.specs.declared.io.Error.{Error}
use Rattle.x86_streams.specs.declared.text.reader.Ending.{Ending}
use Rattle.x86_streams.specs.Outside.Chain.{Read, ReadsOnce, stop_of, taken_by}
use Rattle.x86_streams.specs.Outside.Stop.{Stop}
use Rattle.x86_streams.specs.Text.{Text, text_at}
use Rattle.x86_streams.specs.Text.Reader.{TextPosition}
use Rattle.x86_streams.specs.Text.Reading.{MayCome, with_bytes}

-- the most bytes that an instruction may have: a window takes more where it has fewer
abbrev pub instruction_max : ℕ
instruction_max = 15

-- the most bytes that come into a window at once: up to 256, and then at most 48
abbrev pub taken_max : ℕ
taken_max = 256 + 48

-- room for both
abbrev pub window_room : ℕ
window_room = 320

-- the bytes that a window holds
pub record WindowBytes : Type 0 where
  pub items : List ℕ

-- The text that is left, where these bytes come and then stop: the window's, and what the reader makes of them.
abbrev pub rest_of : Option Ending → List ℕ → ℕ → ℕ → List ℕ → Stop → Text
rest_of None window position room xs stop = with_bytes window (text_at position room xs stop)
rest_of (Some e) window position room xs stop = record { image = window; ending = e }

-- the same, where these bytes come after those that were read and not taken
abbrev pub rest_after : Option Ending → List ℕ → TextPosition → List ℕ → Stop → Text
rest_after ended window text xs stop = rest_of ended window text.position text.room (text.unread ++ xs) stop

-- Whatever comes, the text that is left is the same.
abbrev pub LeavesRest : Option Ending → List ℕ → TextPosition → Option Ending → List ℕ → TextPosition → Type 0
LeavesRest ended window text ended' window' text' =
    (xs : List ℕ) (stop : Stop) → rest_after ended window text xs stop ≡ rest_after ended' window' text' xs stop

-- Each byte that came into the window took at least two of those that may be taken.
abbrev pub Fits : List ℕ → TextPosition → List ℕ → TextPosition → Type 0
Fits window text window' text' = (length window' + text'.room ≤ length window + text.room) × (2 * length window' + text'.room ≤ 2 * length window + text.room)

-- one more turn may come where the text has not ended
abbrev pub turns : Option Ending → ℕ
turns None = 1
turns (Some e) = 0

-- a number that falls with each turn: a byte that may be taken counts three times, one that isn't read yet once
abbrev pub turns_left : Option Ending → List ℕ → TextPosition → ℕ
turns_left ended window text = 3 * (length window + text.room + turns ended) + (2 - length text.unread)

-- Bytes that were read came into the window.
pub record TakesBytes (ended : Option Ending) (window : List ℕ) (text : TextPosition) (window' : List ℕ) (text' : TextPosition) : Type 0 where
  pub rest : LeavesRest ended window text ended window' text'
  pub fits : Fits window text window' text'
  pub turns : turns_left ended window' text' ≤ turns_left ended window text

-- A blank or a pair was taken, or the text ended.
pub record Steps (window : List ℕ) (text : TextPosition) (ended' : Option Ending) (window' : List ℕ) (text' : TextPosition) : Type 0 where
  pub rest : LeavesRest None window text ended' window' text'
  pub fits : Fits window text window' text'
  pub turns : turns_left ended' window' text' < turns_left None window text

-- A read was made, and what it returned is after what was left, or the text ended.
pub record Fills {R : Type 0} (reads : R → List ℕ → Result ℕ Error → R → Type 0) (window : List ℕ) (text : TextPosition)
    (ended' : Option Ending) (text' : TextPosition) (r r' : R) : Type 0 where
  pub buffer : List ℕ
  pub block : 65536 ≤ length buffer
  pub answer : Result ℕ Error
  pub answered : ReadsOnce reads buffer answer r r'
  pub stop : ended' ≡ None → stop_of (Read buffer answer ∷ []) ≡ None
  pub rest : (xs : List ℕ) (stop : Stop) → MayCome (stop_of (Read buffer answer ∷ [])) xs stop →
      rest_after None window text (taken_by answer buffer ++ xs) stop ≡ rest_after ended' window text' xs stop
  pub fits : Fits window text window text'
  pub turns : turns_left ended' window text' < turns_left None window text
