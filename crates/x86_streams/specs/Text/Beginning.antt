-- What the first bytes of a text say of it, whatever follows them.
use Rattle.std.specs.Prelude.{◌≡◌, ℕ, ◌+◌, ◌-◌, ◌<◌, ◌≤◌, List, [], ◌∷◌, ◌++◌, length, drop, Some, None, true, false}
use Rattle.x86_streams.specs.Outside.Stop.{Stop, End, Failed}
use Rattle.x86_streams.specs.declared.text.beginning.Beginning.{Beginning}
use Rattle.x86_streams.specs.declared.text.beginning.Beginning.TheVariants.{Blank, Pair, Bad, Large, Open}
use Rattle.x86_streams.specs.declared.text.reader.Ending.{Ending}
use Rattle.x86_streams.specs.declared.text.reader.Ending.TheVariants as ending
use Rattle.x86_streams.specs.declared.text.kinds.Kind.{Kind}
use Rattle.x86_streams.specs.declared.text.kinds.Kind.TheVariants as kind
use Rattle.x86_streams.specs.Text.{Text, is_blank, text_at, value_of}
use Rattle.x86_streams.specs.Text.Reading.{with_bytes, ended}

-- How a text ends that has nothing, or half a pair, up to this position.
abbrev pub end_of : ℕ → List ℕ → Ending
end_of position [] = ending.Clean
end_of position (x ∷ xs) = ending.Bad position

-- Whatever follows, the text of these bytes is this one.
abbrev pub Is : List ℕ → ℕ → (ℕ → List ℕ → Stop → Text) → Type 0
Is text room other = (position : ℕ) (xs : List ℕ) (stop : Stop) → text_at position room (text ++ xs) stop ≡ other position xs stop

-- A text that is open: it is at most half a pair, with nothing in its image.
pub record IsOpenText (text : List ℕ) (room : ℕ) : Type 0 where
  pub few : length text ≤ 1
  pub fits : length text ≤ room
  pub failed : (position : ℕ) → text_at position room text Failed ≡ ended ending.Fault
  pub ends : (position : ℕ) → text_at position room text End ≡ ended (end_of (position + length text) text)

abbrev pub IsBeginning : Beginning → List ℕ → ℕ → Type 0
IsBeginning Blank text room = (1 ≤ length text) × (1 ≤ room) × Is text room (λ p xs s. text_at (p + 1) (room - 1) (drop 1 text ++ xs) s)
IsBeginning (Pair v) text room = (2 ≤ length text) × (2 ≤ room)
    × Is text room (λ p xs s. with_bytes (v ∷ []) (text_at (p + 2) (room - 2) (drop 2 text ++ xs) s))
IsBeginning (Bad n) text room = (n < length text) × (n < room) × Is text room (λ p xs s. ended (ending.Bad (p + n)))
IsBeginning Large text room = Is text room (λ p xs s. ended ending.Large)
IsBeginning Open text room = IsOpenText text room

-- what the kind of a byte says of it
abbrev pub IsKind : Kind → ℕ → Type 0
IsKind (kind.Digit v) b = (is_blank b ≡ false) × (value_of b ≡ Some v) × (v < 16)
IsKind kind.Blank b = (is_blank b ≡ true) × (value_of b ≡ None)
IsKind kind.Other b = (is_blank b ≡ false) × (value_of b ≡ None)
