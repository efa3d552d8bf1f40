-- What blanks and pairs at the beginning of a text say of it.
use Rattle.std.specs.Prelude.{◌≡◌, ℕ, ◌+◌, ◌*◌, ◌≤◌, List, ◌++◌, length, take}
use Rattle.x86_streams.specs.Outside.Stop.{Stop}
use Rattle.x86_streams.specs.Text.{text_at}
use Rattle.x86_streams.specs.Text.Reading.{with_bytes}

-- What these bytes say of every text that begins with them: its image begins with the values, and the rest is the
-- text of what follows.
abbrev pub Begins : List ℕ → List ℕ → Type 0
Begins bytes values = (position room : ℕ) (xs : List ℕ) (s : Stop) →
    text_at position (length bytes + room) (bytes ++ xs) s ≡ with_bytes values (text_at (position + length bytes) room xs s)

-- The first bytes of a text, so many, are blanks and pairs of these values.
pub record Spells (text : List ℕ) (count : ℕ) (values : List ℕ) : Type 0 where
  pub inside : count ≤ length text
  pub pairs : 2 * length values ≤ count
  pub begins : Begins (take count text) values

-- Of a text the first bytes, so many, brought these after the bytes that there were.
pub record Brings (text : List ℕ) (count : ℕ) (old new : List ℕ) : Type 0 where
  pub values : List ℕ
  pub spells : Spells text count values
  pub items : new ≡ old ++ values
