-- A text as its author sees it: a sequence of blanks and pairs of hex digits, and at most one digit more.
use Rattle.std.specs.Prelude.{◌≡◌, ℕ, ◌+◌, ◌*◌, ◌<◌, ◌≤◌, List, [], ◌∷◌, ◌++◌, length, take, Some, None, Bool, true, false, unwrap_or, ⊤}
use Rattle.std.specs.List.{flat_map}
use Rattle.x86_streams.specs.Text.{is_blank, value_of, bad_of, image_of, ends_in_half}

pub data Item : Type 0 where
  blank : ℕ → Item
  pair : ℕ → ℕ → Item

-- its bytes, and what they add to the image
abbrev pub bytes_of : Item → List ℕ
bytes_of (blank b) = b ∷ []
bytes_of (pair high low) = high ∷ low ∷ []

abbrev pub values_of : Item → List ℕ
values_of (blank b) = []
values_of (pair high low) = (16 * unwrap_or (value_of high) 0 + unwrap_or (value_of low) 0) ∷ []

abbrev pub IsDigit : ℕ → Type 0
IsDigit b = (v : ℕ) × (value_of b ≡ Some v)

abbrev pub AreItems : List Item → Type 0
AreItems [] = ⊤
AreItems (blank b ∷ items) = (is_blank b ≡ true) × AreItems items
AreItems (pair high low ∷ items) = IsDigit high × IsDigit low × AreItems items

abbrev pub IsHalf : List ℕ → Type 0
IsHalf [] = ⊤
IsHalf (d ∷ []) = IsDigit d
IsHalf (d ∷ e ∷ ds) = ⊥

-- The bytes are a sequence of blanks and pairs, whose values are the image, and then half a pair or nothing.
pub record IsSequence (bytes image half : List ℕ) : Type 0 where
  pub items : List Item
  pub each : AreItems items
  pub half_pair : IsHalf half
  pub whole : bytes ≡ flat_map bytes_of items ++ half
  pub values : image ≡ flat_map values_of items

abbrev pub is_half : List ℕ → Bool
is_half [] = false
is_half (d ∷ ds) = true

-- No byte is bad exactly in such sequences, and the image and the half are theirs.
abbrev pub SequencesAreSound : Type 0
SequencesAreSound =
    ((bytes : List ℕ) → bad_of bytes ≡ None → (half : List ℕ) × IsSequence bytes (image_of bytes) half × (ends_in_half bytes ≡ is_half half))
    × ((bytes image half : List ℕ) → IsSequence bytes image half → (bad_of bytes ≡ None) × (image_of bytes ≡ image) × (ends_in_half bytes ≡ is_half half))

-- A bad position is that of the first byte that ends no beginning that is a sequence: each beginning up to it has no
-- bad byte, and the one with it has. The image is that of the bytes before.
abbrev pub BadIsFirst : Type 0
BadIsFirst = (bytes : List ℕ) (n : ℕ) → bad_of bytes ≡ Some n →
    (n < length bytes) × ((m : ℕ) → m ≤ n → bad_of (take m bytes) ≡ None) × (bad_of (take (n + 1) bytes) ≡ Some n)
    × (image_of (take n bytes) ≡ image_of bytes)
