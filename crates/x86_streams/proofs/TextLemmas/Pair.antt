-- Sequences of blanks and pairs.
use Rattle.std.proofs.Common.{if◌then◌else◌, ◌≡◌, ℕ, zero, suc, ◌+◌, ◌<◌, List, [], ◌∷◌, ◌++◌, length, take, refl, arith, Option, Some}
use Rattle.std.proofs.Common.{None, Bool, true, nat_lt}
use Rattle.std.proofs.Math.Seq.{take-length}
use Rattle.std.specs.List.{flat_map}
use Rattle.std.specs.Option.{option_map}
use Rattle.std.specs.Prelude.{is_some, ◌||◌}
use Rattle.x86_streams.specs.Text.{is_blank, value_of, bad_of, image_of, ends_in_half}
use Rattle.x86_streams.specs.Text.Pairs.{Item, blank, pair, bytes_of, values_of, AreItems, IsHalf, IsSequence, is_half, SequencesAreSound, BadIsFirst}
use Rattle.x86_streams.proofs.TextLemmas.Text.{value-blank, of-blank}

-- from a sequence

items_bad : (items : List Item) (half : List ℕ) → AreItems items → IsHalf half →
    (bad_of (flat_map bytes_of items ++ half) ≡ None) × (image_of (flat_map bytes_of items ++ half) ≡ flat_map values_of items)
    × (ends_in_half (flat_map bytes_of items ++ half) ≡ is_half half)
unfolding image_of ends_in_half bad_of
items_bad [] half each ok = grind (arith, value-blank)
items_bad (blank b ∷ items) half each ok = grind (arith, items_bad items half each.1 ok, of-blank, value-blank)
items_bad (pair a b ∷ items) half each ok = grind (arith, items_bad items half each.2 ok, value-blank)

sequence_bad : (bytes image half : List ℕ) → IsSequence bytes image half → (bad_of bytes ≡ None) × (image_of bytes ≡ image)
    × (ends_in_half bytes ≡ is_half half)
sequence_bad bytes image half s = rw (s.whole, s.values) (items_bad s.items half s.each s.half_pair)

-- to a sequence

Found : List ℕ → Type 0
Found bytes = (image half : List ℕ) × IsSequence bytes image half

found : (items : List Item) (half : List ℕ) → AreItems items → IsHalf half → Found (flat_map bytes_of items ++ half)
unfolding Found
found items half each ok = (_, half, record { items = items; each = each; half_pair = ok; whole = refl; values = refl })

from_blank : (b : ℕ) (s : List ℕ) → is_blank b ≡ true → Found s → Found (b ∷ s)
unfolding Found
from_blank b s e f = let q = f.2 in rw q.whole (found (blank b ∷ q.items) f.1 (e, q.each) q.half_pair)

from_pair : (a b v w : ℕ) (s : List ℕ) → value_of a ≡ Some v → value_of b ≡ Some w → Found s → Found (a ∷ b ∷ s)
unfolding Found
from_pair a b v w s d e f = let q = f.2 in rw q.whole (found (pair a b ∷ q.items) f.1 ((v, d), (w, e), q.each) q.half_pair)

sequence_of : (bytes : List ℕ) → bad_of bytes ≡ None → Found bytes
unfolding bad_of
sequence_of [] e = found [] [] tt tt
sequence_of (a ∷ []) e = let half = λ (v : ℕ) (d : value_of a ≡ Some v). found [] (a ∷ []) tt (v, d) in grind (arith, from_blank, sequence_of [] refl)
sequence_of (a ∷ b ∷ s) e = grind (arith, from_blank, from_pair, sequence_of (b ∷ s), sequence_of s)

pub sequences_sound : SequencesAreSound
unfolding Found
sequences_sound = (
  λ bytes e. let f = sequence_of bytes e in let is = sequence_bad bytes _ _ f.2 in (f.1, rw is.1 f.2, is.2),
  sequence_bad,
)

-- the first bad byte

-- that of two or more, by those after the first and after the second
abbrev bad_by : Bool → Option ℕ → Option ℕ → Option ℕ → Option ℕ → Option ℕ
bad_by skips x y p q = if skips then option_map (λ n. 1 + n) p else (if is_some x then (if is_some y then option_map (λ n. 2 + n) q else Some 1) else Some 0)

-- a place, if it is below a bound
abbrev below : ℕ → Option ℕ → Option ℕ
below m None = None
below m (Some n) = if nat_lt n m then Some n else None

below_further : (skips : Bool) (x y p q : Option ℕ) (m : ℕ) → bad_by skips x y (below (suc m) p) (below m q) ≡ below (suc (suc m)) (bad_by skips x y p q)
below_further skips x y p q m = grind arith

below_one : (skips : Bool) (x y p q : Option ℕ) → (if skips || is_some x then None else Some zero) ≡ below 1 (bad_by skips x y p q)
below_one skips x y p q = grind arith

bad-take : (m : ℕ) (bytes : List ℕ) → bad_of (take m bytes) ≡ below m (bad_of bytes)
unfolding bad_of
bad-take zero bytes = grind arith
bad-take (suc m) [] = refl
bad-take (suc zero) (a ∷ []) = grind arith
bad-take (suc (suc m)) (a ∷ []) = grind arith
bad-take (suc zero) (a ∷ b ∷ s) = below_one (is_blank a) (value_of a) (value_of b) _ _
bad-take (suc (suc m)) (a ∷ b ∷ s) = rw (bad-take (suc m) (b ∷ s), bad-take m s) (below_further (is_blank a) (value_of a) (value_of b) _ _ m)

image-take : (n : ℕ) (bytes : List ℕ) → bad_of bytes ≡ Some n → image_of (take n bytes) ≡ image_of bytes
unfolding bad_of image_of
image-take n [] e = cc
image-take n (a ∷ []) e = grind arith
image-take zero (a ∷ b ∷ s) e = grind arith
image-take (suc zero) (a ∷ b ∷ s) e = grind (arith, image-take 0 (b ∷ s))
image-take (suc (suc n)) (a ∷ b ∷ s) e = grind (arith, image-take (suc n) (b ∷ s), image-take n s)

pub bad_is_first : BadIsFirst
bad_is_first bytes n e =
    let all = bad-take (length bytes) bytes in
    let inside : n < length bytes = grind (arith, take-length bytes) in
    (inside, (λ m le. rw (bad-take, e) (grind arith)), rw (bad-take, e) (grind arith), image-take n bytes e)
