-- What the text is at its first bytes.
use Rattle.std.proofs.Common.{◌≡◌, ℕ, suc, ◌+◌, ◌*◌, List, [], ◌∷◌, arith, Option, Some, None, true, false, Bool, ◌++◌, ap, sym, append_assoc}
use Rattle.std.proofs.lemmas.Grind.{common_steps}
use Rattle.std.specs.Option.{option_map}
use Rattle.x86_streams.specs.Outside.Stop.{Stop}
use Rattle.x86_streams.specs.Text.{Text, is_blank, value_of, image_of, bad_of, ends_in_half, ending_by, text_at}
use Rattle.x86_streams.specs.Text.Beginning.{IsOpenText}
use Rattle.x86_streams.specs.Text.Reading.{with_bytes}

pub with_bytes-with_bytes : (a b : List ℕ) (t : Text) → with_bytes a (with_bytes b t) ≡ with_bytes (a ++ b) t
with_bytes-with_bytes a b t = ap (λ i. record { image = i; ending = t.ending }) (sym (append_assoc a b t.image))

-- nothing, or half a pair

pub open-none : (r : ℕ) → IsOpenText [] r
unfolding text_at image_of bad_of ends_in_half
open-none r = record { few = grind arith; fits = grind arith; failed = λ p. grind arith; ends = λ p. grind arith }

pub open-half : (r x v : ℕ) → is_blank x ≡ false → value_of x ≡ Some v → IsOpenText (x ∷ []) (suc r)
unfolding text_at image_of bad_of ends_in_half
open-half r x v e d = record { few = grind arith; fits = grind arith; failed = λ p. grind (arith, common_steps); ends = λ p. grind (arith, common_steps) }

-- a blank isn't a digit
pub value-blank : (x : ℕ) → is_blank x ≡ true → value_of x ≡ None
unfolding value_of
value-blank x e = grind (arith, common_steps)

-- what follows a blank, and what follows a pair

pub of-blank : (x : ℕ) (s : List ℕ) → is_blank x ≡ true →
    (image_of (x ∷ s) ≡ image_of s) × (bad_of (x ∷ s) ≡ option_map (λ n. 1 + n) (bad_of s)) × (ends_in_half (x ∷ s) ≡ ends_in_half s)
unfolding image_of bad_of ends_in_half
of-blank x s e = grind (arith, value-blank)

ending-after : (p k : ℕ) (o : Option ℕ) (more : List ℕ) (half : Bool) (len : ℕ) (stop : Stop) →
    ending_by p (option_map (λ n. k + n) o) more half (k + len) stop ≡ ending_by (p + k) o more half len stop
ending-after p k o more half len stop = grind (arith, common_steps)

pub text-blank : (p r x : ℕ) (xs : List ℕ) (stop : Stop) → is_blank x ≡ true → text_at p (suc r) (x ∷ xs) stop ≡ text_at (p + 1) r xs stop
unfolding text_at
text-blank p r x xs stop e = grind (arith, of-blank, ending-after p 1)

pub text-pair : (p r x y v w : ℕ) (xs : List ℕ) (stop : Stop) → is_blank x ≡ false → value_of x ≡ Some v → value_of y ≡ Some w →
    text_at p (suc (suc r)) (x ∷ y ∷ xs) stop ≡ with_bytes ((16 * v + w) ∷ []) (text_at (p + 2) r xs stop)
unfolding text_at image_of bad_of ends_in_half
text-pair p r x y v w xs stop e d f = grind (arith, ending-after p 2)
