-- The digits of numbers in hexadecimal.
use Rattle.std.proofs.Common.{◌⊎◌, inl, inr, eq-zero-or-pos, mod-eq_of_lt, zero-mul, pow_mono, lt_of_not-le, ◌-◌, ◌*◌, max, subst}
use Rattle.std.proofs.Common.{append-nil, le_trans, le-mul_of_pos_right, mul_assoc, mul-le-mul_right, pow-add, pow_pos, shl_lt, ◌≡◌, ℕ}
use Rattle.std.proofs.Common.{zero, suc, ◌+◌, ◌/◌, ◌%◌, ◌^◌, ◌<◌, ◌≤◌, List, [], ◌∷◌, ◌++◌, length, map, slice_index, take, refl, sym, ap}
use Rattle.std.proofs.Common.{◌∙◌, arith, length-append, append_assoc}
use Rattle.std.specs.Int.Digits.{digits_of}
use Rattle.std.proofs.lemmas.Int.Digits.{digits_of_step}
use Rattle.std.proofs.lemmas.List.{map_push, take-take, take_at}
use Rattle.std.proofs.lemmas.Grind.{common_steps}
use Rattle.std.specs.Prelude.{replicate}
use Rattle.hex.specs.Hex.{lower_digits, encode_lower, encode_with}
use Rattle.x86_streams.specs.Lines.Hexadecimal.{hexadecimal, eight_digits}

abbrev glyphs : List ℕ → List ℕ
glyphs digits = map (slice_index lower_digits) digits

some : (n : ℕ) → 0 < n → hexadecimal n ≡ glyphs (digits_of 16 n)
unfolding hexadecimal
some n h = grind (arith, common_steps)

-- a digit more
step : (n : ℕ) → 16 ≤ n → hexadecimal n ≡ hexadecimal (n / 16) ++ slice_index lower_digits (n % 16) ∷ []
step n h =
    some n (omega arith) ∙ ap glyphs (digits_of_step 16 n (omega arith) (omega arith)) ∙ map_push (slice_index lower_digits) (digits_of 16 (n / 16)) (n % 16)
    ∙ ap (λ xs. xs ++ slice_index lower_digits (n % 16) ∷ []) (sym (some (n / 16) (omega arith)))

pub one_digit : (n : ℕ) → n < 16 → hexadecimal n ≡ slice_index lower_digits n ∷ []
unfolding hexadecimal
one_digit zero small = refl
one_digit (suc m) small =
    let front : suc m / 16 ≡ 0 = omega arith in
    let last : suc m % 16 ≡ suc m = omega arith in
    some (suc m) (omega arith) ∙ ap glyphs (digits_of_step 16 (suc m) (omega arith) (omega arith)) ∙ (λ i. glyphs (digits_of 16 (front i) ++ last i ∷ []))

pub two_digits : (n : ℕ) → 16 ≤ n → n < 256 → hexadecimal n ≡ encode_lower (n ∷ [])
unfolding encode_with
two_digits n large small = step n large ∙ ap (λ xs. xs ++ slice_index lower_digits (n % 16) ∷ []) (one_digit (n / 16) (omega arith))

pub last_two : (n : ℕ) → 256 ≤ n → hexadecimal n ≡ hexadecimal (n / 256) ++ encode_lower (n % 256 ∷ [])
unfolding encode_with
last_two n large =
    let front : n / 16 / 16 ≡ n / 256 = omega arith in
    let high : n / 16 % 16 ≡ n % 256 / 16 = omega arith in
    let low : n % 16 ≡ n % 256 % 16 = omega arith in
    step n (omega arith) ∙ ap (λ xs. xs ++ slice_index lower_digits (n % 16) ∷ []) (step (n / 16) (omega arith))
    ∙ append_assoc (hexadecimal (n / 16 / 16)) (slice_index lower_digits (n / 16 % 16) ∷ []) (slice_index lower_digits (n % 16) ∷ [])
    ∙ (λ i. hexadecimal (front i) ++ slice_index lower_digits (high i) ∷ slice_index lower_digits (low i) ∷ [])

-- the beginning of a text
pub beginning : (cells before text more : List ℕ) (at end : ℕ) → take end cells ≡ before ++ (text ++ more) →
    at ≡ length before + length text → at ≤ end → take at cells ≡ before ++ text
beginning cells before text more at end whole here within =
    sym (take-take at end cells within) ∙ ap (take at) (whole ∙ sym (append_assoc before text more))
    ∙ take_at (before ++ text) more at (length-append before text ∙ sym here)

-- the eight digits of a number that has as many
eight : (n : ℕ) → 268435456 ≤ n → n < 4294967296 → hexadecimal n ≡ eight_digits n
unfolding encode_with
eight n large small =
    let third : n / 256 / 256 ≡ n / 65536 = omega arith in
    let fourth : n / 256 / 256 / 256 ≡ n / 16777216 = omega arith in
    last_two n (omega arith) ∙ ap (λ xs. xs ++ encode_lower (n % 256 ∷ [])) (
    last_two (n / 256) (omega arith) ∙ ap (λ xs. xs ++ encode_lower (n / 256 % 256 ∷ [])) (
    last_two (n / 256 / 256) (omega arith) ∙ ap (λ xs. xs ++ encode_lower (n / 256 / 256 % 256 ∷ []))
    (two_digits (n / 256 / 256 / 256) (omega arith) (omega arith))
    ))
    ∙ (λ i. encode_lower (fourth i ∷ third i % 256 ∷ n / 256 % 256 ∷ n % 256 ∷ []))

length_eight : (n : ℕ) → length (eight_digits n) ≡ 8
unfolding encode_with
length_eight n = refl

all_zeros : eight_digits 0 ≡ hexadecimal 0 ++ replicate 7 48
unfolding hexadecimal encode_with
all_zeros = refl

-- a number that is moved by some digits has these, and then others
shifted : (k n : ℕ) → 0 < n → (more : List ℕ) × (hexadecimal (n * 2 ^ (4 * k)) ≡ hexadecimal n ++ more) × (length more ≡ k)
shifted zero n some = ([], ap hexadecimal (omega arith) ∙ sym (append-nil (hexadecimal n)), refl)
shifted (suc k) n some =
    let before = shifted k n some in
    let m = n * 2 ^ (4 * k) in
    let grown : n * 2 ^ (4 * suc k) ≡ m * 16 =
    ap (λ j. n * 2 ^ j) (omega arith) ∙ ap (λ p. n * p) (pow-add 2 (4 * k) 4) ∙ sym (mul_assoc n (2 ^ (4 * k)) 16) in
    let positive : 1 ≤ m = le_trans some (le-mul_of_pos_right n (pow_pos (4 * k))) in
    let front : m * 16 / 16 ≡ m = omega arith in
    let last = slice_index lower_digits (m * 16 % 16) in (
      before.0 ++ last ∷ [],
      ap hexadecimal grown ∙ step (m * 16) (omega arith) ∙ ap (λ x. hexadecimal x ++ last ∷ []) front ∙ ap (λ xs. xs ++ last ∷ []) before.1
          ∙ append_assoc (hexadecimal n) before.0 (last ∷ []),
      length-append before.0 (last ∷ []) ∙ omega (arith, before.2),
    )

module _ (n last : ℕ) (few : last ≤ 7) (most : n < 2 ^ (4 * last + 4)) (least : 2 ^ (4 * last) ≤ max n 1) where
  fits : n * 2 ^ (28 - 4 * last) < 4294967296
  fits = subst (λ (e : ℕ). n * 2 ^ (28 - 4 * last) < 2 ^ e) {y = 32} (omega (arith, few)) (shl_lt (4 * last + 4) (28 - 4 * last) most)

  large : 0 < n → 268435456 ≤ n * 2 ^ (28 - 4 * last)
  large some =
      let below : 2 ^ (4 * last) ≤ n = omega arith in
      let whole : 2 ^ 28 ≡ 2 ^ (4 * last) * 2 ^ (28 - 4 * last) =
      ap (λ (e : ℕ). 2 ^ e) {x = 28} {y = 4 * last + (28 - 4 * last)} (omega arith) ∙ pow-add 2 (4 * last) (28 - 4 * last) in
      omega (arith, whole, mul-le-mul_right (2 ^ (28 - 4 * last)) below)

  -- of the eight digits of a number that is moved to the front the first are its own
  abbrev pub AreFirst : Type 0
  AreFirst = (more : List ℕ) × (eight_digits (n * 2 ^ (28 - 4 * last) % 2 ^ 32) ≡ hexadecimal n ++ more) × (length (hexadecimal n) ≡ last + 1)

  of_zero : n ≡ 0 → AreFirst
  of_zero z =
      let more = replicate 7 48 in
      let none : last < 1 = lt_of_not-le (λ (some : 1 ≤ last). let p : 2 ^ 4 ≤ 2 ^ (4 * last) =
      pow_mono {i = 4} {j = 4 * last} (omega (arith, some)) in omega (arith, p, least, z)) in
      let stays : n * 2 ^ (28 - 4 * last) ≡ 0 = ap (λ x. x * 2 ^ (28 - 4 * last)) z ∙ zero-mul (2 ^ (28 - 4 * last)) in
      let all : eight_digits 0 ≡ hexadecimal 0 ++ more = all_zeros in (
        more,
        ap (λ x. eight_digits (x % 2 ^ 32)) stays ∙ all ∙ ap (λ x. hexadecimal x ++ more) (sym z),
        ap (λ x. length (hexadecimal x)) z
            ∙ ap length (one_digit 0 (omega arith)) ∙ omega (arith, none),
      )

  of_some : 0 < n → AreFirst
  of_some some =
      let k = 7 - last in
      let moved = shifted k n some in
      let m = n * 2 ^ (28 - 4 * last) in
      let same : m ≡ n * 2 ^ (4 * k) = ap (λ e. n * 2 ^ e) (omega (arith, few)) in
      let digits : hexadecimal m ≡ hexadecimal n ++ moved.0 = ap hexadecimal same ∙ moved.1 in
      let eight_is : hexadecimal m ≡ eight_digits m = eight m (large some) fits in
      let long : 8 ≡ length (hexadecimal n) + length moved.0 = sym (ap length eight_is ∙ length_eight m) ∙ ap length digits
      ∙ length-append (hexadecimal n) moved.0 in
      (moved.0, ap eight_digits (mod-eq_of_lt fits) ∙ sym eight_is ∙ digits, omega (arith, long, moved.2, few))

  first_by : (n ≡ 0) ⊎ (0 < n) → AreFirst
  first_by (inl z) = of_zero z
  first_by (inr some) = of_some some

  pub first_of_eight : AreFirst
  first_of_eight = first_by (eq-zero-or-pos n)

-- more digits than eight: the last eight after the others
pub more_than_eight : (n : ℕ) → 2 ^ 32 ≤ n → hexadecimal n ≡ hexadecimal (n / 4294967296) ++ eight_digits (n % 4294967296)
unfolding encode_with
more_than_eight n large =
    let high : n / 256 / 256 / 256 / 256 ≡ n / 4294967296 = omega arith in
    let first : n / 256 / 256 / 256 % 256 ≡ n % 4294967296 / 16777216 = omega arith in
    let second : n / 256 / 256 % 256 ≡ n % 4294967296 / 65536 % 256 = omega arith in
    let third : n / 256 % 256 ≡ n % 4294967296 / 256 % 256 = omega arith in
    let fourth : n % 256 ≡ n % 4294967296 % 256 = omega arith in
    let h = hexadecimal (n / 256 / 256 / 256 / 256) in
    last_two n (omega arith) ∙ ap (λ xs. xs ++ encode_lower (n % 256 ∷ [])) (
    last_two (n / 256) (omega arith) ∙ ap (λ xs. xs ++ encode_lower (n / 256 % 256 ∷ [])) (
    last_two (n / 256 / 256) (omega arith) ∙ ap (λ xs. xs ++ encode_lower (n / 256 / 256 % 256 ∷ [])) (last_two (n / 256 / 256 / 256) (omega arith))
    ∙ append_assoc h (encode_lower (n / 256 / 256 / 256 % 256 ∷ [])) (encode_lower (n / 256 / 256 % 256 ∷ []))
    )
    ∙ append_assoc h (encode_lower (n / 256 / 256 / 256 % 256 ∷ n / 256 / 256 % 256 ∷ [])) (encode_lower (n / 256 % 256 ∷ []))
    )
    ∙ append_assoc h (encode_lower (n / 256 / 256 / 256 % 256 ∷ n / 256 / 256 % 256 ∷ n / 256 % 256 ∷ [])) (encode_lower (n % 256 ∷ []))
    ∙ (λ i. hexadecimal (high i) ++ encode_lower (first i ∷ second i ∷ third i ∷ fourth i ∷ []))
