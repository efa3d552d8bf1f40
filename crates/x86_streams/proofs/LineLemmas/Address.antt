-- The digits of an address that increases.
use Rattle.std.proofs.Common.{◌≡◌, ℕ, ◌+◌, ◌-◌, ◌/◌, ◌%◌, ◌<◌, ◌≤◌, ◌++◌, List, [], ◌∷◌, length, take, refl, sym, ap, ◌∙◌, arith, length-append}
use Rattle.std.proofs.Math.Seq.{take-append_seam}
use Rattle.hex.specs.Hex.{encode_lower, encode_with}
use Rattle.x86_streams.specs.Lines.Address.{address_of}
use Rattle.x86_streams.specs.Lines.Hexadecimal.{hexadecimal}
use Rattle.x86_streams.proofs.LineLemmas.Hexadecimal.{last_two}

length_pair : (byte : ℕ) → length (encode_lower (byte ∷ [])) ≡ 2
unfolding encode_with
length_pair byte = refl

-- where the last two digits alone change, the others stay
module _ (n by : ℕ) (large : 256 ≤ n) (no_carry : by < 256 - n % 256) where
  abbrev front : List ℕ
  front = hexadecimal (n / 256)

  pub last_byte : (n + by) % 256 ≡ n % 256 + by
  last_byte = omega arith

  same_front : n / 256 ≡ (n + by) / 256
  same_front = omega arith

  long : length (hexadecimal n) ≡ length front + 2
  long = ap length (last_two n large) ∙ length-append front (encode_lower (n % 256 ∷ [])) ∙ ap (λ k. length front + k) (length_pair (n % 256))

  pub two_digits : 2 ≤ length (hexadecimal n)
  two_digits = omega (arith, long)

  pub counts_on : take (length (hexadecimal n) - 2) (hexadecimal n) ++ encode_lower ((n + by) % 256 ∷ []) ≡ hexadecimal (n + by)
  counts_on =
      let count : length (hexadecimal n) - 2 ≡ length front = omega (arith, long) in
      let kept : take (length (hexadecimal n) - 2) (hexadecimal n) ≡ front = ap (λ k. take k (hexadecimal n)) count
      ∙ ap (take (length front)) (last_two n large) ∙ take-append_seam front (encode_lower (n % 256 ∷ [])) in
      ap (λ xs. xs ++ encode_lower ((n + by) % 256 ∷ [])) (kept ∙ ap hexadecimal same_front) ∙ sym (last_two (n + by) (omega (arith, large)))

-- so the address doesn't begin again at 0
pub stays_below : (base place by : ℕ) → by < 256 - address_of base place % 256 → address_of base (place + by) ≡ address_of base place + by
stays_below base place by no_carry = omega (arith, no_carry)
