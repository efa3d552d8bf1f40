-- The decimal of a place that increases.
use Rattle.std.proofs.Common.{◌≡◌, ℕ, ◌+◌, ◌-◌, ◌/◌, ◌%◌, ◌<◌, ◌≤◌, ◌^◌, ◌++◌, List, length, take, decimal, sym, ap, ◌∙◌, arith}
use Rattle.std.proofs.Math.Seq.{take-append_seam}
use Rattle.itoa.proofs.Decimal.{pair, decimal_pair, length_pair}

-- where the last two digits alone change, the others stay
module _ (n by : ℕ) (large_before : 100 ≤ n) (no_carry : by < 100 - n % 100) (fits : n + by < 2 ^ 64) where
  large : 100 ≤ n + by
  large = omega arith

  same_hundreds : n / 100 ≡ (n + by) / 100
  same_hundreds = omega arith

  pub last_two : (n + by) % 100 ≡ n % 100 + by
  last_two = omega arith

  pub two_digits : 2 ≤ length (decimal n)
  two_digits = let e = length_pair n large_before (omega arith) in omega arith

  pub counts_on : take (length (decimal n) - 2) (decimal n) ++ pair ((n + by) % 100) ≡ decimal (n + by)
  counts_on =
      let beginning : List ℕ = decimal (n / 100) in
      let e = decimal_pair n large_before (omega arith) in
      let count : length (decimal n) - 2 ≡ length beginning = (let l = length_pair n large_before (omega arith) in omega arith) in
      let kept : take (length (decimal n) - 2) (decimal n) ≡ beginning = ap (λ k. take k (decimal n)) count ∙ ap (take (length beginning)) e
      ∙ take-append_seam beginning (pair (n % 100)) in
      ap (λ xs. xs ++ pair ((n + by) % 100)) (kept ∙ ap decimal same_hundreds) ∙ sym (decimal_pair (n + by) large fits)
