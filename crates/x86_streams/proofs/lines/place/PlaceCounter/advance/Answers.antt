use Rattle.std.proofs.Common.{◌≡◌, ◌+◌, ◌-◌, ◌<◌, ◌^◌, ◌%◌, ◌++◌, arith, length, take, decimal, sym, ap, ◌∙◌}
use Rattle.std.proofs.lemmas.Fmt.{length-decimal-le}
use Rattle.itoa.proofs.Decimal.{pair}
use Rattle.x86_streams.proofs.LineLemmas.Place.{two_digits, counts_on, last_two}
use Rattle.x86_streams.proofs.lines.place.PlaceCounter.advance.Goals as goal

pub set_last_digits-requires : goal.set_last_digits-requires
set_last_digits-requires c =
    let n = c.self.inside.end - c.self.inside.spare in
    let fits : n + c.args.by < 2 ^ 64 = omega (arith, c.requires, c.self.view_is) in
    let h = c.self.invariant.1 (omega arith) in
    let long = two_digits n c.args.by h.0 (omega (arith, h.1)) fits in
    (omega arith, (omega (arith, h.1), omega (arith, long, ap length c.self.invariant.0)))

pub invariant_of-self : goal.invariant_of-self
invariant_of-self c =
    let spare = c.self.inside.spare in
    let n = c.self.inside.end - spare in
    let by = c.args.by in
    let fits : n + by < 2 ^ 64 = omega (arith, c.requires, c.self.view_is) in
    let h = c.self.invariant.1 (omega arith) in
    let no_carry : by < 100 - n % 100 = omega (arith, h.1) in
    let low = last_two n by h.0 no_carry fits in
    let next : c.self.inside.end - (spare - by) ≡ n + by = omega (arith, c.self.invariant.3) in
    let number : 100 - (spare - by) ≡ (n + by) % 100 = omega (arith, low, h.1) in
    let kept = ap (λ xs. take (length xs - 2) xs ++ pair (100 - (spare - by))) c.self.invariant.0 in
    let written = ap (λ k. take (length (decimal n) - 2) (decimal n) ++ pair k) number in
    let digits = c.set_last_digits.ensures ∙ kept ∙ written ∙ counts_on n by h.0 no_carry fits ∙ ap decimal (sym next) in (
      digits,
      λ more. (omega (arith, h.0, next), omega (arith, low, h.1, ap (λ k. k % 100) next)),
      omega (
        arith,
        ap length digits,
        ap (λ k. length (decimal k)) next,
        length-decimal-le 20 (n + by) (omega arith)
            (omega (arith, fits)) (omega (arith, fits)),
      ),
      omega (arith, c.self.invariant.3),
    )
