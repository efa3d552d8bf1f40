use Rattle.std.proofs.Common.{◌≡◌, ◌+◌, ◌-◌, ◌<◌, ◌^◌, ◌%◌, ◌∷◌, [], ◌++◌, arith, length, take, sym, ap, ◌∙◌}
use Rattle.hex.specs.Hex.{encode_lower}
use Rattle.x86_streams.specs.Lines.Address.{address_of}
use Rattle.x86_streams.specs.Lines.Hexadecimal.{hexadecimal}
use Rattle.x86_streams.proofs.LineLemmas.Address.{two_digits, counts_on, last_byte, stays_below}
use Rattle.x86_streams.proofs.lines.address.AddressCounter.advance.Goals as goal

pub set_last_hex-requires : goal.set_last_hex-requires
set_last_hex-requires c =
    let h = c.self.invariant.1 (omega arith) in
    let n = address_of c.self.inside.base c.self.inside.place in
    let long = two_digits n c.args.by h.0 (omega (arith, h.1)) in
    omega (arith, long, ap length c.self.invariant.0)

pub invariant_of-self : goal.invariant_of-self
invariant_of-self c =
    let base = c.self.inside.base in
    let place = c.self.inside.place in
    let by = c.args.by in
    let n = address_of base place in
    let h = c.self.invariant.1 (omega arith) in
    let no_carry : by < 256 - n % 256 = omega (arith, h.1) in
    let low = last_byte n by h.0 no_carry in
    let next : address_of base (place + by) ≡ n + by = stays_below base place by no_carry in
    let number : 256 - (c.self.inside.spare - by) ≡ (n + by) % 256 = omega (arith, low, h.1) in
    let kept = ap (λ xs. take (length xs - 2) xs ++ encode_lower ((256 - (c.self.inside.spare - by)) ∷ [])) c.self.invariant.0 in
    let written = ap (λ k. take (length (hexadecimal n) - 2) (hexadecimal n) ++ encode_lower (k ∷ [])) number in
    let digits = c.set_last_hex.ensures ∙ kept ∙ written ∙ counts_on n by h.0 no_carry in (
      digits ∙ ap hexadecimal (sym next),
      λ more. (omega (arith, h.0, next), omega (arith, low, h.1, ap (λ a. a % 256) next)),
    )
