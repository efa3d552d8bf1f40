use Rattle.std.proofs.Common.{◌≡◌, ◌%◌, ◌++◌, ◌∷◌, [], slice_index, take, sym, ap, ◌∙◌, arith}
use Rattle.hex.specs.Hex.{lower_digits, encode_with}
use Rattle.x86_streams.proofs.LineLemmas.Hexadecimal.{one_digit, two_digits}
use Rattle.x86_streams.proofs.lines.hexadecimal.put_at_most_two.Goals as goal

pub returns-then-byte-lt16-clause-text : goal.returns-then-byte-lt16-clause-text
unfolding encode_with
returns-then-byte-lt16-clause-text c =
    let before = take c.args.at c.args.cells.now in
    let whole : c.args.byte % 16 ≡ c.args.byte = omega (arith, c.if-byte-lt16.true) in
    (rw c.hex_of.ensures at c.put.ensures.text) ∙ ap (λ d. before ++ slice_index lower_digits d ∷ []) whole
    ∙ ap (λ xs. before ++ xs) (sym (one_digit c.args.byte c.if-byte-lt16.true))

pub returns-else-byte-lt16-clause-text : goal.returns-else-byte-lt16-clause-text
returns-else-byte-lt16-clause-text c =
    c.put_hex_pair.ensures.text
    ∙ ap (λ xs. take c.args.at c.args.cells.now ++ xs) (sym (two_digits c.args.byte c.if-byte-lt16.false (omega (arith, c.ranges.byte.fits))))
