use Rattle.std.proofs.Common.{◌≡◌, ℕ, List, [], ◌∷◌, ◌++◌, map, get_or, refl, ap, ◌∙◌, arith}
use Rattle.std.specs.List.{range_with_len}
use Rattle.std.specs.Prelude.{codes}
use Rattle.std.proofs.lemmas.List.FromFn.{get_or-map-range_with_len}
use Rattle.hex.specs.Hex.{encode_lower, encode_with}
use Rattle.x86_streams.specs.declared.lines.digits.TheConstants.{HEX}
use Rattle.x86_streams.proofs.lines.digits.hex_of.Goals as goal

abbrev digits : ℕ → List ℕ
digits byte = encode_lower (byte ∷ []) ++ codes "  "

table_is : HEX ≡ map digits (range_with_len 0 256)
unfolding encode_with
table_is = refl

pub returns : goal.returns
returns c = ap (λ (t : List (List ℕ)). get_or t c.args.byte []) table_is
    ∙ get_or-map-range_with_len digits 0 256 c.args.byte c.args.byte [] (omega (arith, c.ranges.byte.fits)) (omega arith)
