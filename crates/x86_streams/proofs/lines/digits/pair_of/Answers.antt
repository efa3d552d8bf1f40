use Rattle.std.proofs.Common.{◌≡◌, ℕ, List, [], map, get_or, refl, ap, ◌∙◌, arith}
use Rattle.std.specs.List.{range_with_len}
use Rattle.std.proofs.lemmas.List.FromFn.{get_or-map-range_with_len}
use Rattle.itoa.proofs.Decimal.{pair}
use Rattle.x86_streams.specs.declared.lines.digits.TheConstants.{PAIRS}
use Rattle.x86_streams.proofs.lines.digits.pair_of.Goals as goal

table_is : PAIRS ≡ map pair (range_with_len 0 100)
table_is = refl

pub returns : goal.returns
returns c = ap (λ (t : List (List ℕ)). get_or t c.args.n []) table_is ∙ get_or-map-range_with_len pair 0 100 c.args.n c.args.n [] c.requires (omega arith)
