use Rattle.std.proofs.Common.{◌≡◌, ℕ, List, [], ◌++◌, map, codes, refl, ◌∙◌, arith}
use Rattle.std.specs.Fmt.{digits}
use Rattle.std.specs.List.{range_with_len}
use Rattle.std.proofs.lemmas.List.FromFn.{get_or-map-range_with_len}
use Rattle.x86_text.specs.Names.{name_text}
use Rattle.x86_text.specs.Lines.{size_text}
use Rattle.x86_text.specs.declared.sizes.TheConstants.{SIZES}
use Rattle.x86_text.proofs.NameLemmas.{named, short}
use Rattle.x86_text.proofs.names.size_name.Goals as goal

abbrev sized : ℕ → List ℕ
sized size = codes " m" ++ size_text size

table_is : map name_text SIZES ≡ map sized (range_with_len 0 65)
unfolding digits
table_is = refl

pub returns-then-size-lt65-clause-text : goal.returns-then-size-lt65-clause-text
returns-then-size-lt65-clause-text c =
    named SIZES c.args.size (omega arith) (map sized (range_with_len 0 65)) table_is
    ∙ get_or-map-range_with_len sized 0 65 c.args.size c.args.size [] (omega arith) (omega arith)

pub returns-then-size-lt65-clause-short : goal.returns-then-size-lt65-clause-short
returns-then-size-lt65-clause-short c = short SIZES c.args.size (omega arith) 4 refl
