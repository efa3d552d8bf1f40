use Rattle.std.proofs.Common.{◌≡◌, ℕ, List, [], ◌++◌, map, take, get_or, codes, decimal, refl, sym, ap, ◌∙◌, arith}
use Rattle.std.specs.Fmt.{digits}
use Rattle.std.specs.List.{range_with_len}
use Rattle.std.proofs.lemmas.List.{get_or-map}
use Rattle.std.proofs.lemmas.List.FromFn.{get_or-map-range_with_len}
use Rattle.x86_text.specs.declared.instructions.TheConstants.{LENGTHS}
use Rattle.x86_text.proofs.instructions.length_of_one_digit.Goals as goal

abbrev between : ℕ → List ℕ
between n = codes " " ++ decimal n ++ codes " "

table_is : map (take 3) LENGTHS ≡ map between (range_with_len 0 10)
unfolding digits
table_is = refl

pub returns : goal.returns
returns c =
    let n = c.args.n in
    sym (get_or-map (take 3) LENGTHS n [] [] (omega (arith, c.requires))) ∙ ap (λ (ts : List (List ℕ)). get_or ts n []) table_is
    ∙ get_or-map-range_with_len between 0 10 n n [] c.requires (omega arith)
