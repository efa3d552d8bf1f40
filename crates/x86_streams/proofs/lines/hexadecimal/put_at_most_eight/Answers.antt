use Rattle.std.proofs.Common.{◌+◌, ◌++◌, take, ap, ◌∙◌, arith}
use Rattle.std.proofs.lemmas.List.{length-take-le}
use Rattle.x86_streams.proofs.LineLemmas.Hexadecimal.{beginning, first_of_eight}
use Rattle.x86_streams.specs.Lines.Hexadecimal.{hexadecimal}
use Rattle.x86_streams.proofs.lines.hexadecimal.put_at_most_eight.Goals as goal

pub returns-clause-text : goal.returns-clause-text
returns-clause-text c =
    let last = c.digits_after_first-last in
    let is = first_of_eight c.args.n last.result last.ensures.few last.ensures.most last.ensures.least in
    let before = take c.args.at c.args.cells.now in
    beginning c.put_eight.new.cells before (hexadecimal c.args.n) is.0 (c.args.at + last.result + 1) c.put_eight.result
    (c.put_eight.ensures.text ∙ ap (λ xs. before ++ xs) is.1)
    (omega (arith, is.2, length-take-le c.args.at c.args.cells.now (omega (arith, c.requires)))) (omega (arith, c.put_eight.ensures.place, last.ensures.few))
