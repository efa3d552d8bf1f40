use Rattle.std.proofs.Common.{◌/◌, ◌%◌, ◌++◌, take, sym, ap, ◌∙◌, append_assoc}
use Rattle.x86_streams.specs.Lines.Hexadecimal.{hexadecimal, eight_digits}
use Rattle.x86_streams.proofs.LineLemmas.Hexadecimal.{more_than_eight}
use Rattle.x86_streams.proofs.lines.hexadecimal.put_more_than_eight.Goals as goal

pub returns-clause-text : goal.returns-clause-text
returns-clause-text c =
    let before = take c.args.at c.args.cells.now in
    let n = c.args.n in
    c.put_eight.ensures.text ∙ ap (λ xs. xs ++ eight_digits (n % 4294967296)) c.put_at_most_eight-at.ensures.text
    ∙ append_assoc before (hexadecimal (n / 4294967296)) (eight_digits (n % 4294967296)) ∙ ap (λ xs. before ++ xs) (sym (more_than_eight n c.requires.many))
