use Rattle.std.proofs.Common.{ℕ, List, ◌++◌, take, ap, ◌∙◌}
use Rattle.hex.specs.Hex.{encode_with}
use Rattle.x86_streams.proofs.lines.hexadecimal.put_spaced_byte.Goals as goal

pub returns-clause-text : goal.returns-clause-text
unfolding encode_with
returns-clause-text c =
    let before : List ℕ = take c.args.at c.args.cells.now in
    c.put_first.ensures.text ∙ ap (λ (xs : List ℕ). before ++ take 3 xs) c.hex_of.ensures
