use Rattle.std.proofs.Common.{◌≡◌, ℕ, ◌+◌, ◌≤◌, List, ◌++◌, length, take, sym, ap, ◌∙◌, arith, length-take-le, take-take}
use Rattle.std.proofs.Math.Seq.{take-append-add}
use Rattle.std.proofs.lemmas.Simd.{take_more_put_chunk}
use Rattle.std.specs.Simd.Lanes.{put_chunk}
use Rattle.x86_streams.proofs.lines.cells.put_first.Goals as goal

-- of a block that is laid at a place, the first n items
laid : (d b : List ℕ) (at m n : ℕ) → m ≤ length b → at + m ≤ length d → n ≤ m → take (at + n) (put_chunk at d (take m b)) ≡ take at d ++ take n b
laid d b at m n whole room few =
    let size : length (take m b) ≡ m = length-take-le m b whole in
    let before : length (take at d) ≡ at = length-take-le at d (omega arith) in
    sym (take-take (at + n) (at + m) (put_chunk at d (take m b)) (omega arith))
    ∙ ap (take (at + n)) (take_more_put_chunk at d (take m b) (at + m) (omega arith) room)
    ∙ ap (λ k. take (k + n) (take at d ++ take m b)) (sym before)
    ∙ take-append-add (take at d) (take m b) n
    ∙ ap (λ xs. take at d ++ xs) (take-take n m b few)

pub returns-clause-text : goal.returns-clause-text
returns-clause-text g c = laid c.args.cells.now c.args.block.now c.args.at g.row.M c.args.count (omega (arith, c.told-block))
    (omega (arith, c.requires.room)) c.requires.count
