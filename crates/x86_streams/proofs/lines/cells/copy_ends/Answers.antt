use Rattle.std.proofs.Common.{◌≡◌, ℕ, ◌-◌, ◌*◌, ◌≤◌, List, ◌++◌, length, take, drop, sym, ap, ◌∙◌, arith, length-drop, length-take-le}
use Rattle.std.proofs.Common.{take-take, take_all, take-append-drop}
use Rattle.std.proofs.lemmas.Simd.{take_more_put_chunk, length-put_chunk}
use Rattle.std.specs.Simd.Lanes.{put_chunk}
use Rattle.x86_streams.proofs.lines.cells.copy_ends.Goals as goal

-- the first and the last m items, laid over each other, are all
laid : (to from : List ℕ) (m : ℕ) → length to ≡ length from → m ≤ length from → length from ≤ 2 * m →
    put_chunk (length from - m) (put_chunk 0 to (take m from)) (take m (drop (length from - m) from)) ≡ from
laid to from m same least most =
    let k : ℕ = length from - m in
    let first : List ℕ = put_chunk 0 to (take m from) in
    let last : List ℕ = take m (drop k from) in
    let long : length first ≡ length from = length-put_chunk 0 to (take m from) ∙ same in
    let size : length last ≡ m = length-take-le m (drop k from) (omega (arith, length-drop k from)) in
    let beginning : take m first ≡ take m from = take_more_put_chunk 0 to (take m from) m (omega (arith, length-take-le m from least)) (omega arith) in
    let kept : take k first ≡ take k from = sym (take-take k m first (omega arith)) ∙ ap (take k) beginning ∙ take-take k m from (omega arith) in
    sym (take_all (length from) (put_chunk k first last) (omega (arith, length-put_chunk k first last, long)))
    ∙ take_more_put_chunk k first last (length from) (omega arith) (omega (arith, long))
    ∙ ap (λ xs. xs ++ last) kept
    ∙ ap (λ xs. take k from ++ xs) (take_all m (drop k from) (omega (arith, length-drop k from)))
    ∙ take-append-drop k from

pub returns : goal.returns
returns g c = laid c.args.to.now c.args.from.now g.row.M c.requires.same c.requires.least c.requires.most
