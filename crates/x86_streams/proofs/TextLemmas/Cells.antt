-- Cells, and the bytes that some of them hold.
use Rattle.std.proofs.Common.{◌≡◌, ℕ, ◌+◌, ◌-◌, ◌≤◌, List, [], ◌++◌, length, take, drop, ap, arith, ◌∙◌, length-take-le, length-drop}
use Rattle.std.proofs.Math.Seq.{take-add, take-append-le}
use Rattle.std.proofs.lemmas.List.{drop-take, take-take, take_at, drop_at}
use borrow.Rule.Slice.PartMut.{put_mid}
use Rattle.std.specs.List.{copy_within}

-- the bytes are at the beginning after they were moved there
pub moved : (cells : List ℕ) (start end : ℕ) → start ≤ end → end ≤ length cells →
    take (end - start) (copy_within cells start end 0) ≡ drop start (take end cells)
moved cells start end ordered inside =
    grind (
      arith,
      drop-take start (end - start) cells,
      length-drop start cells,
      length-take-le (end - start) (drop start cells),
      take-append-le (end - start) (take (end - start) (drop start cells)),
      take-take (end - start) (end - start) (drop start cells),
    )

-- the first of some values, put after others
pub put_after : (before values after items : List ℕ) (count n : ℕ) → length before ≡ count → before ≡ items → n ≤ length values →
    take (count + n) (before ++ (values ++ after)) ≡ items ++ take n values
put_after before values after items count n is same inside =
    take-add count n (before ++ (values ++ after))
    ∙ grind (arith, take_at before (values ++ after) count, drop_at before (values ++ after) count, take-append-le n values after)

-- after the bytes of a range, the first n of those that were read
pub read_after : (cells buffer unread : List ℕ) (at filled k n m : ℕ) → at ≤ filled → filled ≤ length cells → n ≤ length buffer → m ≡ filled - at + n →
    drop at (take filled cells) ≡ unread → take m (put_mid (filled - at) k (copy_within cells at filled 0) buffer) ≡ unread ++ take n buffer
read_after cells buffer unread at filled k n m ordered inside fits count is =
    let there = moved cells at filled ordered inside in
    let long : length (take (filled - at) (copy_within cells at filled 0)) ≡ filled - at =
    grind (arith, ap length there, length-drop at (take filled cells), length-take-le filled cells) in
    rw count (put_after (take (filled - at) (copy_within cells at filled 0)) buffer _ unread (filled - at) n long (there ∙ is) fits)

-- the same where nothing was read
pub read_none : (cells buffer unread : List ℕ) (at filled k m : ℕ) → at ≤ filled → filled ≤ length cells → m ≡ filled - at →
    drop at (take filled cells) ≡ unread → take m (put_mid (filled - at) k (copy_within cells at filled 0) buffer) ≡ unread ++ []
read_none cells buffer unread at filled k m ordered inside count is =
    read_after cells buffer unread at filled k 0 m ordered inside (omega arith) (omega arith) is
