use Rattle.std.proofs.Common.{◌≡◌, ◌==◌, false, true, List, ℕ, [], ◌∷◌, length, arith, sym}
use Rattle.x86_streams.proofs.OutsideLemmas.Calls.{sends_all}
use Rattle.x86_streams.proofs.outside.gathered.Gathered.send_all.Goals as goal

none : (bytes items : List ℕ) → true ≡ (length bytes == 0) → bytes ≡ items → items ≡ []
none [] items test same = sym same
none (x ∷ xs) items test same = grind arith

not_empty : (bytes items : List ℕ) → false ≡ (length bytes == 0) → bytes ≡ items → items ≡ [] → ⊥
not_empty bytes items test same empty = grind arith

pub returns-then-is_empty : goal.returns-then-is_empty
returns-then-is_empty g c = rw (none _ _ c.if-is_empty.ensures c.as_slice.ensures) c.flush_out.ensures

pub returns : goal.returns
returns g c =
    let sent = c.in_ok-send.ensures in
    let some = not_empty _ _ c.if-is_empty.ensures c.as_slice.ensures in
    rw sent.empty (sends_all _ _ c.flush_out-2.result _ _ _ _ (rw sent.empty at sent.sends) some c.flush_out-2.ensures)
