-- A reader over a list that moves its place.
use Rattle.std.proofs.Common.{◌≡◌, ℕ, ◌+◌, ◌-◌, ◌≤◌, List, drop, sym, ap, ◌∙◌, arith}
use Rattle.std.proofs.lemmas.List.{drop-drop}
use Rattle.x86_arch.specs.Reader.{State, advanced}

-- the state at a place, with the mark at another
abbrev pub at : {I : Type 0} → List I → ℕ → ℕ → State I
at items place mark = record { left = drop place items; since_mark = place - mark; since_made = place }

pub at_moved : {I : Type 0} (items : List I) (place mark n : ℕ) → mark ≤ place → at items (place + n) mark ≡ advanced n (at items place mark)
at_moved items place mark n before =
    let count : place + n - mark ≡ place - mark + n = omega arith in
    ap (λ l. record { left = l; since_mark = place + n - mark; since_made = place + n }) (sym (drop-drop n place items))
    ∙ ap (λ k. record { left = drop n (drop place items); since_mark = k; since_made = place + n }) count
