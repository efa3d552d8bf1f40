-- What is read from and flushed, and lists the calls of it.
use Rattle.std.specs.Prelude.{◌≡◌, ℕ, List, ◌∷◌, Result, Ok, Err, ⊤}
use Rattle.std.specs.declared.io.Error.{Error}

-- A call that succeeds is listed, the last first, and none fails.
abbrev pub Lists : {A : Type 0} → ℕ → List ℕ → Result A Error → List ℕ → Type 0
Lists call s (Ok x) t = t ≡ call ∷ s
Lists call s (Err e) t = ⊥

-- A read is listed as 1, a write as 2 and a flush as 3.
abbrev pub ListsRead : List ℕ → List ℕ → Result ℕ Error → List ℕ → Type 0
ListsRead s buffer answer t = Lists 1 s answer t

abbrev pub ListsWrite : List ℕ → List ℕ → Result ℕ Error → List ℕ → Type 0
ListsWrite s bytes answer t = Lists 2 s answer t

abbrev pub ListsFlush : List ℕ → Result ⊤ Error → List ℕ → Type 0
ListsFlush s answer t = Lists 3 s answer t
