-- Names as blocks with a length.
use Rattle.std.specs.Prelude.{ℕ, List, Bool, take, nat_le}
use Rattle.std.specs.List.{list_all}
use Rattle.x86_text.specs.declared.names.Name.{Name}

-- the text of a name
abbrev pub name_text : {m : ℕ} → Name m → List ℕ
name_text n = take n.len n.bytes

-- no name is longer
abbrev pub are_short : {m : ℕ} → ℕ → List (Name m) → Bool
are_short max names = list_all (λ n. nat_le n.len max) names
