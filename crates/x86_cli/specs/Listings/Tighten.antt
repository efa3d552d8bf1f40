-- The line of the shortest encodings.
use Rattle.std.specs.Prelude.{ℕ, List, ◌++◌, codes, decimal}

-- PLACE LENGTH LEAST
unfoldable pub least_text : ℕ → ℕ → ℕ → List ℕ
least_text place length least = decimal place ++ codes " " ++ decimal length ++ codes " " ++ decimal least
