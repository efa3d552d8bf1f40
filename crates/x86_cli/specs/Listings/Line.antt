-- The ends of lines.
use Rattle.std.specs.Prelude.{ℕ, List, ◌++◌, codes}

-- a line with its end
abbrev pub line : List ℕ → List ℕ
line text = text ++ codes "\n"
