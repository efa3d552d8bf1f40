-- The memory size that no encoding names.
use Rattle.std.specs.Prelude.{ℕ}

-- the memory size where the processor decides it
abbrev pub undecided_size : ℕ
undecided_size = 63
