-- How long a text may be, in bytes.
use Rattle.std.specs.Prelude.{ℕ}

-- an operand
abbrev pub operand_text_width : ℕ
operand_text_width = 30

-- an instruction: a mnemonic of 16, four operands with a space or a comma and a space before each, and a memory size
-- of 5, as ` m255`
abbrev pub instruction_text_width : ℕ
instruction_text_width = 149

-- a line without its end: a place and a length of 20 digits each, with a space after each, and an instruction
abbrev pub line_width : ℕ
line_width = 191

-- a line with its end
abbrev pub line_room : ℕ
line_room = 192
