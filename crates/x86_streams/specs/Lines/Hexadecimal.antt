-- Numbers in hexadecimal, and bytes as pairs of digits.
use Rattle.std.specs.Prelude.{ℕ, List, [], ◌∷◌, ◌++◌, ◌/◌, ◌%◌, ◌==◌, if◌then◌else◌, map, slice_index, codes}
use Rattle.std.specs.Int.Digits.{digits_of}
use Rattle.std.specs.List.{flat_map}
use Rattle.hex.specs.Hex.{lower_digits, encode_lower}

-- a number in lower case, without leading zeros
unfoldable pub hexadecimal : ℕ → List ℕ
hexadecimal n = if n == 0 then codes "0" else map (slice_index lower_digits) (digits_of 16 n)

-- the two digits of a byte
abbrev pub pair : ℕ → List ℕ
pair byte = encode_lower (byte ∷ [])

-- the eight digits of a number of four bytes
abbrev pub eight_digits : ℕ → List ℕ
eight_digits n = pair (n / 16777216) ++ pair (n / 65536 % 256) ++ pair (n / 256 % 256) ++ pair (n % 256)

-- after 0x
abbrev pub prefixed : ℕ → List ℕ
prefixed n = codes "0x" ++ hexadecimal n

-- a byte as two digits, and a space
abbrev pub spaced_byte : ℕ → List ℕ
spaced_byte byte = pair byte ++ codes " "

-- bytes as pairs of digits, with a space after each
abbrev pub spaced_bytes : List ℕ → List ℕ
spaced_bytes bytes = flat_map spaced_byte bytes
