-- The bits of a REX, and its byte. Source: Intel SDM volume 2, section 2.2.1.
use Rattle.std.specs.Prelude.{ℕ, ◌+◌, ◌/◌, ◌%◌, Bool, false, ◌&&◌, ◌||◌, nat_lt, nat_le, ◌==◌, if◌then◌else◌, Option, Some, None}
use Rattle.x86_fields.specs.declared.rex.PrefixRex.{PrefixRex}

-- 40 to 4F
abbrev pub is_rex : ℕ → Bool
is_rex b = nat_le 0x40 b && nat_lt b 0x50

-- the bits of a REX
abbrev pub w : PrefixRex → Bool
w rex = rex.w

abbrev pub r : PrefixRex → Bool
r rex = rex.r

abbrev pub x : PrefixRex → Bool
x rex = rex.x

abbrev pub b : PrefixRex → Bool
b rex = rex.b

-- a bit of a live REX
abbrev pub live_bit : (PrefixRex → Bool) → Option PrefixRex → Bool
live_bit bit None = false
live_bit bit (Some r) = bit r

-- the bits of a REX: W is 8, R is 4, X is 2, B is 1
abbrev pub rex_bits : ℕ → PrefixRex
rex_bits b = record {
  w = (b / 8) % 2 == 1;
  r = (b / 4) % 2 == 1;
  x = (b / 2) % 2 == 1;
  b = b % 2 == 1;
}

abbrev pub rex_named : Option ℕ → Option PrefixRex
rex_named None = None
rex_named (Some b) = if is_rex b then Some (rex_bits b) else None

-- a byte that a live REX has, or 0 for none
abbrev pub is_rex_or_zero : ℕ → Bool
is_rex_or_zero b = is_rex b || (b == 0)

abbrev pub bit_value : Bool → ℕ → ℕ
bit_value set value = if set then value else 0

-- the byte of a live REX, and 0 for none
abbrev pub rex_byte : Option PrefixRex → ℕ
rex_byte None = 0
rex_byte (Some rex) = 0x40 + bit_value rex.w 8 + bit_value rex.r 4 + bit_value rex.x 2 + bit_value rex.b 1
