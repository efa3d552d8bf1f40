-- The text of immediates: numbers without a sign, of the bytes that the instruction reads.
use Rattle.std.specs.Prelude.{ℕ, ◌%◌, ◌^◌, ◌==◌, ◌&&◌, ◌||◌, Bool, if◌then◌else◌, List, [], ◌∷◌, codes}
use Rattle.std.specs.Int.{w64, cast_unsigned}
use Rattle.x86_opcodes.specs.Kinds.{is_among}
use Rattle.x86_fields.specs.Raw.{has_w}
use Rattle.x86_streams.specs.Lines.Hexadecimal.{prefixed}
use Rattle.x86_objdump.specs.declared.text.context.Context.{Context}
use Rattle.x86_objdump.specs.Text.Context.{is_map_one, is_one, has_two_bytes}
use Rattle.x86_objdump.specs.Text.Numbers.{plain_number, signed_of}

-- sign-extended to 64 bits
abbrev pub extended : List ℕ → ℕ
extended bytes = cast_unsigned w64 (signed_of bytes)

-- a byte that is extended to the operand size
abbrev pub extended_to_v : Context → List ℕ → ℕ
extended_to_v c bytes = if has_w c.prefixes then extended bytes else (if c.prefixes.operand_size then extended bytes % 2 ^ 16 else extended bytes % 2 ^ 32)

-- a byte: of 83 and 6B it is extended to the operand size, and of 6A (PUSH) to 8 bytes, or 2 under 66
abbrev pub byte_number : Context → List ℕ → ℕ
byte_number c bytes =
    if is_map_one c.map && is_among (0x83 ∷ 0x6b ∷ []) c.opcode then extended_to_v c bytes
    else (if is_one c 0x6a then (if has_two_bytes c then extended bytes % 2 ^ 16 else extended bytes) else plain_number bytes)

-- four bytes are extended to 8 under W, and of 68 (PUSH)
abbrev pub four_number : Context → List ℕ → ℕ
four_number c bytes = if has_w c.prefixes || is_one c 0x68 then extended bytes else plain_number bytes

abbrev pub immediate_number : Context → List ℕ → ℕ
immediate_number c (a ∷ []) = byte_number c (a ∷ [])
immediate_number c (a ∷ b ∷ d ∷ e ∷ []) = four_number c (a ∷ b ∷ d ∷ e ∷ [])
immediate_number c bytes = plain_number bytes

-- the 1 of a shift by one has no byte
abbrev pub immediate_or_one : Context → List ℕ → List ℕ
immediate_or_one c [] = codes "1"
immediate_or_one c (a ∷ bytes) = prefixed (immediate_number c (a ∷ bytes))

unfoldable pub immediate_text : Context → List ℕ → List ℕ
immediate_text c bytes = immediate_or_one c bytes
