-- The numbers of bytes, the lowest first.
use Rattle.std.specs.Prelude.{ℕ, ℤ, pos, List, [], ◌∷◌}
use Rattle.std.specs.Int.{w8, w16, w32, w64, from_le_bytes, cast_signed}

-- of 1, 2, 4 or 8 bytes
abbrev pub plain_number : List ℕ → ℕ
plain_number (a ∷ []) = a
plain_number (a ∷ b ∷ []) = from_le_bytes w16 (a ∷ b ∷ [])
plain_number (a ∷ b ∷ c ∷ d ∷ []) = from_le_bytes w32 (a ∷ b ∷ c ∷ d ∷ [])
plain_number (a ∷ b ∷ c ∷ d ∷ e ∷ f ∷ g ∷ h ∷ []) = from_le_bytes w64 (a ∷ b ∷ c ∷ d ∷ e ∷ f ∷ g ∷ h ∷ [])
plain_number bytes = 0

-- with a sign, of 1, 2 or 4 bytes
abbrev pub signed_of : List ℕ → ℤ
signed_of (a ∷ []) = cast_signed w8 a
signed_of (a ∷ b ∷ []) = cast_signed w16 (from_le_bytes w16 (a ∷ b ∷ []))
signed_of (a ∷ b ∷ c ∷ d ∷ []) = cast_signed w32 (from_le_bytes w32 (a ∷ b ∷ c ∷ d ∷ []))
signed_of bytes = pos 0
