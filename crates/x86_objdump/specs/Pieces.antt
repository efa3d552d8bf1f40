-- The pieces of an image that is listed in parts.
use Rattle.std.specs.Prelude.{◌≡◌, ℕ, ◌+◌, Bool, false, List, [], ◌∷◌, ◌++◌, drop, ⊤}
use Rattle.x86_objdump.specs.Listing.{Piece, piece_length, is_open_by, pieces_from}

-- how many bytes pieces have together
abbrev pub length_together : List Piece → ℕ
length_together [] = 0
length_together (p ∷ ps) = piece_length p + length_together ps

-- More bytes change none of these pieces.
abbrev pub AreClosed : List Piece → Type 0
AreClosed [] = ⊤
AreClosed (p ∷ ps) = (is_open_by p.answer p.vector ≡ false) × AreClosed ps

-- After pieces at the beginning come those of the rest, from their place on.
abbrev pub PiecesGoOn : Bool → Type 0
PiecesGoOn strict = (place : ℕ) (xs : List ℕ) (before after : List Piece) → pieces_from strict place xs ≡ before ++ after →
    after ≡ pieces_from strict (place + length_together before) (drop (length_together before) xs)

-- Pieces at the beginning of bytes, none of which more bytes may change, are pieces of the bytes with more after them. After
-- them come the pieces of the rest of both.
abbrev pub PiecesOfMore : Bool → Type 0
PiecesOfMore strict = (place : ℕ) (xs ys : List ℕ) (before after : List Piece) → pieces_from strict place xs ≡ before ++ after → AreClosed before →
    pieces_from strict place (xs ++ ys) ≡ before ++ pieces_from strict (place + length_together before) (drop (length_together before) (xs ++ ys))

-- Of two listings, one of the beginning of an image and one that begins inside it or at its end, each has a piece at one
-- place. The pieces of the first before that place, none of which more bytes may change, and those of the other from there
-- on are the pieces of the whole.
abbrev pub PiecesJoin : Bool → Type 0
PiecesJoin strict = (place skip : ℕ) (xs ys : List ℕ) (before after passed rest : List Piece) (c d : Piece) →
    pieces_from strict place xs ≡ before ++ c ∷ after → AreClosed before →
    pieces_from strict (place + skip) (drop skip (xs ++ ys)) ≡ passed ++ d ∷ rest → c.place ≡ d.place →
    pieces_from strict place (xs ++ ys) ≡ before ++ d ∷ rest
