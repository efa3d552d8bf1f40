-- What the bytes of a text that were read leave open of the pieces.
use Rattle.std.specs.Prelude.{◌≡◌, ◌≢◌, ℕ, false, true, List, ◌∷◌, ◌++◌}
use Rattle.x86_streams.specs.Outside.Stop.{Stop, Failed}
use Rattle.x86_streams.specs.Text.{text_of}
use Rattle.x86_objdump.specs.Listing.{Piece, piece_length, is_open_by, pieces_from, shown_max}
use Rattle.x86_objdump.specs.Pieces.{AreClosed}

-- the pieces of the text of bytes
abbrev pub pieces_of : List ℕ → Stop → List Piece
pieces_of bytes stop = pieces_from false 0 (text_of shown_max bytes stop).image

-- Where more bytes may change a piece of a text, the first such piece has another length in a text that goes on so.
abbrev pub LengthVaries : List ℕ → Type 0
LengthVaries bytes = (before after : List Piece) (p : Piece) → pieces_of bytes Failed ≡ before ++ p ∷ after → AreClosed before →
    is_open_by p.answer p.vector ≡ true →
    (xs : List ℕ) × (stop : Stop) × (q : Piece) × (rest : List Piece)
    × (pieces_of (bytes ++ xs) stop ≡ before ++ q ∷ rest) × (piece_length q ≢ piece_length p)
