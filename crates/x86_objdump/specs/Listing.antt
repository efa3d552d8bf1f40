-- The listing of a text: a line for each piece of its image.
use Rattle.std.specs.Prelude.{Bool, true, false, ℕ, zero, suc, ◌+◌, ◌-◌, ◌%◌, ◌^◌, if◌then◌else◌, List, [], ◌∷◌, Result, Ok, Err, take, drop}
use Rattle.x86_fields.specs.declared.errors.DecodeError.{DecodeError}
use Rattle.x86_decode.specs.declared.instructions.Instruction.{Instruction}
use Rattle.x86_decode.specs.Instruction.{length_of}
use Rattle.x86_decode.specs.Answer.{answer_of}
use Rattle.x86_layout.specs.Parts.OfBytes.{parts_of}
use Rattle.x86_streams.specs.Lines.Address.{address_of}
use Rattle.x86_streams.specs.Text.{Text}
use Rattle.x86_cli.specs.Listings.Performs.{Task}
use Rattle.x86_cli.specs.Listings.Line.{line}
use Rattle.x86_cli.specs.Listings.Listing.{Listing, with_lines, at_end}
use Rattle.x86_objdump.specs.declared.vectors.Vector.{Vector}
use Rattle.x86_objdump.specs.declared.vectors.Vector.TheVariants.{Absent, Cut, Whole}
use Rattle.x86_objdump.specs.Lines.{shown_text, vector_text, refused_text}
use Rattle.x86_objdump.specs.Vectors.{vector_after}

-- the most bytes of a text: more than any has
abbrev pub shown_max : ℕ
shown_max = 2 ^ 62 - 1

-- A piece of an image: where it is, what the decoder answers for the bytes from there on, and which VEX, EVEX or XOP encoding
-- they begin with where it refuses.
pub record Piece : Type 0 where
  pub place : ℕ
  pub answer : Result Instruction DecodeError
  pub vector : Vector

-- as long as the instruction or the encoding, else one byte
abbrev pub length_by : Result Instruction DecodeError → Vector → ℕ
length_by (Ok i) v = length_of i
length_by (Err e) (Whole n) = n
length_by (Err e) v = 1

abbrev pub piece_length : Piece → ℕ
piece_length p = length_by p.answer p.vector

-- more bytes may change it
abbrev pub is_open_by : Result Instruction DecodeError → Vector → Bool
is_open_by (Ok i) v = false
is_open_by (Err DecodeError.ExhaustedInput) v = true
is_open_by (Err e) Cut = true
is_open_by (Err e) v = false

-- the piece at a place that has these bytes
abbrev pub piece_at : Bool → ℕ → List ℕ → Piece
piece_at strict place bytes = record { place = place; answer = answer_of strict bytes; vector = vector_after (answer_of strict bytes) bytes }

-- the pieces of bytes from a place on, without the first bytes that belong to the piece before
unfoldable pub pieces_skipping : Bool → ℕ → ℕ → List ℕ → List Piece
pieces_skipping strict skip place [] = []
pieces_skipping strict zero place (x ∷ xs) =
    piece_at strict place (x ∷ xs) ∷ pieces_skipping strict (piece_length (piece_at strict place (x ∷ xs)) - 1) (place + 1) xs
pieces_skipping strict (suc skip) place (x ∷ xs) = pieces_skipping strict skip (place + 1) xs

-- the pieces of bytes from a place on
abbrev pub pieces_from : Bool → ℕ → List ℕ → List Piece
pieces_from strict place bytes = pieces_skipping strict 0 place bytes

abbrev pub piece_text : Bool → ℕ → List ℕ → Result Instruction DecodeError → Vector → List ℕ
piece_text strict address bytes (Ok i) v = shown_text address bytes i (parts_of strict bytes)
piece_text strict address bytes (Err e) (Whole n) = vector_text address bytes
piece_text strict address bytes (Err e) v = refused_text address bytes

module _ (strict : Bool) (base : ℕ) where
  -- the line of a piece, which has these bytes
  abbrev pub piece_line : Piece → List ℕ → List ℕ
  piece_line p bytes = line (piece_text strict (address_of base p.place) bytes p.answer p.vector)

  -- The lines of pieces one after the other: the bytes of the first begin the image, and those of the others what is left of
  -- it.
  abbrev pub piece_lines : List Piece → List ℕ → List (List ℕ)
  piece_lines [] image = []
  piece_lines (p ∷ ps) image = piece_line p (take (piece_length p) image) ∷ piece_lines ps (drop (piece_length p) image)

  -- What is shown of a text whose image begins at a place: a line for each piece of the image, in order, and then the
  -- end's.
  abbrev pub shown_at : ℕ → Text → Listing
  shown_at place t = with_lines (piece_lines (pieces_from strict place t.image) t.image) (at_end t.ending)

  -- the lines of pieces up to the first that more bytes may change
  abbrev pub decided_of : List Piece → List ℕ → List (List ℕ)
  decided_of [] image = []
  decided_of (p ∷ ps) image =
      if is_open_by p.answer p.vector then [] else piece_line p (take (piece_length p) image) ∷ decided_of ps (drop (piece_length p) image)

  -- what is shown of a text whatever follows it, and its end
  abbrev pub known_at : ℕ → Text → Listing
  known_at place t = with_lines (decided_of (pieces_from strict place t.image) t.image) (at_end t.ending)

-- what the program does
abbrev pub showing : ℕ → Task
showing base = record { max = shown_max; known = known_at false base 0; lists = shown_at false base 0 }
