-- Listings and cuts by the grammar alone: sentence by sentence, up to where the bytes that are left begin with none, and past
-- that byte by byte.
use Rattle.std.specs.Prelude.{◌≡◌, ℕ, ◌+◌, Bool, List, [], ◌∷◌, ◌++◌, length, Result, Ok, Err}
use Rattle.std.specs.List.{concat}
use Rattle.x86_fields.specs.declared.errors.DecodeError.{DecodeError}
use Rattle.x86_decode.specs.declared.instructions.Instruction.{Instruction}
use Rattle.x86_decode.specs.Grammar.{IsSentence, IsAnswer}
use Rattle.x86_decode.specs.Head.{Rows}
use Rattle.x86_layout.specs.declared.sweeps.cuts.Cut.{Cut}
use Rattle.x86_streams.specs.declared.text.reader.Ending.{Ending}
use Rattle.x86_cli.specs.Listings.Line.{line}
use Rattle.x86_cli.specs.Listings.Listing.{Listing, with_lines, at_end, at_refusal}

-- A refusal ends a listing. More bytes could complete an instruction that is cut off: after it the end of the text is
-- said, unless that is clean.
abbrev pub at_error : ℕ → DecodeError → Ending → Listing
at_error place DecodeError.ExhaustedInput Ending.Clean = at_refusal place DecodeError.ExhaustedInput
at_error place DecodeError.ExhaustedInput ending = at_end ending
at_error place error ending = at_refusal place error

module _ (rows : Rows) (strict : Bool) where
  -- What ends the listing where these bytes are left, none of which a sentence begins with: the end of the text, or the
  -- error that the grammar answers.
  abbrev pub EndsListing : ℕ → List ℕ → Ending → Listing → Type 0
  EndsListing place [] ending last = last ≡ at_end ending
  EndsListing place (x ∷ xs) ending last =
      (error : DecodeError) × (n : ℕ) × IsAnswer rows strict (x ∷ xs) (Err error) n × (last ≡ at_error place error ending)

  -- What is left begins with this piece, and has this answer: a sentence, or one byte where it begins with none.
  abbrev pub IsPiece : List ℕ → List ℕ → Result Instruction DecodeError → Type 0
  IsPiece piece after (Ok i) = IsSentence rows strict piece i
  IsPiece piece after (Err e) = (length piece ≡ 1) × (n : ℕ) × IsAnswer rows strict (piece ++ after) (Err e) n

  -- The cuts are of such pieces, one after the other from a place on, and nothing is left after them.
  abbrev pub AreCuts : ℕ → List ℕ → List Cut → Type 0
  AreCuts place bytes [] = bytes ≡ []
  AreCuts place bytes (c ∷ cuts) =
      (piece : List ℕ) × (after : List ℕ) × (bytes ≡ piece ++ after) × IsPiece piece after c.answer
      × (c.place ≡ place) × (c.length ≡ length piece) × AreCuts (place + length piece) after cuts

  module _ (text : ℕ → Instruction → List ℕ → List ℕ) where
    -- The lines of sentences that are one after the other from a place on.
    abbrev pub AreLines : ℕ → List (List ℕ) → List (List ℕ) → Type 0
    AreLines place [] lines = lines ≡ []
    AreLines place (s ∷ ss) lines =
        (i : Instruction) × IsSentence rows strict s i
        × (others : List (List ℕ)) × (lines ≡ line (text place i s) ∷ others) × AreLines (place + length s) ss others

    -- The image is sentences and what is left after them: a line for each sentence, and then what ends the listing.
    pub record IsListing (place : ℕ) (image : List ℕ) (ending : Ending) (l : Listing) : Type 0 where
      pub sentences : List (List ℕ)
      pub left : List ℕ
      pub whole : image ≡ concat sentences ++ left
      pub lines : List (List ℕ)
      pub each : AreLines place sentences lines
      pub last : Listing
      pub ends : EndsListing (place + length (concat sentences)) left ending last
      pub is : l ≡ with_lines lines last
