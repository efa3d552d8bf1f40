-- Listings, line by line.
use Rattle.std.specs.Prelude.{◌≡◌, ℕ, Bool, ◌+◌, ◌-◌, List, [], ◌∷◌, ◌++◌, Result, Ok, Err, codes, decimal, zero, suc, take}
use Rattle.x86_decode.specs.declared.instructions.Instruction.{Instruction}
use Rattle.x86_fields.specs.declared.errors.DecodeError.{DecodeError}
use Rattle.x86_decode.specs.Instruction.{length_of}
use Rattle.x86_decode.specs.Answer.{answer_of}
use Rattle.x86_streams.specs.declared.text.reader.Ending.{Ending}
use Rattle.x86_streams.specs.Text.{Text}
use Rattle.x86_text.specs.Lines.{refusal_of}
use Rattle.x86_cli.specs.Listings.Line.{line}
use Rattle.x86_cli.specs.declared.listings.status.Status.{Status}
use Rattle.x86_cli.specs.declared.text.window.Decoded.{Decoded}

-- the lines that are written, and the status
pub record Listing : Type 0 where
  pub lines : List (List ℕ)
  pub status : Status

abbrev pub with_lines : List (List ℕ) → Listing → Listing
with_lines beginning l = record { lines = beginning ++ l.lines; status = l.status }

abbrev pub at_end : Ending → Listing
at_end Ending.Clean = record { lines = []; status = Status.Done }
at_end (Ending.Bad n) = record { lines = line (codes "text error at " ++ decimal n) ∷ []; status = Status.BadText }
at_end Ending.Large = record { lines = line (codes "text too long") ∷ []; status = Status.TooLarge }
at_end Ending.Fault = record { lines = line (codes "read fault") ∷ []; status = Status.ReadFault }

-- a refusal that ends a listing
abbrev pub at_refusal : ℕ → DecodeError → Listing
at_refusal place error = record { lines = line (refusal_of place error) ∷ []; status = Status.Refused }

-- An end that isn't clean overrules a refusal that more bytes could lift.
abbrev pub decoded_at_end : Result Instruction DecodeError → Ending → Decoded Instruction
decoded_at_end (Ok i) e = Decoded.Whole i
decoded_at_end (Err DecodeError.ExhaustedInput) Ending.Clean = Decoded.Refused DecodeError.ExhaustedInput
decoded_at_end (Err DecodeError.ExhaustedInput) e = Decoded.Ended e
decoded_at_end (Err error) e = Decoded.Refused error

-- where more bytes lift nothing
abbrev pub decoded_before_end : Result Instruction DecodeError → Decoded Instruction
decoded_before_end (Ok i) = Decoded.Whole i
decoded_before_end (Err error) = Decoded.Refused error

-- what decoding an image yields
unfoldable pub decoded_of : Bool → List ℕ → Ending → Decoded Instruction
decoded_of strict [] e = Decoded.Ended e
decoded_of strict (x ∷ xs) e = decoded_at_end (answer_of strict (x ∷ xs)) e

-- The listings of commands differ in the line of an instruction, which may look at the instruction's bytes.
module _ (strict : Bool) (text : ℕ → Instruction → List ℕ → List ℕ) where
  abbrev pub listed : Decoded Instruction → ℕ → List ℕ → (ℕ → Listing) → Listing
  listed (Decoded.Whole i) place bytes after = with_lines (line (text place i (take (length_of i) bytes)) ∷ []) (after (length_of i - 1))
  listed (Decoded.Refused error) place bytes after = at_refusal place error
  listed (Decoded.Ended e) place bytes after = at_end e

  -- the listing of an image from a place on, without its first bytes that belong to an instruction before
  unfoldable pub listing_from : ℕ → ℕ → List ℕ → Ending → Listing
  listing_from place skip [] e = at_end e
  listing_from place zero (x ∷ xs) e = listed (decoded_of strict (x ∷ xs) e) place (x ∷ xs) (λ skip. listing_from (place + 1) skip xs e)
  listing_from place (suc skip) (x ∷ xs) e = listing_from (place + 1) skip xs e

  abbrev pub listing_at : ℕ → Text → Listing
  listing_at place t = listing_from place 0 t.image t.ending

-- Whatever the lines of instructions are, the listing of a text ends with the same status.
abbrev pub LinesLeaveStatus : Type 0
LinesLeaveStatus = (strict : Bool) (text other : ℕ → Instruction → List ℕ → List ℕ) (t : Text) →
    (listing_at strict text 0 t).status ≡ (listing_at strict other 0 t).status
