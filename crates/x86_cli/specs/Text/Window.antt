-- What a window shows.
use Rattle.std.specs.Prelude.{Bool, ◌≡◌, ◌≢◌, ◌⊎◌, ℕ, ◌<◌, ◌≤◌, List, ◌++◌, length, Option, Some, None, Err}
use Rattle.x86_decode.specs.declared.instructions.Instruction.{Instruction}
use Rattle.x86_fields.specs.declared.errors.DecodeError.{DecodeError}
use Rattle.x86_fields.specs.declared.errors.DecodeError.TheVariants.{ExhaustedInput}
use Rattle.x86_decode.specs.Instruction.{length_of}
use Rattle.x86_streams.specs.declared.text.reader.Ending.{Ending}
use Rattle.x86_streams.specs.declared.text.reader.Ending.TheVariants.{Clean}
use Rattle.x86_cli.specs.declared.text.window.AtRefusal.{AtRefusal}
use Rattle.x86_cli.specs.declared.text.window.AtRefusal.TheVariants as refusal
use Rattle.x86_cli.specs.declared.text.window.Decoded.{Decoded}
use Rattle.x86_cli.specs.declared.text.window.Decoded.TheVariants.{Whole, Refused, Ended}
use Rattle.x86_cli.specs.Listings.Listing.{decoded_of, decoded_at_end}

-- a result, where Whole holds this instruction
abbrev pub decoded_with : Instruction → Decoded (Unit {0}) → Decoded Instruction
decoded_with i (Whole x) = Whole i
decoded_with i (Refused error) = Refused error
decoded_with i (Ended e) = Ended e

-- what the window shows of its first bytes, whatever follows
abbrev pub Shows : Bool → Decoded Instruction → Option Ending → List ℕ → Type 0
Shows strict (Whole i) ended window = (0 < length_of i) × (length_of i ≤ length window)
    × ((ys : List ℕ) (e : Ending) → decoded_of strict (window ++ ys) e ≡ Whole i)
Shows strict (Refused error) ended window =
    (error ≡ ExhaustedInput → ended ≡ Some Clean) × (error ≢ ExhaustedInput → (ys : List ℕ) (e : Ending) → decoded_of strict (window ++ ys) e ≡ Refused error)
Shows strict (Ended e) ended window = ended ≡ Some e

-- What comes after these bytes, which begin with no instruction.
abbrev pub IsAtRefusal : AtRefusal → DecodeError → Option Ending → List ℕ → Type 0
IsAtRefusal refusal.Refused error ended window =
    (ended ≡ None → error ≢ ExhaustedInput) × ((e : Ending) → ended ≡ Some e → (0 < length window) × (decoded_at_end (Err error) e ≡ Refused error))
IsAtRefusal refusal.Nothing error ended window =
    (ended ≡ None → error ≡ ExhaustedInput) × ((e : Ending) → ended ≡ Some e → (length window ≡ 0) ⊎ (decoded_at_end (Err error) e ≡ Ended e))

-- The same for a sweep, which a refusal doesn't end.
abbrev pub IsAtCut : AtRefusal → DecodeError → Option Ending → List ℕ → Type 0
IsAtCut refusal.Refused error ended window = (ended ≡ None → error ≢ ExhaustedInput) × ((e : Ending) → ended ≡ Some e → 0 < length window)
IsAtCut refusal.Nothing error ended window = (ended ≡ None → error ≡ ExhaustedInput) × ((e : Ending) → ended ≡ Some e → length window ≡ 0)
