-- What follows of the headline, of any functions that have it.
use Rattle.std.specs.Prelude.{◌≡◌, ◌≢◌, ◌↔◌, ℕ, ◌<◌, ◌^◌, Bool, IsTrue, false, List, ◌++◌, length, take, Result, Ok, Err}
use Rattle.x86_fields.specs.declared.errors.DecodeError.{DecodeError}
use Rattle.x86_fields.specs.declared.errors.DecodeError.TheVariants.{ExhaustedInput}
use Rattle.x86_fields.specs.declared.raw.Raw.{Raw}
use Rattle.x86_fields.specs.Linear.{IsRegFile}
use Rattle.x86_decode.specs.declared.instructions.Instruction.{Instruction}
use Rattle.x86_decode.specs.Head.{Rows}
use Rattle.x86_decode.specs.Instruction.{length_of}
use Rattle.x86_layout.specs.declared.parts.fields.Fields.{Fields}
use Rattle.x86_layout.specs.Parts.Fields.{lists_in}
use Rattle.x86_layout.specs.Parts.Split.{joined}
use Rattle.x86_layout.specs.Tightening.Registers.{is_ip_relative}
use Rattle.x86_layout.specs.Tightening.Same.{address_at}
use Rattle.x86_streams.specs.declared.text.reader.Ending.{Ending}
use Rattle.x86_cli.specs.Headline.{AreRelatives, BeginsWith, Functions, HasRaw, IsByteString, Sentence}
use Rattle.x86_cli.specs.Listings.Grammar.{IsListing}
use Rattle.x86_cli.specs.Listings.Listing.{Listing}

module _ (rows : Rows) (strict : Bool) where
  -- The functions agree wherever the headline speaks of them.
  pub record AreSame (does other : Functions) : Type 0 where
    pub answer : (bytes : List ℕ) → does.answer bytes ≡ other.answer bytes
    pub lists : (text : ℕ → Instruction → List ℕ → List ℕ) (place : ℕ) (image : List ℕ) (ending : Ending) →
        does.lists text place image ending ≡ other.lists text place image ending
    pub cuts : (place : ℕ) (bytes : List ℕ) → does.cuts place bytes ≡ other.cuts place bytes
    pub parts : (s rest : List ℕ) (i : Instruction) → Sentence rows strict s i → does.parts (s ++ rest) ≡ other.parts (s ++ rest)
    pub permits : (f : Fields) → does.permits f ≡ other.permits f
    pub least : (s : List ℕ) (i : Instruction) (is : Sentence rows strict s i) (k : ℕ) (raw : Raw) → HasRaw rows strict is k raw →
        is_ip_relative raw ≡ false → IsByteString s → does.least s ≡ other.least s

  module _ (does : Functions) where
    pub record Consequences : Type 0 where
      -- The answer is an instruction exactly where the first bytes, as many as its length, are its sentence.
      pub first_bytes : (bytes : List ℕ) (i : Instruction) → (does.answer bytes ≡ Ok i) ↔ Sentence rows strict (take (length_of i) bytes) i
      -- It is `ExhaustedInput` exactly where the bytes begin with nothing that settles an answer.
      pub unsettled : (bytes : List ℕ) → (does.answer bytes ≡ Err ExhaustedInput)
          ↔ ((r : Result Instruction DecodeError) → BeginsWith rows strict bytes r → ⊥)
      -- Any other answer stays, whatever follows the bytes.
      pub stays : (bytes more : List ℕ) → does.answer bytes ≢ Err ExhaustedInput → does.answer (bytes ++ more) ≡ does.answer bytes
      -- A listing is the one that the grammar has: a line for each sentence, one after the other, and then what ends it.
      pub listing : (text : ℕ → Instruction → List ℕ → List ℕ) (place : ℕ) (image : List ℕ) (ending : Ending) (l : Listing) →
          IsListing rows strict text place image ending l ↔ (l ≡ does.lists text place image ending)
      -- What permitted fields spell is split into these fields again, whatever follows it.
      pub split_again : (f : Fields) (rest : List ℕ) → IsTrue (does.permits f) → (i : Instruction)
          × (does.answer (joined (lists_in f) ++ rest) ≡ Ok i) × (does.parts (joined (lists_in f) ++ rest) ≡ lists_in f)
      -- Fields that hold the parts of an instruction's bytes are permitted, and spell these bytes again.
      pub emitted_again : (bytes : List ℕ) (i : Instruction) (f : Fields) → does.answer bytes ≡ Ok i → lists_in f ≡ does.parts bytes →
          IsTrue (does.permits f) × (joined (lists_in f) ≡ take (length_of i) bytes)
      -- Each operand of a relative has the address that it has in the encoding, at every register file and next pointer.
      pub same_addresses : (s t : List ℕ) (i j : Instruction) (is : Sentence rows strict s i) (other : Sentence rows strict t j) →
          AreRelatives rows strict is other → IsByteString s → IsByteString t → (k : ℕ) (regs : List ℕ) (next : ℕ) →
          IsRegFile regs → next < 2 ^ 64 → address_at j k regs next ≡ address_at i k regs next
