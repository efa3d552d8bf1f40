-- The headline: what is proved of every byte string under a choice, each fact by a name. It is over any rows, and over the functions
-- by which the clauses of calls speak.
use Rattle.std.specs.Prelude.{◌≡◌, ◌≢◌, ◌↔◌, ℕ, ◌+◌, ◌<◌, ◌≤◌, Bool, IsTrue, true, false, List, [], ◌∷◌, ◌++◌, length, map, Result, Ok, Err, Some, All}
use Rattle.x86_fields.specs.declared.errors.DecodeError.{DecodeError}
use Rattle.x86_fields.specs.declared.errors.DecodeError.TheVariants.{ExhaustedInput}
use Rattle.x86_fields.specs.declared.raw.Raw.{Raw}
use Rattle.x86_fields.specs.Linear.{raw_form, IsSameAddress}
use Rattle.x86_fields.specs.ModRM.{reg_field}
use Rattle.x86_fields.specs.Parts.{PartLists}
use Rattle.x86_operands.specs.Pieces.{names_modrm}
use Rattle.x86_decode.specs.declared.instructions.Instruction.{Instruction}
use Rattle.x86_decode.specs.Head.{Rows}
use Rattle.x86_layout.specs.declared.parts.fields.Fields.{Fields}
use Rattle.x86_layout.specs.declared.sweeps.cuts.Cut.{Cut}
use Rattle.x86_layout.specs.Parts.Fields.{lists_in}
use Rattle.x86_layout.specs.Sweeps.Cuts.{cut_length}
use Rattle.x86_layout.specs.Tightening.Registers.{is_ip_relative}
use Rattle.x86_layout.specs.Tightening.Same.{address_at, IsSameButInMemory}
use Rattle.x86_layout.specs.Tightening.Tighten.{run_with}
use Rattle.x86_streams.specs.declared.text.reader.Ending.{Ending}
use Rattle.x86_cli.specs.Addresses.{encoded_address}
use Rattle.x86_cli.specs.Listings.Grammar.{at_error}
use Rattle.x86_cli.specs.Listings.Line.{line}
use Rattle.x86_cli.specs.Listings.Listing.{Listing, with_lines, at_end}
use Rattle.x86_cli.specs.Sentences.{Encodes, HasError}

-- The functions by which clauses say what calls do: the answer of bytes, their parts, whether fields are permitted, the listing of an
-- image and its ending by such lines from a place on, the cuts of bytes, and the least length.
pub record Functions : Type 0 where
  pub answer : List ℕ → Result Instruction DecodeError
  pub parts : List ℕ → PartLists
  pub permits : Fields → Bool
  pub lists : (ℕ → Instruction → List ℕ → List ℕ) → ℕ → List ℕ → Ending → Listing
  pub cuts : ℕ → List ℕ → List Cut
  pub least : List ℕ → ℕ

-- The numbers are bytes.
abbrev pub IsByteString : List ℕ → Type 0
IsByteString s = All (λ byte. byte < 256) s

module _ (rows : Rows) (strict : Bool) where
  abbrev pub Sentence : List ℕ → Instruction → Type 0
  Sentence s i = Encodes rows strict true s i

  -- The bytes are a sentence, or at most fifteen that have an error.
  abbrev pub Settles : List ℕ → Result Instruction DecodeError → Type 0
  Settles s (Ok i) = Sentence s i
  Settles s (Err e) = (length s ≤ 15) × HasError rows strict s e

  -- They begin with such a string.
  abbrev pub BeginsWith : List ℕ → Result Instruction DecodeError → Type 0
  BeginsWith bytes r = (s : List ℕ) × (rest : List ℕ) × (bytes ≡ s ++ rest) × Settles s r

  -- The operand at k is spelled by ModRM as memory, with these raw fields.
  abbrev pub HasRaw : {s : List ℕ} {i : Instruction} → Sentence s i → ℕ → Raw → Type 0
  HasRaw is k raw = (is.memory ≡ Some raw) × (names_modrm is.instance k ≡ true)

  -- t is s in every part, but for mod and rm, SIB, displacement, and X and B of a live REX, and has the same address.
  module _ {s t : List ℕ} {i j : Instruction} (is : Sentence s i) (other : Sentence t j) where
    pub record AreRelatives : Type 0 where
      pub prefixes : run_with false false other.parts.prefixes ≡ run_with false false is.parts.prefixes
      pub escape : other.parts.escape ≡ is.parts.escape
      pub byte : other.parts.opcode ≡ is.parts.opcode
      pub register : map reg_field other.parts.modrm ≡ map reg_field is.parts.modrm
      pub immediate : other.parts.immediate ≡ is.parts.immediate
      pub suffix : other.parts.suffix ≡ is.parts.suffix
      pub from : Raw
      pub to : Raw
      pub old : is.memory ≡ Some from
      pub new : other.memory ≡ Some to
      pub same : IsSameAddress (raw_form to) (raw_form from)

  module _ (does : Functions) where
    pub record Headline : Type 0 where
      -- Bytes have the answer of the string that they begin with and that settles one, and without such a string `ExhaustedInput`.
      pub answers : (bytes : List ℕ) (r : Result Instruction DecodeError) → r ≢ Err ExhaustedInput →
          (does.answer bytes ≡ r) ↔ BeginsWith bytes r
      -- They begin with at most one: a sentence, or one that has an error.
      pub unique : (s rest t more : List ℕ) (a b : Result Instruction DecodeError) → s ++ rest ≡ t ++ more →
          Settles s a → Settles t b → (s ≡ t) × (a ≡ b)
      -- A memory operand that ModRM spells has the address that its bits encode, at every register file and next pointer.
      pub addresses : (s : List ℕ) (i : Instruction) (is : Sentence s i) (k : ℕ) (raw : Raw) → HasRaw is k raw →
          IsByteString s → (regs : List ℕ) (next : ℕ) → address_at i k regs next ≡ Some (encoded_address raw regs next)
      -- A listing is the line of a sentence and the listing of the bytes after it, and at the last one what ends it.
      pub listed_sentence : (text : ℕ → Instruction → List ℕ → List ℕ) (place : ℕ) (s rest : List ℕ) (i : Instruction)
          (ending : Ending) → Sentence s i → does.lists text place (s ++ rest) ending
          ≡ with_lines (line (text place i s) ∷ []) (does.lists text (place + length s) rest ending)
      pub listed_error : (text : ℕ → Instruction → List ℕ → List ℕ) (place x : ℕ) (xs : List ℕ) (e : DecodeError)
          (ending : Ending) → does.answer (x ∷ xs) ≡ Err e → does.lists text place (x ∷ xs) ending ≡ at_error place e ending
      pub listed_end : (text : ℕ → Instruction → List ℕ → List ℕ) (place : ℕ) (ending : Ending) →
          does.lists text place [] ending ≡ at_end ending
      -- The cuts of bytes are one for their answer, as long as the instruction or one byte long, and those of the bytes after it.
      pub first_cut : (place : ℕ) (piece after : List ℕ) (a : Result Instruction DecodeError) →
          does.answer (piece ++ after) ≡ a → length piece ≡ cut_length a → does.cuts place (piece ++ after)
          ≡ record { place = place; length = length piece; answer = a } ∷ does.cuts (place + length piece) after
      pub no_cut : (place : ℕ) → does.cuts place [] ≡ []
      -- The parts of bytes are those of their sentence, and fields are permitted exactly where they are such parts.
      pub parts : (s rest : List ℕ) (i : Instruction) (is : Sentence s i) → does.parts (s ++ rest) ≡ is.parts
      pub permitted : (f : Fields) → IsTrue (does.permits f) ↔
          ((s : List ℕ) × (i : Instruction) × (is : Sentence s i) × (is.parts ≡ lists_in f))
      -- An address that isn't relative to the next instruction has a spelling of this length, and none that is shorter. All
      -- relatives of an encoding are one instruction, but for X and B of a REX and memory.
      pub shortest : (s : List ℕ) (i : Instruction) (is : Sentence s i) (k : ℕ) (raw : Raw) → HasRaw is k raw →
          is_ip_relative raw ≡ false → IsByteString s → (t : List ℕ) × (j : Instruction) × (other : Sentence t j)
          × AreRelatives is other × IsByteString t × (length t ≡ does.least s)
      pub least : (s t : List ℕ) (i j : Instruction) (is : Sentence s i) (other : Sentence t j) (k : ℕ) (raw : Raw) →
          HasRaw is k raw → is_ip_relative raw ≡ false → IsByteString s → IsByteString t →
          AreRelatives is other → does.least s ≤ length t
      pub same_instruction : (s t : List ℕ) (i j : Instruction) (is : Sentence s i) (other : Sentence t j) →
          (h : AreRelatives is other) → IsSameButInMemory h.from h.to i j
