-- Encodings that differ in how they name an address.
use Rattle.std.specs.Prelude.{◌≡◌, ℕ, ◌+◌, ◌*◌, ◌/◌, ◌≤◌, ◌<◌, ◌++◌, Bool, true, false, if◌then◌else◌, Option, Some, None, List, [], ◌∷◌}
use Rattle.std.specs.Prelude.{length, map, take, slice_index, Ok, Err, All}
use Rattle.std.specs.Int.{w32, cast_unsigned, to_le_bytes}
use Rattle.x86_fields.specs.declared.rex.PrefixRex.{PrefixRex}
use Rattle.x86_fields.specs.declared.raw.Raw.{Raw}
use Rattle.x86_fields.specs.Run.{is_rex, reading_of}
use Rattle.x86_fields.specs.ModRM.{reg_field, is_memory}
use Rattle.x86_fields.specs.Raw.{displacement_width, has_b, has_x}
use Rattle.x86_fields.specs.Pieces.{option_bytes, first_byte, signed_by}
use Rattle.x86_fields.specs.Linear.{raw_form, IsSameAddress}
use Rattle.x86_forms.specs.Words.{rows_of, packed}
use Rattle.x86_fields.specs.Prefixes.{address_size, with_x_and_b}
use Rattle.x86_operands.specs.declared.reader.Reading.{Reading}
use Rattle.x86_decode.specs.declared.instructions.Instruction.{Instruction}
use Rattle.x86_decode.specs.Head.{escape_bytes}
use Rattle.x86_decode.specs.Grammar.{IsSentence}
use Rattle.x86_decode.specs.Answer.{answer_of}
use Rattle.x86_decode.specs.Addresses.{instance_within, writes_modrm}
use Rattle.x86_fields.specs.Parts.{PartLists, lists_of}
use Rattle.x86_layout.specs.declared.tightening.tighten.Addressed.{Addressed}
use Rattle.x86_layout.specs.declared.tightening.tighten.TightenError.{TightenError}
use Rattle.x86_layout.specs.declared.tightening.tighten.TightenError.TheVariants.{Refused, NoMemoryForm, IpRelative}
use Rattle.x86_layout.specs.Parts.Split.{Encoding, HasParts}
use Rattle.x86_layout.specs.Tightening.Registers.{is_ip_relative}

-- a REX with other bits X and B
abbrev pub bits_in : Bool → Bool → Option PrefixRex → Option PrefixRex
bits_in x b None = None
bits_in x b (Some r) = Some (with_x_and_b r x b)

-- a REX byte with these bits X and B; another byte stays
abbrev pub byte_with : Bool → Bool → ℕ → ℕ
byte_with x b byte = if is_rex byte then (byte / 4) * 4 + ((if x then 2 else 0) + (if b then 1 else 0)) else byte

-- a run whose live REX, which is its last byte, has these bits X and B
unfoldable pub run_with : Bool → Bool → List ℕ → List ℕ
run_with x b [] = []
run_with x b (byte ∷ []) = byte_with x b byte ∷ []
run_with x b (byte ∷ next ∷ rest) = byte ∷ run_with x b (next ∷ rest)

-- ---- raw fields and their bytes

-- the raw fields of parts
abbrev pub raw_of : PartLists → Raw
raw_of parts = let p = reading_of parts.prefixes in record {
  rex_b = has_b p;
  rex_x = has_x p;
  address_size = address_size p;
  modrm = slice_index parts.modrm 0;
  sib = first_byte parts.sib;
  disp = signed_by (length parts.displacement) parts.displacement;
}

-- the displacement, in as many bytes as its fields have
abbrev pub spelled_displacement : Raw → List ℕ
spelled_displacement raw = take (displacement_width raw.modrm raw.sib) (to_le_bytes w32 (cast_unsigned w32 raw.disp))

-- parts with other raw fields
abbrev pub respelled : PartLists → Raw → PartLists
respelled parts raw = record parts {
  prefixes = run_with raw.rex_x raw.rex_b parts.prefixes;
  modrm = raw.modrm ∷ [];
  sib = option_bytes raw.sib;
  displacement = spelled_displacement raw;
}

-- a ModRM byte is there, and its mod is that of memory
abbrev pub has_memory_form : List ℕ → Bool
has_memory_form (m ∷ []) = is_memory m
has_memory_form modrm = false

-- ---- relatives

module _ (strict : Bool) (s : List ℕ) (a : Reading) (v : Encoding strict s a) (t : List ℕ) (b : Reading) (w : Encoding strict t b) where
  -- The parts of t are those of s, but for mod and rm of ModRM, SIB, displacement, and the bits X and B of a live REX.
  pub record HasPartsOf : Type 0 where
    pub prefixes : run_with false false w.run ≡ run_with false false v.run
    pub escape : escape_bytes w.map ≡ escape_bytes v.map
    pub opcode : w.opcode ≡ v.opcode
    pub register : map reg_field w.row_spelled.modrm ≡ map reg_field v.row_spelled.modrm
    pub immediate : w.row_spelled.tail_spelled.pieces.immediates ≡ v.row_spelled.tail_spelled.pieces.immediates
    pub suffix : w.row_spelled.tail_spelled.pieces.suffix ≡ v.row_spelled.tail_spelled.pieces.suffix

  -- The raw fields of t have the same address as those of s.
  pub record HasAddressOf : Type 0 where
    pub from : Raw
    pub to : Raw
    pub old : v.row_spelled.tail_spelled.pieces.memory ≡ Some from
    pub new : w.row_spelled.tail_spelled.pieces.memory ≡ Some to
    pub same : IsSameAddress (raw_form to) (raw_form from)

  pub record IsRelative : Type 0 where
    pub parts : HasPartsOf
    pub address : HasAddressOf

module _ (strict : Bool) (s : List ℕ) (a : Reading) (v : Encoding strict s a) where
  -- No relative of s is shorter.
  abbrev pub IsLeast : List ℕ → Type 0
  IsLeast t = (u : List ℕ) (c : Instruction) (is : IsSentence (rows_of packed) strict u c) → All (λ byte. byte < 256) u →
      IsRelative strict s a v u is.reading is.whole → length t ≤ length u

  -- t is a sentence that is a relative of s, and no relative of s is shorter.
  pub record IsShortest (t : List ℕ) : Type 0 where
    pub answer : Instruction
    pub sentence : IsSentence (rows_of packed) strict t answer
    pub relative : IsRelative strict s a v t sentence.reading sentence.whole
    pub least : IsLeast t

  -- A memory operand is read from ModRM: it is a memory form, and the operand of rm is written as its memory.
  pub record HasMemoryOperand : Type 0 where
    pub raw : Raw
    pub read : v.row_spelled.tail_spelled.pieces.memory ≡ Some raw
    pub written : writes_modrm (instance_within (rows_of packed) strict s a v) ≡ true

  -- There is such an operand, and its base is the next instruction or isn't.
  pub record HasOperandForm (ip_relative : Bool) : Type 0 where
    pub operand : HasMemoryOperand
    pub form : is_ip_relative operand.raw ≡ ip_relative

  -- These are the parts of the encoding, and the raw fields of its memory operand, which isn't relative to the next
  -- instruction.
  pub record IsAddressed (found : Addressed) : Type 0 where
    pub parts : HasParts strict s a v (lists_of found.parts)
    pub read : v.row_spelled.tail_spelled.pieces.memory ≡ Some found.raw
    pub form : is_ip_relative found.raw ≡ false

  -- The encoding has a memory operand of ModRM that isn't relative to the next instruction, and t is a shortest
  -- relative.
  pub record IsTightened (t : List ℕ) : Type 0 where
    pub form : HasOperandForm false
    pub shortest : IsShortest t

  -- The encoding has no relative to seek.
  abbrev pub HasNoRelative : TightenError → Type 0
  HasNoRelative (Refused error) = ⊥
  HasNoRelative NoMemoryForm = HasMemoryOperand → ⊥
  HasNoRelative IpRelative = HasOperandForm true

-- ---- at the beginning of bytes

-- what is said of a sentence by its pieces
abbrev pub Statement : Type 1
Statement = (strict : Bool) (s : List ℕ) (a : Reading) → Encoding strict s a → Type 0

-- The bytes begin with a sentence, and this holds of it.
pub record OfFirstSentence (strict : Bool) (bytes : List ℕ) (Holds : Statement) : Type 0 where
  pub instruction : Instruction
  pub accepted : answer_of strict bytes ≡ Ok instruction
  pub of_it : (s rest : List ℕ) (a : Instruction) (is : IsSentence (rows_of packed) strict s a) → bytes ≡ s ++ rest → Holds strict s is.reading is.whole

-- The bytes are refused, or their sentence has no relative to seek.
abbrev pub IsNotTightened : Bool → List ℕ → TightenError → Type 0
IsNotTightened strict bytes (Refused error) = answer_of strict bytes ≡ Err error
IsNotTightened strict bytes NoMemoryForm = OfFirstSentence strict bytes (λ strict s a v. HasNoRelative strict s a v NoMemoryForm)
IsNotTightened strict bytes IpRelative = OfFirstSentence strict bytes (λ strict s a v. HasNoRelative strict s a v IpRelative)
