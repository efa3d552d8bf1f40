-- The parts of an encoding.
use Rattle.std.specs.Prelude.{◌≡◌, ℕ, ◌==◌, ◌&&◌, Bool, if◌then◌else◌, List, [], ◌∷◌, ◌++◌, length, take, Ok}
use Rattle.x86_forms.specs.Words.{rows_of, packed}
use Rattle.x86_fields.specs.Run.{reading_of}
use Rattle.x86_fields.specs.ModRM.{rm_field, is_memory}
use Rattle.x86_fields.specs.declared.parts.Parts.{Parts}
use Rattle.x86_fields.specs.Parts.{PartLists, lists_of}
use Rattle.x86_operands.specs.declared.reader.Reading.{Reading}
use Rattle.x86_operands.specs.Records.{RowRecord}
use Rattle.x86_operands.specs.Asks.{modrm_of}
use Rattle.x86_decode.specs.declared.instructions.Instruction.{Instruction}
use Rattle.x86_decode.specs.Instruction.{length_of}
use Rattle.x86_decode.specs.Head.{escape_bytes, seen_by}
use Rattle.x86_groups.specs.Groups.{record_of}
use Rattle.x86_decode.specs.Grammar.{Whole, IsSentence}
use Rattle.x86_decode.specs.Answer.{answer_of}

-- whole encodings by the printed rows
abbrev pub Encoding : Bool → List ℕ → Reading → Type 0
Encoding strict s reading = Whole (rows_of packed) strict s reading

-- SIB is there where ModRM is read as a memory form and its rm is 100 (Intel SDM volume 2, section 2.1.5)
abbrev pub sib_width : ℕ → ℕ
sib_width modrm = if is_memory modrm && rm_field modrm == 4 then 1 else 0

module _ (strict : Bool) (s : List ℕ) (reading : Reading) (w : Encoding strict s reading) where
  -- the record of the encoding's row
  abbrev pub record_in : RowRecord
  record_in = record_of strict w.row (seen_by w.map w.opcode (reading_of w.run))

  -- These are the pieces of a whole encoding: SIB and displacement together are the bytes of its address.
  pub record HasParts (parts : PartLists) : Type 0 where
    pub prefixes : parts.prefixes ≡ w.run
    pub escape : parts.escape ≡ escape_bytes w.map
    pub opcode : parts.opcode ≡ w.opcode ∷ []
    pub modrm : parts.modrm ≡ w.row_spelled.modrm
    pub sib : length parts.sib ≡ sib_width (modrm_of record_in.modrm w.row_spelled.modrm)
    pub address : parts.sib ++ parts.displacement ≡ w.row_spelled.tail_spelled.pieces.address
    pub immediate : parts.immediate ≡ w.row_spelled.tail_spelled.pieces.immediates
    pub suffix : parts.suffix ≡ w.row_spelled.tail_spelled.pieces.suffix

-- the parts in order
abbrev pub joined : PartLists → List ℕ
joined p = p.prefixes ++ (p.escape ++ (p.opcode ++ (p.modrm ++ ((p.sib ++ p.displacement) ++ (p.immediate ++ p.suffix)))))

-- The bytes are accepted, and begin with this sentence and with no other.
pub record IsFirstSentence (strict : Bool) (bytes encoding : List ℕ) (instruction : Instruction) : Type 0 where
  pub accepted : answer_of strict bytes ≡ Ok instruction
  pub is : IsSentence (rows_of packed) strict encoding instruction
  pub rest : List ℕ
  pub begins : bytes ≡ encoding ++ rest
  pub taken : encoding ≡ take (length_of instruction) bytes
  pub long : length encoding ≡ length_of instruction
  pub alone : (s other : List ℕ) (a : Instruction) → IsSentence (rows_of packed) strict s a → bytes ≡ s ++ other → (s ≡ encoding) × (a ≡ instruction)

-- The bytes begin with an accepted encoding, which has these parts.
pub record IsSplit (strict : Bool) (bytes : List ℕ) (split : Parts) : Type 0 where
  pub instruction : Instruction
  pub encoding : List ℕ
  pub rest : List ℕ
  pub reading : Reading
  pub accepted : answer_of strict bytes ≡ Ok instruction
  pub begins : bytes ≡ encoding ++ rest
  pub long : length encoding ≡ length_of instruction
  pub whole : Encoding strict encoding reading
  pub parts : HasParts strict encoding reading whole (lists_of split)
  pub together : joined (lists_of split) ≡ encoding

-- The bytes are a sentence under some choice, and this is its answer.
pub record IsSentenceOf (s : List ℕ) (answer : Instruction) : Type 0 where
  pub strict : Bool
  pub is : IsSentence (rows_of packed) strict s answer
