-- Sentences, and what has an error, over any rows and under either choice: all pieces of a sentence are in one record. They are the
-- sentences of x86_decode, and what decides an error there (the law `sentences`).
use Rattle.std.specs.Prelude.{◌≡◌, ◌+◌, ℕ, ◌≤◌, nat_lt, Bool, true, false, Option, Some, None, List, [], ◌∷◌, ◌++◌, length}
use Rattle.x86_fields.specs.declared.errors.DecodeError.{DecodeError}
use Rattle.x86_fields.specs.declared.errors.DecodeError.TheVariants.{InvalidOpcode, InvalidPrefixes, TooLong}
use Rattle.x86_fields.specs.Run.{reading_of}
use Rattle.x86_fields.specs.declared.prefixes.Prefixes.{Prefixes}
use Rattle.x86_fields.specs.declared.raw.Raw.{Raw}
use Rattle.x86_fields.specs.Parts.{PartLists}
use Rattle.x86_forms.specs.declared.Map.{Map}
use Rattle.x86_forms.specs.declared.TableRow.{TableRow}
use Rattle.x86_operands.specs.declared.vocabulary.Fault.{Fault}
use Rattle.x86_operands.specs.declared.places.Places.{Places}
use Rattle.x86_operands.specs.declared.reader.Reading.{Reading}
use Rattle.x86_operands.specs.Records.{Instance, RowRecord, is_refusal, order_of}
use Rattle.x86_operands.specs.RowSteps.{error_of}
use Rattle.x86_operands.specs.Asks.{immediates_width, modrm_of}
use Rattle.x86_operands.specs.Pieces.{SpellsMemory, RefusesRow, modrm_width, suffix_width, opcode_by, reading_from}
use Rattle.x86_groups.specs.Groups.{record_of}
use Rattle.x86_decode.specs.declared.instructions.Instruction.{Instruction}
use Rattle.x86_decode.specs.Instruction.{instruction_of}
use Rattle.x86_decode.specs.Head.{Rows, is_run, column_of, escape_bytes, is_vex, is_opcode, vex_refusal, seen_by}
use Rattle.x86_decode.specs.Grammar.{allows_lock}
use Rattle.x86_layout.specs.Parts.Split.{joined, sib_width}

-- Where parts end: the opcode byte, then the displacement; and whether there is a suffix.
abbrev pub part_ends : PartLists → Places
part_ends p = record {
  opcode_end = length p.prefixes + (length p.escape + length p.opcode);
  address_end = length p.prefixes + (length p.escape + length p.opcode) + (length p.modrm + length (p.sib ++ p.displacement));
  has_suffix = nat_lt 0 (length p.suffix);
}

module _ (rows : Rows) (strict : Bool) where
  -- A run, an escape, an opcode byte that has a row, and the pieces of that row, in at most 15 bytes; whether it has F0 only
  -- where that is allowed; and its answer.
  pub record Encodes (lawful : Bool) (s : List ℕ) (answer : Instruction) : Type 0 where
    pub parts : PartLists
    pub whole : s ≡ joined parts
    pub short : length s ≤ 15
    pub run : is_run parts.prefixes ≡ true
    pub opcode_map : Map
    pub escaped : parts.escape ≡ escape_bytes opcode_map
    pub byte : ℕ
    pub opcode_is : parts.opcode ≡ byte ∷ []
    pub in_map : is_opcode opcode_map byte ≡ true
    pub row : TableRow
    pub has_row : rows opcode_map (column_of (reading_of parts.prefixes)) byte ≡ Some row
    pub seen : Prefixes
    pub sees : seen ≡ seen_by opcode_map byte (reading_of parts.prefixes)
    pub made : RowRecord
    pub makes : made ≡ record_of strict row seen
    pub passed : made.at_opcode ≡ None
    pub modrm_length : length parts.modrm ≡ modrm_width made.modrm
    pub modrm : ℕ
    pub has_modrm : modrm ≡ modrm_of made.modrm parts.modrm
    pub instance : Instance
    pub has_instance : instance ≡ made.instance modrm
    pub accepted : is_refusal instance.verdict ≡ false
    pub memory : Option Raw
    pub address_spelled : SpellsMemory (order_of instance).rm seen modrm (parts.sib ++ parts.displacement) memory
    pub sib_length : length parts.sib ≡ sib_width modrm
    pub immediate_length : length parts.immediate ≡ immediates_width instance
    pub suffix_length : length parts.suffix ≡ suffix_width instance.verdict
    pub operation : ℕ
    pub named : opcode_by instance.verdict instance.opcode parts.suffix ≡ Some operation
    pub reading : Reading
    pub reads : reading ≡ reading_from instance seen modrm operation memory parts.immediate
    pub locks : allows_lock reading ≡ lawful
    pub yields : answer ≡ instruction_of reading (part_ends parts) (length s)

  -- By its bytes the string has an error: C4, C5 or 62 after a run; no row; a refusal of the row's record; F0 where it isn't allowed.
  pub data HasErrorByBytes (q : List ℕ) : DecodeError → Type 0 where
    case_1 : (run : List ℕ) (byte : ℕ) → q ≡ run ++ byte ∷ [] → is_run run ≡ true → is_vex byte ≡ true → HasErrorByBytes q (vex_refusal (reading_of run))
    case_2 : (run : List ℕ) (opcode_map : Map) (byte : ℕ) → q ≡ run ++ (escape_bytes opcode_map ++ byte ∷ []) → is_run run ≡ true →
        is_opcode opcode_map byte ≡ true →
        rows opcode_map (column_of (reading_of run)) byte ≡ None → HasErrorByBytes q InvalidOpcode
    case_3 : (run : List ℕ) (opcode_map : Map) (byte : ℕ) (row : TableRow) (tail : List ℕ) (seen : Prefixes) (fault : Fault) →
        q ≡ run ++ (escape_bytes opcode_map ++ byte ∷ tail) → is_run run ≡ true → is_opcode opcode_map byte ≡ true →
        rows opcode_map (column_of (reading_of run)) byte ≡ Some row → seen ≡ seen_by opcode_map byte (reading_of run) →
        RefusesRow (record_of strict row seen) seen tail fault → HasErrorByBytes q (error_of fault)
    case_4 : (i : Instruction) → Encodes false q i → HasErrorByBytes q InvalidPrefixes

  -- Or it has 15 bytes, and nothing that they begin with is a sentence or has an error by its bytes.
  pub data HasError (q : List ℕ) : DecodeError → Type 0 where
    by_bytes : {e : DecodeError} → HasErrorByBytes q e → HasError q e
    case_5 : length q ≡ 15 → ((s rest : List ℕ) (i : Instruction) → q ≡ s ++ rest → Encodes true s i → ⊥) →
        ((s rest : List ℕ) (e : DecodeError) → q ≡ s ++ rest → HasErrorByBytes s e → ⊥) → HasError q TooLong
