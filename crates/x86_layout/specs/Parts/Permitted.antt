-- Permitted fields: five conditions, in order, each with the error where it is the first that fails.
use Rattle.std.specs.Prelude.{◌≡◌, ℕ, ◌==◌, ◌&&◌, ◌||◌, nat_le, not, Bool, false, if◌then◌else◌, Option, Some, None, is_some, is_none, List}
use Rattle.std.specs.Prelude.{[], ◌∷◌, ◌++◌, length, Result, Ok, Err}
use Rattle.x86_fields.specs.declared.errors.DecodeError.{DecodeError}
use Rattle.x86_fields.specs.declared.prefixes.Prefixes.{Prefixes}
use Rattle.x86_fields.specs.Run.{reading_of}
use Rattle.x86_fields.specs.Raw.{displacement_width}
use Rattle.x86_fields.specs.Pieces.{option_bytes}
use Rattle.x86_forms.specs.declared.Map.{Map}
use Rattle.x86_forms.specs.declared.Map.TheVariants.{One, Of, Of38, Of3a}
use Rattle.x86_forms.specs.declared.TableRow.{TableRow}
use Rattle.x86_forms.specs.Words.{rows_of, packed}
use Rattle.x86_operands.specs.declared.vocabulary.Verdict.{Verdict}
use Rattle.x86_operands.specs.declared.vocabulary.Verdict.TheVariants.{NamedBySuffix}
use Rattle.x86_operands.specs.declared.asks.RecordAt.{RecordAt}
use Rattle.x86_operands.specs.declared.reader.Reading.{Reading}
use Rattle.x86_fields.specs.ModRM.{is_memory}
use Rattle.x86_operands.specs.Records.{is_refusal}
use Rattle.x86_operands.specs.RowSteps.{suffix_opcode, record_step}
use Rattle.x86_operands.specs.Asks.{record_at}
use Rattle.x86_decode.specs.Head.{is_run, column_of, is_opcode, seen_by}
use Rattle.x86_decode.specs.declared.instructions.Instruction.{Instruction}
use Rattle.x86_groups.specs.Groups.{record_of}
use Rattle.x86_decode.specs.Grammar.{allows_lock, IsSentence}
use Rattle.x86_layout.specs.declared.parts.fields.Fields.{Fields}
use Rattle.x86_layout.specs.declared.parts.entries.Entry.{Entry}
use Rattle.x86_layout.specs.declared.parts.emit.EmitError.{EmitError}
use Rattle.x86_layout.specs.declared.parts.emit.EmitError.TheVariants as error
use Rattle.x86_layout.specs.Parts.Heads.{has_sib, one_if}
use Rattle.x86_layout.specs.Parts.Split.{HasParts, joined}
use Rattle.x86_layout.specs.Parts.Fields.{lists_in}

-- ---- the row that fields name

-- the map of an escape, where it is one of the four
abbrev pub map_named : List ℕ → Option Map
map_named [] = Some One
map_named (a ∷ []) = if a == 0x0f then Some Of else None
map_named (a ∷ b ∷ []) = if a == 0x0f then (if b == 0x38 then Some Of38 else (if b == 0x3a then Some Of3a else None)) else None
map_named (a ∷ b ∷ c ∷ rest) = None

abbrev pub entry_by : Option TableRow → Prefixes → Option Entry
entry_by None p = None
entry_by (Some row) p = Some (record { row = row; prefixes = p })

abbrev pub entry_at : Option Map → Prefixes → ℕ → Option Entry
entry_at None p opcode = None
entry_at (Some map) p opcode = if is_opcode map opcode then entry_by (rows_of packed map (column_of p) opcode) (seen_by map opcode p) else None

-- the row of the opcode byte in the map of the escape and the column of the run, and the prefixes as its record sees
-- them
abbrev pub entry_of : Fields → Option Entry
entry_of f = entry_at (map_named f.escape.items) (reading_of f.prefixes.items) f.opcode

-- its record, at the ModRM that is there
abbrev pub record_by : Bool → Entry → Fields → RecordAt
record_by strict e f = record_at (record_of strict e.row e.prefixes) f.modrm

-- ---- the conditions

-- 1: the prefixes are a legal run
abbrev pub has_legal_run : Fields → Bool
has_legal_run f = is_run f.prefixes.items

-- a ModRM that the row has isn't there
abbrev pub lacks_modrm : RecordAt → Fields → Bool
lacks_modrm at f = at.ask.modrm && is_none f.modrm

-- the suffix that is there names no operation, where the row has one
abbrev pub refuses_suffix : Verdict → Option ℕ → Bool
refuses_suffix NamedBySuffix (Some b) = is_none (suffix_opcode b)
refuses_suffix verdict suffix = false

-- 2: the record refuses neither at the opcode, nor for the ModRM that is there, nor for the suffix that is there
abbrev pub passes_record : RecordAt → Fields → Bool
passes_record at f = is_none at.at_opcode && (not (is_refusal at.verdict) || lacks_modrm at f) && not (refuses_suffix at.verdict f.suffix)

-- how many bytes of displacement there are at ModRM and SIB
abbrev pub displacement_length : ℕ → Option ℕ → ℕ
displacement_length m sib = if is_memory m then displacement_width m sib else 0

-- 3: each part that the row has is there with its length, and no other part is
abbrev pub has_row_parts : RecordAt → Fields → Bool
has_row_parts at f =
    (one_if (is_some f.modrm) == one_if at.ask.modrm)
    && (one_if (is_some f.sib) == one_if (has_sib at.ask at.modrm))
    && (length f.displacement.items == displacement_length at.modrm f.sib)
    && (length f.immediate.items == at.ask.immediate)
    && (one_if (is_some f.suffix) == one_if at.ask.suffix)

-- what follows the opcode byte
abbrev pub tail_of : Fields → List ℕ
tail_of f = option_bytes f.modrm ++ ((option_bytes f.sib ++ f.displacement.items) ++ (f.immediate.items ++ option_bytes f.suffix))

abbrev pub answer_allows_lock : Result Reading DecodeError → Bool
answer_allows_lock (Ok reading) = allows_lock reading
answer_allows_lock (Err e) = false

-- 4: F0 is absent, or allowed for the reading of what follows the opcode byte
abbrev pub has_lawful_lock : Bool → Entry → Fields → Bool
has_lawful_lock strict e f = answer_allows_lock
    (record_step (record_of strict e.row e.prefixes) e.prefixes (record { left = tail_of f; since_mark = 0; since_made = 0 })).answer

-- 5: the parts have at most 15 bytes in all
abbrev pub is_short : Fields → Bool
is_short f = nat_le (length (joined (lists_in f))) 15

-- ---- the first that fails

abbrev pub unless : Bool → EmitError → Option EmitError → Option EmitError
unless holds e rest = if holds then rest else Some e

-- conditions 2 to 5, where there is a row
abbrev pub failing_at : Bool → Option Entry → Fields → Option EmitError
failing_at strict None f = Some error.Row
failing_at strict (Some e) f =
    unless (passes_record (record_by strict e f) f) error.Row
    (unless (has_row_parts (record_by strict e f) f) error.Shape
    (unless (has_lawful_lock strict e f) error.Lock
    (unless (is_short f) error.Length None)))

-- the error of the first condition that fails; fields are permitted where none does
unfoldable pub first_failing : Bool → Fields → Option EmitError
first_failing strict f = unless (has_legal_run f) error.Prefixes (failing_at strict (entry_of f) f)

abbrev pub IsPermitted : Bool → Fields → Type 0
IsPermitted strict f = first_failing strict f ≡ None

-- The fields are the parts of a sentence.
pub record ArePartsOfSentence (strict : Bool) (f : Fields) : Type 0 where
  pub answer : Instruction
  pub sentence : IsSentence (rows_of packed) strict (joined (lists_in f)) answer
  pub parts : HasParts strict (joined (lists_in f)) sentence.reading sentence.whole (lists_in f)
