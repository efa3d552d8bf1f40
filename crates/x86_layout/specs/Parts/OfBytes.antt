-- The parts of the encoding at the beginning of bytes, known from the bytes.
use Rattle.std.specs.Prelude.{◌≡◌, ℕ, Bool, false, if◌then◌else◌, Option, Some, None, List, length, take, drop, slice_index, Ok}
use Rattle.std.specs.List.{prefix_len}
use Rattle.x86_fields.specs.declared.prefixes.Prefixes.{Prefixes}
use Rattle.x86_fields.specs.Run.{is_prefix, reading_of}
use Rattle.x86_fields.specs.Raw.{displacement_width}
use Rattle.x86_fields.specs.Pieces.{first_byte}
use Rattle.x86_fields.specs.Parts.{PartLists}
use Rattle.x86_forms.specs.declared.Map.{Map}
use Rattle.x86_forms.specs.declared.TableRow.{TableRow}
use Rattle.x86_forms.specs.Words.{rows_of, packed}
use Rattle.x86_operands.specs.declared.asks.Ask.{Ask}
use Rattle.x86_operands.specs.Asks.{ask_of}
use Rattle.x86_decode.specs.Head.{column_of, escape_bytes, seen_by}
use Rattle.x86_decode.specs.declared.instructions.Instruction.{Instruction}
use Rattle.x86_decode.specs.Answer.{answer_of}
use Rattle.x86_groups.specs.Groups.{record_of}
use Rattle.x86_layout.specs.Parts.Heads.{map_of, one_if, has_sib}

-- what a row has at a ModRM byte; nothing where there is no row
abbrev pub ask_by : Bool → Option TableRow → Prefixes → ℕ → Ask
ask_by strict None p m = record { modrm = false; memory = false; immediate = 0; suffix = false }
ask_by strict (Some row) p m = ask_of (record_of strict row p) m

-- what the row of an opcode byte after a run has at a ModRM byte
abbrev pub ask_after_run : Bool → List ℕ → Map → ℕ → ℕ → Ask
ask_after_run strict run map opcode m = ask_by strict (rows_of packed map (column_of (reading_of run)) opcode) (seen_by map opcode (reading_of run)) m

-- how many bytes of displacement there are at ModRM and SIB
abbrev pub displacement_length_by : Ask → ℕ → List ℕ → ℕ
displacement_length_by ask m sib = if ask.memory then displacement_width m (first_byte sib) else 0

-- ---- up to the opcode byte

module _ (bytes : List ℕ) where
  abbrev pub run_in : List ℕ
  run_in = take (prefix_len is_prefix bytes) bytes

  abbrev pub after_run : List ℕ
  after_run = drop (prefix_len is_prefix bytes) bytes

  abbrev pub map_in : Map
  map_in = map_of (slice_index after_run 0) (slice_index after_run 1)

  abbrev pub after_escape : List ℕ
  after_escape = drop (length (escape_bytes map_in)) after_run

  abbrev pub opcode_in : List ℕ
  opcode_in = take 1 after_escape

  abbrev pub tail_in : List ℕ
  tail_in = drop 1 after_escape

  abbrev pub ask_in : Bool → Ask
  ask_in strict = ask_after_run strict run_in map_in (slice_index opcode_in 0) (slice_index tail_in 0)

-- ---- after the opcode byte, by what the row has

module _ (ask : Ask) (tail : List ℕ) where
  abbrev pub modrm_in : List ℕ
  modrm_in = take (one_if ask.modrm) tail

  abbrev pub after_modrm : List ℕ
  after_modrm = drop (one_if ask.modrm) tail

  abbrev pub sib_in : List ℕ
  sib_in = take (one_if (has_sib ask (slice_index tail 0))) after_modrm

  abbrev pub after_sib : List ℕ
  after_sib = drop (one_if (has_sib ask (slice_index tail 0))) after_modrm

  abbrev pub displacement_in : List ℕ
  displacement_in = take (displacement_length_by ask (slice_index tail 0) sib_in) after_sib

  abbrev pub after_displacement : List ℕ
  after_displacement = drop (displacement_length_by ask (slice_index tail 0) sib_in) after_sib

  abbrev pub immediate_in : List ℕ
  immediate_in = take ask.immediate after_displacement

  abbrev pub suffix_in : List ℕ
  suffix_in = take (one_if ask.suffix) (drop ask.immediate after_displacement)

-- The parts of the encoding at the beginning of bytes, under a choice. Source: Intel SDM volume 2, section 2.1.
unfoldable pub parts_of : Bool → List ℕ → PartLists
parts_of strict bytes = record {
  prefixes = run_in bytes;
  escape = escape_bytes (map_in bytes);
  opcode = opcode_in bytes;
  modrm = modrm_in (ask_in bytes strict) (tail_in bytes);
  sib = sib_in (ask_in bytes strict) (tail_in bytes);
  displacement = displacement_in (ask_in bytes strict) (tail_in bytes);
  immediate = immediate_in (ask_in bytes strict) (tail_in bytes);
  suffix = suffix_in (ask_in bytes strict) (tail_in bytes);
}

-- The bytes begin with an instruction that has these parts.
pub record Decodes (strict : Bool) (bytes : List ℕ) (parts : PartLists) : Type 0 where
  pub instruction : Instruction
  pub accepted : answer_of strict bytes ≡ Ok instruction
  pub same : parts_of strict bytes ≡ parts
