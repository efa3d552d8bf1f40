-- The ModRM memory operand of a sentence, and its raw fields.
use Rattle.std.specs.Prelude.{ℕ, Bool, Option, List}
use Rattle.x86_fields.specs.declared.raw.Raw.{Raw}
use Rattle.x86_fields.specs.Run.{reading_of}
use Rattle.x86_operands.specs.declared.reader.Reading.{Reading}
use Rattle.x86_operands.specs.Records.{Instance}
use Rattle.x86_operands.specs.Asks.{modrm_of}
use Rattle.x86_decode.specs.Head.{Rows, seen_by}
use Rattle.x86_groups.specs.Groups.{record_of}
use Rattle.x86_decode.specs.Grammar.{Whole}
pub use Rattle.x86_operands.specs.Pieces.{names_modrm, writes_modrm}

module _ (rows : Rows) (strict : Bool) (s : List ℕ) (reading : Reading) (w : Whole rows strict s reading) where
  -- the instance that the record of the encoding's row has at its ModRM
  abbrev pub instance_within : Instance
  instance_within = let r = record_of strict w.row (seen_by w.map w.opcode (reading_of w.run)) in r.instance (modrm_of r.modrm w.row_spelled.modrm)

  -- the raw fields, in the memory form
  abbrev pub raw_within : Option Raw
  raw_within = w.row_spelled.tail_spelled.pieces.memory
