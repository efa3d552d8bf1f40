-- The parts that fields hold.
use Rattle.std.specs.Prelude.{[], ◌∷◌}
use Rattle.x86_fields.specs.Pieces.{option_bytes}
use Rattle.x86_fields.specs.Parts.{PartLists}
use Rattle.x86_layout.specs.declared.parts.fields.Fields.{Fields}

-- the bytes of each part
abbrev pub lists_in : Fields → PartLists
lists_in f = record {
  prefixes = f.prefixes.items;
  escape = f.escape.items;
  opcode = f.opcode ∷ [];
  modrm = option_bytes f.modrm;
  sib = option_bytes f.sib;
  displacement = f.displacement.items;
  immediate = f.immediate.items;
  suffix = option_bytes f.suffix;
}
