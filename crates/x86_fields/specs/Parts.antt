-- The parts of an encoding, as slices of its bytes.
use Rattle.std.specs.Prelude.{◌≡◌, ◌≤◌, ℕ, List, length}
use Rattle.x86_fields.specs.declared.parts.Parts.{Parts}

-- the parts of an encoding, as lists of bytes
pub record PartLists : Type 0 where
  pub prefixes : List ℕ
  pub escape : List ℕ
  pub opcode : List ℕ
  pub modrm : List ℕ
  pub sib : List ℕ
  pub displacement : List ℕ
  pub immediate : List ℕ
  pub suffix : List ℕ

-- the bytes of the slices
abbrev pub lists_of : Parts → PartLists
lists_of p = record {
  prefixes = p.prefixes.now;
  escape = p.escape.now;
  opcode = p.opcode.now;
  modrm = p.modrm.now;
  sib = p.sib.now;
  displacement = p.displacement.now;
  immediate = p.immediate.now;
  suffix = p.suffix.now;
}

-- The parts have lengths that fields can hold.
pub record HasFieldLengths (p : PartLists) : Type 0 where
  pub prefixes : length p.prefixes ≤ 14
  pub escape : length p.escape ≤ 2
  pub opcode : length p.opcode ≡ 1
  pub modrm : length p.modrm ≤ 1
  pub sib : length p.sib ≤ 1
  pub displacement : length p.displacement ≤ 4
  pub immediate : length p.immediate ≤ 8
  pub suffix : length p.suffix ≤ 1
