-- The line of the parts of an encoding.
use Rattle.std.specs.Prelude.{ℕ, List, [], ◌∷◌, ◌++◌, length, codes, decimal}
use Rattle.std.specs.List.{flat_map, sum_by}
use Rattle.hex.specs.Hex.{encode_lower}
use Rattle.x86_fields.specs.Parts.{PartLists}

-- the parts in their order
abbrev pub in_order : PartLists → List (List ℕ)
in_order p = p.prefixes ∷ p.escape ∷ p.opcode ∷ p.modrm ∷ p.sib ∷ p.displacement ∷ p.immediate ∷ p.suffix ∷ []

-- the hex digits of a part, or a dash where it is empty
abbrev pub part_text : List ℕ → List ℕ
part_text [] = codes "-"
part_text (b ∷ bs) = encode_lower (b ∷ bs)

abbrev pub spaced : List ℕ → List ℕ
spaced part = codes " " ++ part_text part

-- PLACE LENGTH, and each part after a space
unfoldable pub fields_line : ℕ → PartLists → List ℕ
fields_line place p =
    decimal place ++ codes " " ++ decimal (sum_by length (in_order p)) ++ flat_map spaced (in_order p)
