-- The map by the first two bytes after the run, and which bytes a row has after its opcode byte.
use Rattle.std.specs.Prelude.{ℕ, ◌==◌, ◌&&◌, Bool, if◌then◌else◌}
use Rattle.x86_fields.specs.ModRM.{rm_field}
use Rattle.x86_forms.specs.declared.Map.{Map}
use Rattle.x86_forms.specs.declared.Map.TheVariants.{One, Of, Of38, Of3a}
use Rattle.x86_operands.specs.declared.asks.Ask.{Ask}

abbrev pub map_of : ℕ → ℕ → Map
map_of first second =
    if first == 0x0f
    then (if second == 0x38 then Of38 else (if second == 0x3a then Of3a else Of))
    else One

abbrev pub one_if : Bool → ℕ
one_if flag = if flag then 1 else 0

-- whether there is a SIB, known from what the row has and the byte after the opcode
abbrev pub has_sib : Ask → ℕ → Bool
has_sib ask modrm = ask.memory && rm_field modrm == 4
