-- How a row goes on after its opcode byte, and a row that is read at once at a ModRM byte.
use Rattle.std.specs.Prelude.{ℕ, ◌<◌, Bool, true, None, ◌≡◌, ◌==◌, if◌then◌else◌, ⊤}
use Rattle.x86_groups.specs.Vocabulary.{After, EitherForm, Names, Prefixes, TableRow, rm_field}
use Rattle.x86_groups.specs.declared.rows.SureRow.{SureRow}
use Rattle.x86_operands.specs.declared.vocabulary.ModrmUse.TheVariants.{Absent}
use Rattle.x86_operands.specs.declared.rows.Names.TheVariants.{ByRm}
use Rattle.x86_operands.specs.Columns.{name_at}
use Rattle.x86_operands.specs.Records.{RowRecord, template_instance}
use Rattle.x86_operands.specs.Templates.{is_read_at}
use Rattle.x86_groups.specs.Groups.{record_of}

-- no ModRM, or a ModRM of either form, and no refusal before it
abbrev pub Continues : After → RowRecord → Type 0
Continues After.Search r = ⊤
Continues After.Nothing r = (r.at_opcode ≡ None) × (r.modrm ≡ Absent)
Continues after r = (r.at_opcode ≡ None) × (r.modrm ≡ EitherForm)

abbrev number_by_rm : Names → ℕ → ℕ
number_by_rm (ByRm names) m = name_at names (rm_field m)
number_by_rm names m = 0

-- The number of a row's operation at a ModRM byte: that of its cell, and where this is 0 the one that rm names.
abbrev pub operation_number : ℕ → Names → ℕ → ℕ
operation_number number names m = if number == 0 then number_by_rm names m else number

-- a row that is read at once at this ModRM byte
pub record IsReadAt (m : ℕ) (u : SureRow) : Type 0 where
  pub small : u.register < 8
  pub fits : is_read_at u.template.now m ≡ true

-- Its template says the instance of the row in the opcode map at this ModRM byte.
pub record IsSure (row : TableRow) (m : ℕ) (u : SureRow) : Type 0 where
  pub at_once : IsReadAt m u
  pub instance : (strict : Bool) (p : Prefixes) → template_instance u.template.now u.register u.opcode p m ≡ (record_of strict row p).instance m
