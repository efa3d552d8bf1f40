-- The records of the groups: forms of which ModRM or a suffix chooses the operation. With them every row of the opcode
-- maps has its record. Source: Intel SDM volume 2, appendix A.4.
use Rattle.std.specs.Prelude.{ℕ, Bool, true, false, not, ◌&&◌, if◌then◌else◌, Option, Some, None, is_some, List, [], ◌∷◌, ◌≡◌, ◌≢◌}
use Rattle.x86_regs.specs.declared.Segment.{Segment}
use Rattle.x86_groups.specs.Vocabulary.{Prefixes, Fault, BadOpcode, BadOperand, Refuses, ModrmUse, EitherForm, Registers, Form, TableRow}
use Rattle.x86_groups.specs.Vocabulary.{rep, repnz, reg_field, rm_field, is_memory, operand_size}
use Rattle.x86_fields.specs.Prefixes.{operand_size, address_size, lock, segment, rex}
use Rattle.x86_forms.specs.Groups.{is_group}
use Rattle.x86_operands.specs.Orders.{E}
use Rattle.x86_operands.specs.Records.{Instance, RowRecord, reads}
use Rattle.x86_operands.specs.Forms.{form_record}
use Rattle.x86_forms.specs.declared.Form.TheVariants as form
use Rattle.x86_operands.specs.Columns.{choose, instance_of_row}
use Rattle.x86_operands.specs.Words.{M, Zero}
use Rattle.x86_operands.specs.declared.vocabulary.OperandEncoding.{OperandEncoding}
use Rattle.x86_groups.specs.Rows.{group_rows}
use Rattle.x86_opcodes.specs.Names.{Invalid, LFENCE, MFENCE, SFENCE}

-- ---- at the opcode, and ModRM

-- neither 64 nor 65 chose a segment
abbrev pub is_no_override : Segment → Bool
is_no_override Segment.DS = true
is_no_override s = false

-- F3 is in force, and nothing else: no 66, 67, LOCK, FS, GS or live REX
unfoldable pub is_f3_alone : Prefixes → Bool
is_f3_alone p =
    rep p && not (operand_size p) && not (address_size p) && not (lock p) && is_no_override (segment p) && not (is_some (rex p))

-- HRESET alone refuses at the opcode. Source: Intel SDM volume 2, HRESET
abbrev pub group_fault : Form → Prefixes → Option Fault
group_fault form.ModRM_0xf30f3af0 p = if is_f3_alone p then None else Some BadOpcode
group_fault f p = None

-- mod isn't looked at in moves from and to control and debug registers
abbrev pub group_modrm : Form → ModrmUse
group_modrm form.Rq_Cq_0 = Registers
group_modrm form.Rq_Dq_0 = Registers
group_modrm form.Cq_Rq_0 = Registers
group_modrm form.Dq_Rq_0 = Registers
group_modrm f = EitherForm

-- ---- the instance and the record of a row whose form is a group

-- under the prefixes, at a ModRM byte and under the choice
unfoldable pub group_instance : TableRow → Prefixes → ℕ → Bool → Instance
group_instance row p m strict = instance_of_row (choose (group_rows row.form) row strict p m) row p m

unfoldable pub group_record : Bool → TableRow → Prefixes → RowRecord
group_record strict row p = record { at_opcode = group_fault row.form p; modrm = group_modrm row.form; instance = λ m. group_instance row p m strict }

-- ---- the record of a row, under the choice

abbrev pub record_of : Bool → TableRow → Prefixes → RowRecord
record_of strict row p = if is_group row.form then group_record strict row p else form_record row p

-- no operand and no memory, and a refusal of the operand after ModRM
abbrev pub operandless : ℕ → Prefixes → Instance
operandless opcode p = reads opcode Zero 0 p 0

abbrev pub bad_operand : Prefixes → Instance
bad_operand p = record (operandless Invalid p) { verdict = Refuses BadOperand }

-- the parts that operands are
abbrev pub operand_encodings : Instance → List OperandEncoding
operand_encodings instance = instance.rm ∷ instance.reg ∷ instance.last ∷ instance.extra ∷ []

-- its one operand is memory at ModRM's address
abbrev pub TakesAddress : Instance → Type 0
TakesAddress instance = (instance.order ≡ E) × (instance.rm ≡ M)

-- ---- where the choices differ. Source: Intel SDM volume 2, appendix A.4, group 15

-- The fence that reg names.
pub data NamesFence (m : ℕ) : ℕ → Type 0 where
  lfence : reg_field m ≡ 5 → NamesFence m LFENCE
  mfence : reg_field m ≡ 6 → NamesFence m MFENCE
  sfence : reg_field m ≡ 7 → NamesFence m SFENCE

-- LFENCE, MFENCE or SFENCE, with an rm other than 0: 0F AE without F2, F3 and 66, in the register form.
pub record IsFenceWithRm (f : Form) (p : Prefixes) (m : ℕ) : Type 0 where
  pub opcode : ℕ
  pub group : f ≡ form.ModRM_0x0fae
  pub no_f2 : repnz p ≡ false
  pub no_f3 : rep p ≡ false
  pub no_66 : operand_size p ≡ false
  pub register : is_memory m ≡ false
  pub named : NamesFence m opcode
  pub other_rm : rm_field m ≢ 0
