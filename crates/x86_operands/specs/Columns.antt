-- What the columns of a row mean. A row says where it is (the form of ModRM, reg, rm, the prefixes) and what it has
-- there: a name and operands, or a refusal. The first row that holds counts. `own` is the row in the opcode map. What the
-- letters of operands mean is in RowSteps. Source: Intel SDM volume 2, appendix A.4 (the columns of its tables of opcode
-- extensions).
use Rattle.std.specs.Prelude.{ℕ, nat_le, ◌==◌, Bool, true, not, ◌&&◌, ◌||◌, if◌then◌else◌, List, [], ◌∷◌, slice_index_or, unwrap_or}
use Rattle.x86_operands.specs.Vocabulary.{Prefixes, TableRow, BadOpcode, reg_field, rm_field, is_memory, operand_size}
use Rattle.x86_operands.specs.Vocabulary.{address_size, has_r, has_w, has_b, repnz, rep}
use Rattle.x86_operands.specs.RowVocabulary.{ByReg, ByRm, Memory, Name, Names, Own, Place, Reg, Register, Rm, TemplateRow, When}
use Rattle.x86_operands.specs.Words.{AtModRM, otherwise}
use Rattle.x86_opcodes.specs.Names.{Invalid}
use Rattle.x86_opcodes.specs.Numbers.{opcode_numbered}
use Rattle.x86_forms.specs.Words.{carried}
use Rattle.x86_operands.specs.Encodings.{size_bytes}
use Rattle.x86_operands.specs.Records.{Instance, reads}
use Rattle.x86_operands.specs.Templates.{size_at}
use Rattle.x86_operands.specs.declared.rows.Reg.TheVariants as regs
use Rattle.x86_operands.specs.declared.rows.Rm.TheVariants as rms
use Rattle.x86_operands.specs.declared.rows.When.TheVariants as when

-- ---- where a row is

-- the memory forms of ModRM, the register forms, both, and no ModRM byte
abbrev pub is_placed : Place → ℕ → Bool
is_placed Memory m = is_memory m
is_placed Register m = not (is_memory m)
is_placed place m = true

abbrev pub is_reg : Reg → ℕ → Bool
is_reg regs.Any m = true
is_reg (regs.Is n) m = reg_field m == n
is_reg (regs.From first last) m = nat_le first (reg_field m) && nat_le (reg_field m) last

abbrev pub is_rm : Rm → Bool → ℕ → Bool
is_rm rms.Any strict m = true
is_rm (rms.Is n) strict m = rm_field m == n
is_rm rms.ZeroIfStrict strict m = not strict || (rm_field m == 0)

-- Intel's columns of the mandatory prefix, more for rows that 66, 67, W, R or B chooses alone, and one for an opcode
abbrev pub is_prefixed : When → TableRow → Prefixes → Bool
is_prefixed when.Always own p = true
is_prefixed when.NoPrefix own p = not (repnz p) && (not (rep p) && not (operand_size p))
is_prefixed when.NoRepeat own p = not (repnz p) && not (rep p)
is_prefixed when.Only66 own p = not (repnz p) && (not (rep p) && operand_size p)
is_prefixed when.F2 own p = repnz p
is_prefixed when.F3 own p = rep p
is_prefixed when.With66 own p = operand_size p
is_prefixed when.With67 own p = address_size p
is_prefixed when.RexW own p = has_w p
is_prefixed when.RexR own p = has_r p
is_prefixed when.Register0 own p = (carried own.form == 0) && not (has_b p)
is_prefixed (when.Opcode n) own p = n == own.opcode

-- the name at an index; a list of eight names has `none` where the row isn't
abbrev pub none : ℕ
none = 0

abbrev pub name_at : List ℕ → ℕ → ℕ
name_at names n = slice_index_or names n none

abbrev pub is_named : Names → ℕ → Bool
is_named (ByReg names) m = not (name_at names (reg_field m) == none)
is_named (ByRm names) m = not (name_at names (rm_field m) == none)
is_named names m = true

abbrev pub is_there : TemplateRow → TableRow → Bool → Prefixes → ℕ → Bool
is_there row own strict p m =
    is_placed row.at.place m
    && (is_reg row.at.reg m
    && (is_rm row.at.rm strict m
    && (is_prefixed row.when own p
    && is_named row.names m)))

-- the first row that is there; where none is, the opcode is refused
abbrev pub choose : List TemplateRow → TableRow → Bool → Prefixes → ℕ → TemplateRow
choose [] own strict p m = otherwise BadOpcode AtModRM
choose (row ∷ rest) own strict p m = if is_there row own strict p m then row else choose rest own strict p m

-- ---- the opcode

-- the opcode of a number in a table; one that no name has is Invalid
abbrev pub named : ℕ → ℕ
named n = unwrap_or (opcode_numbered n) Invalid

abbrev pub opcode_of : Names → TableRow → ℕ → ℕ
opcode_of Own own m = own.opcode
opcode_of (Name n) own m = named n
opcode_of (ByReg names) own m = named (name_at names (reg_field m))
opcode_of (ByRm names) own m = named (name_at names (rm_field m))

-- ---- the instance of a row

-- what a row has at a ModRM byte
abbrev pub instance_of_row : TemplateRow → TableRow → Prefixes → ℕ → Instance
instance_of_row row own p m =
    record (reads (opcode_of row.names own m) row.template (carried own.form) p (size_bytes (size_at row.template m) own.opcode p)) {
      change = row.change;
      verdict = row.verdict;
    }
