-- The operands of an instruction as they are written, and at an index.
use Rattle.std.specs.Prelude.{ℕ, if◌then◌else◌, Result, Ok, Err, nat_lt, slice_index_or}
use Rattle.x86_operands.specs.Vocabulary.{Prefixes, DecodeError, Template, Slot, Operand, Operands}
use Rattle.x86_operands.specs.Encodings.{bytes_under}
use Rattle.x86_operands.specs.Templates.{size_at}
use Rattle.x86_operands.specs.declared.operands.Slot.TheVariants as slots
use Rattle.x86_operands.specs.declared.operands.Operand.TheVariants as operands
use Rattle.x86_operands.specs.RowSteps.{sized}

-- what was written, where the reading is Ok
abbrev pub value_if_ok : {X : Type 0} → Result (Unit {0}) DecodeError → X → Result X DecodeError
value_if_ok (Ok u) x = Ok x
value_if_ok (Err e) x = Err e

-- no operand yet, with the count and the memory size of a template whose sizes no operation decides
abbrev pub sized_by : Template → Prefixes → ℕ → Operands
sized_by t p m = sized t.order.count (bytes_under (size_at t m) p)

-- with the memory size of such a template
abbrev pub with_size : Template → Prefixes → ℕ → Operands → Operands
with_size t p m operand_list = record operand_list { mem_size = bytes_under (size_at t m) p }

-- the slot and the operand at an index: nothing at the count and above
abbrev pub slot_in : Operands → ℕ → Slot
slot_in operand_list k = if nat_lt k operand_list.count then slice_index_or operand_list.slots k slots.Nothing else slots.Nothing

abbrev pub operand_in : Operands → ℕ → Operand
operand_in operand_list k = if nat_lt k operand_list.count then slice_index_or operand_list.operands k operands.Nothing else operands.Nothing
