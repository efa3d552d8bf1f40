-- The letters of an entry.
use Rattle.std.proofs.Common.{◌≡◌, refl}
use Rattle.x86_operands.specs.declared.operands.Slot.{Slot}
use Rattle.x86_operands.specs.declared.operands.Slot.TheVariants as slots
use Rattle.x86_objdump.specs.declared.text.names.Entry.{Entry}
use Rattle.x86_objdump.specs.Text.Entries.{reg_letter, rm_letter}
use Rattle.x86_objdump.specs.Text.Sizes.{slot_letter}

pub every_slot : (e : Entry) (slot : Slot) → reg_letter e ≡ 45 → rm_letter e ≡ 45 → slot_letter e slot ≡ 45
every_slot e slots.Reg reg rm = reg
every_slot e slots.Rm reg rm = rm
every_slot e slot reg rm = refl
