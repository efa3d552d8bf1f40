-- Instructions that are the same but for a memory operand of ModRM.
use Rattle.std.specs.Prelude.{◌≡◌, ℕ, false, Option, List}
use Rattle.x86_fields.specs.declared.prefixes.Prefixes.{Prefixes}
use Rattle.x86_fields.specs.declared.raw.Raw.{Raw}
use Rattle.x86_fields.specs.Prefixes.{address_size, rex, with_rex}
use Rattle.x86_fields.specs.Linear.{raw_form, IsSameAddress}
use Rattle.x86_operands.specs.declared.operands.Slot.{Slot}
use Rattle.x86_operands.specs.declared.operands.Operand.{Operand}
use Rattle.x86_operands.specs.Operands.{shape, operand_address}
use Rattle.x86_decode.specs.declared.instructions.Instruction.{Instruction}
use Rattle.x86_decode.specs.Instruction.{opcode, operand_count, mem_size_number, slot_at, operand_at}
use Rattle.x86_layout.specs.Tightening.Tighten.{bits_in}

-- prefixes with X and B of a live REX cleared
abbrev pub cleared : Prefixes → Prefixes
cleared p = with_rex p (bits_in false false (rex p))

-- the slot and the operand at an index: nothing at the count and above
abbrev pub placed_at : Instruction → ℕ → Slot × Operand
placed_at i k = (slot_at i k, operand_at i k)

-- the address of the operand at a place, where it is memory, under the 67 of its instruction
abbrev pub address_at : Instruction → ℕ → List ℕ → ℕ → Option ℕ
address_at i k regs next = operand_address (address_size i.prefixes) (operand_at i k) regs next

-- the raw fields of the one, and of the other
module _ (from to : Raw) where
  -- A slot and an operand are the same in both, or are the shape of one's raw fields and the shape of the other's.
  pub data IsSameOrShape (x y : Slot × Operand) : Type 0 where
    unchanged : y ≡ x → IsSameOrShape x y
    shapes : x ≡ shape from → y ≡ shape to → IsSameOrShape x y

  -- The instruction b is a, but for X and B of a live REX and for memory operands of ModRM, whose raw fields have the
  -- same address.
  pub record IsSameButInMemory (a b : Instruction) : Type 0 where
    pub opcode : opcode b ≡ opcode a
    pub prefixes : cleared b.prefixes ≡ cleared a.prefixes
    pub count : operand_count b ≡ operand_count a
    pub mem_size : mem_size_number b ≡ mem_size_number a
    pub operands : (k : ℕ) → IsSameOrShape (placed_at a k) (placed_at b k)
    pub address : IsSameAddress (raw_form to) (raw_form from)
