-- Instructions: what a reading holds, with the length of its encoding.
use Rattle.std.specs.Prelude.{◌≡◌, ℕ, ◌<◌, min, ◌==◌, ◌&&◌, ◌||◌, not, Bool, true, false, if◌then◌else◌, Option, Some, None, List, [], ◌∷◌}
use Rattle.std.specs.Prelude.{take, Result, Ok, Err}
use Rattle.x86_regs.specs.declared.Segment.{Segment}
use Rattle.x86_regs.specs.declared.Segment.TheVariants.{DS, ES}
use Rattle.x86_opcodes.specs.Names.{Invalid, MOVS, CMPS, XCHG, MOV}
use Rattle.x86_fields.specs.declared.errors.DecodeError.{DecodeError}
use Rattle.x86_fields.specs.Prefixes.{lock, segment}
use Rattle.x86_fields.specs.Run.{reading_of, repnz, rep}
use Rattle.x86_operands.specs.declared.reader.Reading.{Reading}
use Rattle.x86_operands.specs.declared.operands.Slot.{Slot}
use Rattle.x86_operands.specs.declared.operands.Slot.TheVariants as slots
use Rattle.x86_operands.specs.declared.operands.Operand.{Operand}
use Rattle.x86_operands.specs.declared.operands.MemoryAccessSize.{MemoryAccessSize}
use Rattle.x86_operands.specs.Operands.{access_size, is_memory_slot}
use Rattle.x86_operands.specs.declared.places.Places.{Places}
use Rattle.x86_operands.specs.Places.{no_places}
use Rattle.x86_operands.specs.OperandList.{operand_in, slot_in}
use Rattle.x86_operands.specs.RowSteps.{no_operands, reading_with}
use Rattle.x86_decode.specs.declared.instructions.Instruction.{Instruction}
use Rattle.x86_decode.specs.declared.instructions.Shown.{Shown}

-- what was read, in an encoding whose parts end there and that has this length
abbrev pub instruction_of : Reading → Places → ℕ → Instruction
instruction_of r places length = record {
  prefixes = r.prefixes;
  opcode = r.opcode;
  places = places;
  operand_list = record { slots = r.slots; operands = r.operands; count = r.count; mem_size = r.mem_size };
  length = length;
}

-- what an instruction has of a reading
abbrev pub reading_in : Instruction → Reading
reading_in i = reading_with i.opcode i.prefixes i.operand_list

-- where the parts of its encoding end
abbrev pub places_in : Instruction → Places
places_in i = i.places

-- the instruction that means none
abbrev pub invalid_instruction : Instruction
invalid_instruction = record {
  prefixes = reading_of [];
  opcode = Invalid;
  places = no_places;
  operand_list = no_operands;
  length = 0;
}

-- the answer, where Ok holds this instruction
abbrev pub holding : Instruction → Result (Unit {0}) DecodeError → Result Instruction DecodeError
holding inst (Ok x) = Ok inst
holding inst (Err e) = Err e

-- ---- the accessors of an instruction

abbrev pub opcode : Instruction → ℕ
opcode i = i.opcode

-- how many operands there are, of the four for which there is room
abbrev pub operand_count : Instruction → ℕ
operand_count i = min i.operand_list.count 4

-- how many bytes the encoding has
abbrev pub length_of : Instruction → ℕ
length_of i = i.length

-- the same in an encoding of another length
abbrev pub with_length : Instruction → ℕ → Instruction
with_length i length = record i { length = length }

-- the memory size: 0 where the row has none, 63 where the processor decides
abbrev pub mem_size_number : Instruction → ℕ
mem_size_number i = i.operand_list.mem_size

-- the slot and the operand at an index: nothing at the count and above
abbrev pub slot_at : Instruction → ℕ → Slot
slot_at i k = slot_in i.operand_list k

abbrev pub operand_at : Instruction → ℕ → Operand
operand_at i k = operand_in i.operand_list k

-- the operands that an instruction has, of the four for which it has room
abbrev pub operands_of : Instruction → List Operand
operands_of i = take (operand_count i) (operand_at i 0 ∷ operand_at i 1 ∷ operand_at i 2 ∷ operand_at i 3 ∷ [])

-- the memory size, where the row has one
abbrev pub mem_size_of : Instruction → Option MemoryAccessSize
mem_size_of i = if mem_size_number i == 0 then None else Some (access_size (mem_size_number i))

abbrev pub is_rm_slot : Slot → Bool
is_rm_slot slots.Rm = true
is_rm_slot s = false

-- a segment other than the default one
abbrev pub unless_ds : Segment → Option Segment
unless_ds DS = None
unless_ds s = Some s

-- the segment of the operand at an index, where it isn't the default one
abbrev pub segment_override_for_op : Instruction → ℕ → Option Segment
segment_override_for_op i k =
    if i.opcode == MOVS then (if k == 0 then Some ES else (if k == 1 then Some (segment i.prefixes) else None))
    else (if i.opcode == CMPS then (if k == 0 then Some (segment i.prefixes) else (if k == 1 then Some ES else None))
    else (if is_memory_slot (slot_at i k) then unless_ds (segment i.prefixes) else None))

-- XCHG with neither slot 0 nor slot 1 a register of rm
abbrev pub exchanges_memory : Instruction → Bool
exchanges_memory i = (i.opcode == XCHG) && (not (is_rm_slot (slot_at i 0)) && not (is_rm_slot (slot_at i 1)))

-- the slots of what MOV may store with a release: a register of reg, or a signed immediate
abbrev pub is_release_slot : Slot → Bool
is_release_slot slots.Reg = true
is_release_slot slots.ImmI8 = true
is_release_slot slots.ImmI16 = true
is_release_slot slots.ImmI32 = true
is_release_slot slots.ImmI64 = true
is_release_slot s = false

-- Source: Intel SDM volume 2, XACQUIRE/XRELEASE.
abbrev pub xacquire : Instruction → Bool
xacquire i = repnz i.prefixes && (lock i.prefixes || exchanges_memory i)

abbrev pub xrelease : Instruction → Bool
xrelease i = rep i.prefixes && (lock i.prefixes ||
    (exchanges_memory i || ((i.opcode == MOV) && (not (is_rm_slot (slot_at i 0)) && is_release_slot (slot_at i 1)))))

-- what equality looks at: all but the length and the places, and of slots and operands those below the count
abbrev pub shown_of : Instruction → Shown
shown_of i = record {
  prefixes = i.prefixes;
  opcode = i.opcode;
  count = i.operand_list.count;
  mem_size = i.operand_list.mem_size;
  slots = slot_at i 0 ∷ slot_at i 1 ∷ slot_at i 2 ∷ slot_at i 3 ∷ [];
  operands = operand_at i 0 ∷ operand_at i 1 ∷ operand_at i 2 ∷ operand_at i 3 ∷ [];
}

-- All that equality looks at is the same.
pub record IsSameInstruction (a b : Instruction) : Type 0 where
  pub prefixes : a.prefixes ≡ b.prefixes
  pub opcode : a.opcode ≡ b.opcode
  pub count : a.operand_list.count ≡ b.operand_list.count
  pub mem_size : a.operand_list.mem_size ≡ b.operand_list.mem_size
  pub slots : (k : ℕ) → k < 4 → slot_at a k ≡ slot_at b k
  pub operands : (k : ℕ) → k < 4 → operand_at a k ≡ operand_at b k
