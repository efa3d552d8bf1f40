-- Where control goes after an instruction, and where it branches to.
use Rattle.std.specs.Prelude.{ℕ, ◌+◌, ◌%◌, ◌^◌, ◌==◌, ◌&&◌, ◌||◌, Bool, true, false, if◌then◌else◌, Option, Some, None, List, [], ◌∷◌, ℤ, pos}
use Rattle.std.specs.Int.{w64, cast_unsigned}
use Rattle.x86_opcodes.specs.Kinds.{is_among, jumps}
use Rattle.x86_opcodes.specs.Names.{CALL, CALLF, JMP, JMPF, LOOPNZ, LOOPZ, LOOP, JRCXZ, JECXZ, XBEGIN, RETURN, RETF, IRET, IRETD, IRETQ}
use Rattle.x86_opcodes.specs.Names.{UIRET, SYSRET, SYSEXIT, RSM, HLT, INT, UD0, UD1, UD2}
use Rattle.x86_operands.specs.declared.operands.Slot.{Slot}
use Rattle.x86_operands.specs.declared.operands.Slot.TheVariants.{ImmI8, ImmI32}
use Rattle.x86_operands.specs.declared.operands.Operand.{Operand}
use Rattle.x86_operands.specs.declared.operands.Operand.TheVariants.{ImmediateI8, ImmediateI32}
use Rattle.x86_decode.specs.declared.instructions.Instruction.{Instruction}
use Rattle.x86_decode.specs.Instruction.{opcode, length_of, places_in, slot_at, operand_at}
use Rattle.x86_layout.specs.declared.sweeps.control.Flow.{Flow}
use Rattle.x86_layout.specs.declared.sweeps.control.Flow.TheVariants as flows

-- ---- targets

abbrev pub is_offset_slot : Slot → Bool
is_offset_slot ImmI8 = true
is_offset_slot ImmI32 = true
is_offset_slot s = false

-- the number of a signed immediate of 8 or 32 bits
abbrev pub offset_of : Operand → ℤ
offset_of (ImmediateI8 imm) = imm
offset_of (ImmediateI32 imm) = imm
offset_of o = pos 0

-- the address after the instruction, plus the sign-extended immediate, modulo 2^64
abbrev pub relative_target : Instruction → ℕ → ℕ
relative_target i next = (next + cast_unsigned w64 (offset_of (operand_at i 0))) % 2 ^ 64

-- the target, where an immediate has it
abbrev pub direct_target : Instruction → ℕ → Option ℕ
direct_target i next = if is_offset_slot (slot_at i 0) then Some (relative_target i next) else None

-- the operations that may have a relative target, beside Jcc (Intel SDM volume 2: CALL, JMP, LOOP/LOOPcc)
abbrev pub branches : List ℕ
branches = CALL ∷ JMP ∷ LOOPNZ ∷ LOOPZ ∷ LOOP ∷ JRCXZ ∷ JECXZ ∷ []

abbrev pub branch_target : Instruction → ℕ → Option ℕ
branch_target i next = if is_among branches (opcode i) || is_among jumps (opcode i) then direct_target i next else None

-- ---- flows

-- near and far calls (Intel SDM volume 2, CALL)
abbrev pub calls : List ℕ
calls = CALL ∷ CALLF ∷ []

-- near and far jumps (Intel SDM volume 2, JMP)
abbrev pub unconditional_jumps : List ℕ
unconditional_jumps = JMP ∷ JMPF ∷ []

-- branches with a condition beside Jcc: that of a register, and the abort of a transaction (Intel SDM volume 2, Jcc,
-- LOOP/LOOPcc, XBEGIN)
abbrev pub other_branches : List ℕ
other_branches = LOOPNZ ∷ LOOPZ ∷ LOOP ∷ JRCXZ ∷ JECXZ ∷ XBEGIN ∷ []

-- returns to an address that the stack, a register or saved state has (Intel SDM volume 2, RET, IRET/IRETD/IRETQ, UIRET,
-- SYSRET, SYSEXIT, RSM)
abbrev pub returns_from : List ℕ
returns_from = RETURN ∷ RETF ∷ IRET ∷ IRETD ∷ IRETQ ∷ UIRET ∷ SYSRET ∷ SYSEXIT ∷ RSM ∷ []

-- what halts, and what always raises #UD (Intel SDM volume 2, HLT, UD)
abbrev pub stops : List ℕ
stops = HLT ∷ UD0 ∷ UD1 ∷ UD2 ∷ []

-- INT1 and INT3, which end with their opcode byte; that of INT n is before its number (Intel SDM volume 2, INT
-- n/INTO/INT3/INT1)
abbrev pub is_trap : Instruction → Bool
is_trap i = opcode i == INT && (length_of i == (places_in i).opcode_end)

abbrev pub flow_of : Instruction → ℕ → Flow
flow_of i next =
    if is_among calls (opcode i) then flows.Call (direct_target i next)
    else (if is_among unconditional_jumps (opcode i) then flows.Jump (direct_target i next)
    else (if is_among jumps (opcode i) || is_among other_branches (opcode i) then flows.Branch (relative_target i next)
    else (if is_among returns_from (opcode i) then flows.Return
    else (if is_among stops (opcode i) || is_trap i then flows.Stop
    else flows.Next))))

-- the target that is known
abbrev pub target_in : Flow → Option ℕ
target_in (flows.Call target) = target
target_in (flows.Jump target) = target
target_in (flows.Branch target) = Some target
target_in f = None
