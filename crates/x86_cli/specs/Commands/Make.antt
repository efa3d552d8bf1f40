-- The encodings that `make` makes, and what it counts of their answers.
use Rattle.std.specs.Prelude.{ℕ, zero, suc, ◌+◌, ◌/◌, ◌%◌, ◌==◌, ◌||◌, Bool, true, false, if◌then◌else◌, List, [], ◌∷◌, ◌++◌, length, take}
use Rattle.std.specs.Prelude.{Result, Ok, Err, Some, None, option_to_list, codes, decimal}
use Rattle.std.specs.Int.{w32, to_le_bytes}
use Rattle.x86_regs.specs.declared.RegisterClass.{RegisterClass}
use Rattle.x86_regs.specs.Register.{class}
use Rattle.x86_fields.specs.declared.errors.DecodeError.{DecodeError}
use Rattle.x86_fields.specs.ModRM.{rm_field}
use Rattle.x86_fields.specs.Raw.{displacement_width}
use Rattle.x86_operands.specs.declared.operands.Operand.{Operand}
use Rattle.x86_decode.specs.declared.instructions.Instruction.{Instruction}
use Rattle.x86_decode.specs.Instruction.{operand_at}
use Rattle.x86_decode.specs.Answer.{answer_of}
use Rattle.x86_layout.specs.Parts.Heads.{one_if}
use Rattle.x86_cli.specs.declared.commands.make.Tally.{Tally}
use Rattle.x86_cli.specs.declared.listings.status.Status.TheVariants.{Done}
use Rattle.x86_cli.specs.Listings.Line.{line}
use Rattle.x86_cli.specs.Listings.Listing.{Listing}

-- encoding i: opcode 03, a ModRM of the memory form, SIB where ModRM requires one, and a displacement of i's first bytes
-- (the memory forms are the ModRM bytes below 192, whose mod is 00, 01 or 10)
unfoldable pub generate : ℕ → List ℕ
generate i =
    let modrm = i % 192 in
    let sib = if rm_field modrm == 4 then Some ((i / 192) % 256) else None in
    (0x03 ∷ modrm ∷ []) ++ option_to_list sib ++ take (displacement_width modrm sib) (to_le_bytes w32 i)

-- what is counted of an answer
abbrev pub is_rip : RegisterClass → Bool
is_rip RegisterClass.RIP = true
is_rip c = false

abbrev pub is_at_rip : Operand → Bool
is_at_rip (Operand.MemDeref base) = is_rip (class base)
is_at_rip (Operand.Disp base d) = is_rip (class base)
is_at_rip (Operand.MemBaseIndexScale base i s) = is_rip (class base)
is_at_rip (Operand.MemBaseIndexScaleDisp base i s d) = is_rip (class base)
is_at_rip op = false

abbrev pub is_absolute : Operand → Bool
is_absolute (Operand.AbsoluteU32 n) = true
is_absolute op = false

-- whether one of the operands of an instruction passes a test
abbrev pub answer_has : (Operand → Bool) → Result Instruction DecodeError → Bool
answer_has test (Ok i) = test (operand_at i 0) || (test (operand_at i 1) || (test (operand_at i 2) || test (operand_at i 3)))
answer_has test (Err e) = false

-- the bytes of the first n encodings, and how many of their answers have an operand at rip, and an absolute one
unfoldable pub tally_of : ℕ → Tally
tally_of zero = record { bytes = 0; at_rip = 0; absolute = 0 }
tally_of (suc n) =
    let answer = answer_of false (generate n) in record {
      bytes = (tally_of n).bytes + length (generate n);
      at_rip = (tally_of n).at_rip + one_if (answer_has is_at_rip answer);
      absolute = (tally_of n).absolute + one_if (answer_has is_absolute answer);
    }

-- what `make` lists: how many encodings, their bytes, and what is counted of their answers
abbrev pub made_listing : ℕ → Listing
made_listing n =
    let t = tally_of n in
    let text = decimal n ++ codes " instructions " ++ decimal t.bytes ++ codes " bytes " ++ decimal t.at_rip ++ codes " rip "
    ++ decimal t.absolute ++ codes " abs" in
    record { lines = line text ∷ []; status = Done }
