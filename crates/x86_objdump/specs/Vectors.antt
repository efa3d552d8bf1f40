-- VEX, EVEX and XOP encodings by their length alone (Intel SDM volume 2, sections 2.3 and 2.7; AMD APM volume 6, section
-- 1.1). What they do isn't decoded.
use Rattle.std.specs.Prelude.{ℕ, ◌+◌, ◌%◌, ◌/◌, ◌==◌, ◌&&◌, ◌||◌, not, Bool, true, false, nat_le, nat_lt, if◌then◌else◌, Option, Some, None}
use Rattle.std.specs.Prelude.{Result, Ok, Err, List, [], ◌∷◌, length, take, drop}
use Rattle.x86_opcodes.specs.Kinds.{is_among}
use Rattle.x86_fields.specs.ModRM.{is_memory, rm_field}
use Rattle.x86_fields.specs.Raw.{displacement_width}
use Rattle.x86_fields.specs.declared.errors.DecodeError.{DecodeError}
use Rattle.x86_decode.specs.declared.instructions.Instruction.{Instruction}
use Rattle.x86_objdump.specs.declared.vectors.Extent.{Extent}
use Rattle.x86_objdump.specs.declared.vectors.Extent.TheVariants.{Empty, AtLeast, Exactly}
use Rattle.x86_objdump.specs.declared.vectors.Vector.{Vector}
use Rattle.x86_objdump.specs.declared.vectors.Vector.TheVariants.{Absent, Cut, Whole}

-- 67 and the segments may precede such an encoding
abbrev pub precedes : ℕ → Bool
precedes b = is_among (0x67 ∷ 0x2e ∷ 0x36 ∷ 0x3e ∷ 0x26 ∷ 0x64 ∷ 0x65 ∷ []) b

-- the fewest bytes that a part can have
abbrev pub fewest : Extent → ℕ
fewest Empty = 0
fewest (AtLeast n) = n
fewest (Exactly n) = n

-- so many bytes, and then a part
abbrev pub longer : ℕ → Extent → Extent
longer n Empty = Empty
longer n (AtLeast m) = AtLeast (n + m)
longer n (Exactly m) = Exactly (n + m)

-- How many bytes ModRM, SIB and displacement have. The fewest after a ModRM byte that SIB follows are those with a base.
abbrev pub sib_bytes : ℕ → List ℕ → Extent
sib_bytes modrm [] = AtLeast (2 + displacement_width modrm (Some 0))
sib_bytes modrm (sib ∷ rest) = Exactly (2 + displacement_width modrm (Some sib))

abbrev pub bytes_from_modrm : List ℕ → Extent
bytes_from_modrm [] = AtLeast 1
bytes_from_modrm (modrm ∷ rest) =
    if not (is_memory modrm) then Exactly 1 else (if rm_field modrm == 4 then sib_bytes modrm rest else Exactly (1 + displacement_width modrm None))

-- an immediate of 1 byte in the maps 3 and 8 and at these opcodes of map 1, and of 4 bytes in map 10
abbrev pub immediate_bytes : ℕ → ℕ → ℕ
immediate_bytes map opcode =
    if is_among (3 ∷ 8 ∷ []) map || (map == 1) && is_among (0x70 ∷ 0x71 ∷ 0x72 ∷ 0x73 ∷ 0xc2 ∷ 0xc4 ∷ 0xc5 ∷ 0xc6 ∷ []) opcode then 1
    else (if map == 10 then 4 else 0)

-- So many bytes, an opcode byte of a map, and what follows it; opcode 77 of VEX (VZEROUPPER and VZEROALL) has no ModRM.
abbrev pub after_head : ℕ → ℕ → Bool → List ℕ → Extent
after_head n map vex [] = AtLeast (if vex && (map == 1) then n + 1 else n + 2 + immediate_bytes map 0)
after_head n map vex (opcode ∷ rest) =
    if vex && ((map == 1) && (opcode == 0x77)) then Exactly (n + 1) else longer (n + 1 + immediate_bytes map opcode) (bytes_from_modrm rest)

abbrev pub after_c5 : List ℕ → Extent
after_c5 bytes = after_head 2 1 true (drop 1 bytes)

abbrev pub after_c4 : List ℕ → Extent
after_c4 [] = AtLeast 4
after_c4 (a ∷ rest) = if is_among (1 ∷ 2 ∷ 3 ∷ []) (a % 32) then after_head 3 (a % 32) true (drop 1 rest) else Empty

abbrev pub after_8f : List ℕ → Extent
after_8f [] = AtLeast 5
after_8f (a ∷ rest) = if is_among (8 ∷ 9 ∷ 10 ∷ []) (a % 32) then after_head 3 (a % 32) false (drop 1 rest) else Empty

abbrev pub third_of_62 : ℕ → List ℕ → Extent
third_of_62 map [] = after_head 4 map false []
third_of_62 map (b ∷ rest) = if (b / 4) % 2 == 1 then after_head 4 map false (drop 1 rest) else Empty

abbrev pub after_62 : List ℕ → Extent
after_62 [] = AtLeast 6
after_62 (a ∷ rest) = if is_among (1 ∷ 2 ∷ 3 ∷ 5 ∷ 6 ∷ []) (a % 16) then third_of_62 (a % 16) rest else Empty

abbrev pub at_lead : ℕ → List ℕ → Extent
at_lead b rest =
    if b == 0xc5 then after_c5 rest
    else (if b == 0xc4 then after_c4 rest
    else (if b == 0x62 then after_62 rest
    else (if b == 0x8f then after_8f rest else Empty)))

-- what bytes begin with, however long it is
unfoldable pub after_prefixes : List ℕ → Extent
after_prefixes [] = AtLeast 3
after_prefixes (b ∷ rest) = if precedes b then longer 1 (after_prefixes rest) else at_lead b rest

-- An encoding has at most 15 bytes, and it is there once all of them are.
abbrev pub fitting : ℕ → Extent → Vector
fitting there Empty = Absent
fitting there (AtLeast n) = if nat_lt there 15 && nat_le n 15 then Cut else Absent
fitting there (Exactly n) = if nat_lt 15 n then Absent else (if nat_lt there n then Cut else Whole n)

-- what bytes begin with
unfoldable pub vector_of : List ℕ → Vector
vector_of bytes = fitting (length bytes) (after_prefixes (take 15 bytes))

-- once the bytes have ended no encoding is cut
abbrev pub once_ended : Bool → Vector → Vector
once_ended true Cut = Absent
once_ended ended v = v

-- where the decoder refuses
abbrev pub vector_after : Result Instruction DecodeError → List ℕ → Vector
vector_after (Ok i) bytes = Absent
vector_after (Err e) bytes = vector_of bytes
