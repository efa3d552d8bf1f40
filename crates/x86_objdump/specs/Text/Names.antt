-- The names of operations.
use Rattle.std.specs.Prelude.{ℕ, ◌%◌, ◌==◌, ◌&&◌, ◌||◌, not, Bool, true, false, List, [], ◌∷◌, ◌++◌, codes, drop, get_or, take, nat_lt, nat_le, if◌then◌else◌}
use Rattle.x86_opcodes.specs.Kinds.{is_among}
use Rattle.x86_fields.specs.ModRM.{is_memory, reg_field}
use Rattle.x86_fields.specs.Raw.{has_w}
use Rattle.x86_fields.specs.Run.{rep, rep_any}
use Rattle.x86_forms.specs.declared.Map.{Map}
use Rattle.x86_forms.specs.declared.Map.TheVariants.{One, Of, Of38, Of3a}
use Rattle.x86_objdump.specs.declared.text.context.Context.{Context}
use Rattle.x86_objdump.specs.declared.text.names.Entry.{Entry}
use Rattle.x86_objdump.specs.Text.Context.{has_two_bytes, is_map_0f, is_one, is_exchange, is_shadow_read}
use Rattle.x86_objdump.specs.Text.Letters.{letter}
use Rattle.x86_objdump.specs.Text.Entries.{stem, name_letter}

-- neither F2, F3 nor 66
abbrev pub is_plain : Context → Bool
is_plain c = not (rep_any c.prefixes) && not c.prefixes.operand_size

-- a name that only some encodings of an operation have, else nothing
abbrev pub name_in_one : Context → List ℕ
name_in_one c =
    if c.opcode == 0x90 then (if rep c.prefixes then codes "pause" else (if is_exchange c then codes "xchg" else codes "nop"))
    else (if c.opcode == 0xcc then codes "int3"
    else (if c.opcode == 0xf1 then codes "int1"
    else (if nat_le 0xa0 c.opcode && nat_le c.opcode 0xa3 && not c.prefixes.address_size then codes "movabs"
    else (if nat_le 0xb8 c.opcode && nat_le c.opcode 0xbf && has_w c.prefixes then codes "movabs" else []))))

abbrev pub name_of_01 : Context → List ℕ
name_of_01 c =
    if c.modrm == 0xd9 && rep_any c.prefixes then codes "vmgexit"
    else (if c.modrm == 0xfa && rep c.prefixes then codes "mcommit"
    else (if c.modrm == 0xfd && rep c.prefixes then codes "rmpquery" else []))

abbrev pub name_of_18 : Context → List ℕ
name_of_18 c =
    if c.modrm == 0x35 && is_plain c then codes "prefetchit1"
    else (if c.modrm == 0x3d && is_plain c then codes "prefetchit0" else [])

abbrev pub name_in_of : Context → List ℕ
name_in_of c =
    if c.opcode == 0x01 then name_of_01 c
    else (if c.opcode == 0x09 then (if rep c.prefixes then codes "wbnoinvd" else [])
    else (if c.opcode == 0x0d then (if reg_field c.modrm == 1 then codes "prefetchw"
    else (if reg_field c.modrm == 2 then codes "prefetchwt1" else codes "prefetch"))
    else (if c.opcode == 0x18 then name_of_18 c
    else (if c.opcode == 0x1c then (if is_memory c.modrm && (reg_field c.modrm == 0) && is_plain c then codes "cldemote" else [])
    else (if c.opcode == 0x1e then (if is_shadow_read c then (if has_w c.prefixes then codes "rdsspq" else codes "rdsspd") else []) else [])))))

abbrev pub special_name_by : Map → Context → List ℕ
special_name_by One c = name_in_one c
special_name_by Of c = name_in_of c
special_name_by map c = []

unfoldable pub special_name : Context → List ℕ
special_name c = special_name_by c.map c

-- What follows the name, by the letter of it: `w` a w under 66; `s` the same, of PUSH and POP without a register or memory;
-- `q` a q under W, else a w under 66; `d` a q under W, else a d; `x` 64 under W; `e` a w wherever 66 is; `i` a q under W; `8`
-- and `2` what the operation is on a later processor.
abbrev pub pushes_short : Context → Bool
pushes_short c = is_map_0f c.map || (is_one c 0x68 || is_one c 0x6a)

unfoldable pub suffix_of : Context → ℕ → List ℕ
suffix_of c s =
    if s == letter (codes "w") then (if has_two_bytes c then codes "w" else [])
    else (if s == letter (codes "s") then (if has_two_bytes c && pushes_short c then codes "w" else [])
    else (if s == letter (codes "q") then (if has_w c.prefixes then codes "q" else (if c.prefixes.operand_size then codes "w" else []))
    else (if s == letter (codes "d") then (if has_w c.prefixes then codes "q" else codes "d")
    else (if s == letter (codes "x") then (if has_w c.prefixes then codes "64" else [])
    else (if s == letter (codes "e") then (if c.prefixes.operand_size then codes "w" else [])
    else (if s == letter (codes "i") then (if has_w c.prefixes then codes "q" else [])
    else (if s == letter (codes "8") then codes "(8087 only)"
    else (if s == letter (codes "2") then codes "(287 only)" else []))))))))

-- The immediate byte is in the name: of a comparison below 8 (`c`), and of a carry-less product (`p`).
abbrev pub is_in_name : ℕ → List ℕ → Bool
is_in_name n (i ∷ []) = (n == letter (codes "c")) && nat_lt i 8 || (n == letter (codes "p")) && is_among (0 ∷ 1 ∷ 2 ∷ 3 ∷ 16 ∷ 17 ∷ []) i
is_in_name n bytes = false

-- the comparisons by their number (Intel SDM volume 2, CMPPS)
abbrev pub comparisons : List (List ℕ)
comparisons = codes "eq" ∷ codes "lt" ∷ codes "le" ∷ codes "unord" ∷ codes "neq" ∷ codes "nlt" ∷ codes "nle" ∷ codes "ord" ∷ []

abbrev pub comparison_name : Entry → ℕ → List ℕ
comparison_name e i = codes "cmp" ++ get_or comparisons i [] ++ take 2 (drop 3 e.bytes)

-- which halves are multiplied: of the first operand by bit 0, of the second by bit 4 or by bit 1 (Intel SDM volume 2,
-- PCLMULQDQ; GNU binutils names 2 and 3 too)
abbrev pub product_name : ℕ → List ℕ
product_name i =
    codes "pclmul" ++ (if i % 2 == 1 then codes "h" else codes "l") ++ codes "q" ++ (if nat_lt i 2 then codes "l" else codes "h") ++ codes "qdq"

abbrev pub name_with_immediate : Entry → List ℕ → List ℕ
name_with_immediate e [] = []
name_with_immediate e (i ∷ rest) = if name_letter e == letter (codes "c") then comparison_name e i else product_name i

-- a special name where there is one
abbrev pub name_unless : List ℕ → List ℕ → List ℕ
name_unless [] name = name
name_unless (b ∷ bs) name = b ∷ bs

-- the name of an operation with an immediate
unfoldable pub long_name : Context → Entry → List ℕ → List ℕ
long_name c e immediate =
    if name_letter e == letter (codes "k") then name_unless (special_name c) (stem e)
    else (if is_in_name (name_letter e) immediate then name_with_immediate e immediate
    else stem e ++ suffix_of c (name_letter e))

abbrev pub listed_name : Context → Entry → List ℕ → List ℕ
listed_name c e immediate = if name_letter e == letter (codes "-") then stem e else long_name c e immediate
