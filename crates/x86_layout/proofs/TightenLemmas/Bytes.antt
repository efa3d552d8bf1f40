-- The bytes of a shortest relative are bytes.
use Rattle.std.proofs.Common.{◌≡◌, ℕ, zero, suc, ◌<◌, Bool, true, List, [], ◌∷◌, ◌++◌, Option, Some, None, take, subst, arith, All}
use Rattle.std.specs.Int.{w32, cast_unsigned, to_le_bytes}
use Rattle.std.proofs.lemmas.Bool.Decides.{nat_tests}
use Rattle.std.proofs.lemmas.Bool.{and_parts}
use Rattle.x86_fields.specs.declared.raw.Raw.{Raw}
use Rattle.x86_fields.specs.ModRM.{is_memory}
use Rattle.x86_fields.specs.Pieces.{option_bytes}
use Rattle.x86_fields.specs.Raw.{displacement_width}
use Rattle.x86_operands.specs.declared.reader.Reading.{Reading}
use Rattle.x86_decode.specs.Head.{escape_bytes}
use Rattle.x86_decode.proofs.ByteLemmas.{Bytes, bytes_after, bytes_before}
use Rattle.x86_layout.specs.Parts.Split.{Encoding}
use Rattle.x86_layout.specs.Tightening.Registers.{IsByteOption}
use Rattle.x86_layout.specs.Tightening.Shortest.{shortest, IsOfBytes}
use Rattle.x86_layout.specs.Tightening.Tighten.{run_with, byte_with, spelled_displacement}
use Rattle.x86_layout.proofs.TightenLemmas.Address.{address_bytes}
use Rattle.x86_layout.proofs.TightenLemmas.Relative.{Reads, Last, Bytes'}
use Rattle.x86_layout.proofs.TightenLemmas.Shortest.{shortest_is_of_bytes}

-- ---- lists of bytes

pub all_of : (l : List ℕ) → Bytes l → All (λ b. b < 256) l
all_of [] h k d below = omega (arith, below)
all_of (b ∷ l) h zero d below = h.0
all_of (b ∷ l) h (suc k) d below = all_of l h.1 k d (omega (arith, below))

both : (xs ys : List ℕ) → Bytes xs → Bytes ys → Bytes (xs ++ ys)
both [] ys h g = g
both (x ∷ xs) ys h g = (h.0, both xs ys h.1 g)

taken : (n : ℕ) (l : List ℕ) → Bytes l → Bytes (take n l)
taken zero l h = tt
taken (suc n) [] h = tt
taken (suc n) (b ∷ l) h = (h.0, taken n l h.1)

-- ---- the pieces that change

byte_stays : (x b : Bool) (byte : ℕ) → byte < 256 → byte_with x b byte < 256
byte_stays x b byte h = grind (arith, nat_tests)

run_of_bytes : (x b : Bool) (run : List ℕ) → Bytes run → Bytes (run_with x b run)
unfolding run_with
run_of_bytes x b [] h = tt
run_of_bytes x b (byte ∷ []) h = (byte_stays x b byte h.0, tt)
run_of_bytes x b (byte ∷ next ∷ rest) h = (h.0, run_of_bytes x b (next ∷ rest) h.1)

little : (n : ℕ) → Bytes (to_le_bytes w32 n)
little n = (omega arith, (omega arith, (omega arith, (omega arith, tt))))

option_of_bytes : (sib : Option ℕ) → IsByteOption sib → Bytes (option_bytes sib)
option_of_bytes None h = tt
option_of_bytes (Some b) h = (h, tt)

address_of_bytes : (raw : Raw) → IsOfBytes raw → Bytes (address_bytes raw)
address_of_bytes raw h = both (option_bytes raw.sib) (spelled_displacement raw) (option_of_bytes raw.sib h.sib)
    (taken (displacement_width raw.modrm raw.sib) (to_le_bytes w32 (cast_unsigned w32 raw.disp)) (little (cast_unsigned w32 raw.disp)))

memory_is_byte : (m : ℕ) → is_memory m ≡ true → m < 256
memory_is_byte m h = grind (arith, nat_tests)

-- ---- the relative

module _ {strict : Bool} {s : List ℕ} {a : Reading} (v : Encoding strict s a) {raw : Raw} (read : Reads v raw) (fit : IsOfBytes raw) where
  pub relative_of_bytes : Bytes s → Bytes (Bytes' v read fit)
  relative_of_bytes h =
      let other : Raw = shortest raw in
      let of = shortest_is_of_bytes raw fit in
      let t = v.row_spelled.tail_spelled.pieces in
      let all : Bytes (v.run ++ (escape_bytes v.map ++ v.opcode ∷ v.tail)) = subst Bytes v.spelled h in
      let after_run : Bytes (escape_bytes v.map ++ v.opcode ∷ v.tail) = bytes_after v.run _ all in
      let head : Bytes (v.opcode ∷ v.tail) = bytes_after (escape_bytes v.map) (v.opcode ∷ v.tail) after_run in
      let following : Bytes v.row_spelled.tail = bytes_after v.row_spelled.modrm v.row_spelled.tail (subst Bytes v.row_spelled.spelled head.1) in
      let last : Bytes (Last v) = bytes_after t.address (t.immediates ++ t.suffix) (subst Bytes t.spelled following) in
      let modrm : other.modrm < 256 = memory_is_byte other.modrm (and_parts (is_memory other.modrm) _ of.fit).0 in
      both (run_with other.rex_x other.rex_b v.run) _ (run_of_bytes other.rex_x other.rex_b v.run (bytes_before v.run _ all))
      (both (escape_bytes v.map) _ (bytes_before (escape_bytes v.map) _ after_run)
      (head.0, (modrm, both (address_bytes other) (Last v) (address_of_bytes other of) last)))
