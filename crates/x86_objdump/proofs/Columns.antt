-- The bytes of a line in their column.
use Rattle.std.proofs.Common.{◌≡◌, ◌≤◌, ℕ, ◌+◌, ◌*◌, ◌-◌, List, [], ◌∷◌, ◌++◌, length, take, drop, refl, ap, sym, ◌∙◌, arith, append_assoc}
use Rattle.std.specs.Prelude.{codes, replicate}
use Rattle.std.proofs.lemmas.List.{take-append-drop, length-take-le}
use Rattle.std.proofs.lemmas.Grind.{flat_map-append, common_steps}
use Rattle.hex.specs.Hex.{encode_with}
use Rattle.x86_streams.specs.Lines.Hexadecimal.{spaced_byte, spaced_bytes}
use Rattle.x86_streams.proofs.LineLemmas.Hexadecimal.{beginning}
use Rattle.x86_objdump.specs.Lines.{column}
use Rattle.x86_objdump.proofs.Blanks.{first_blanks}

-- three for each byte
spaced_length : (bytes : List ℕ) → length (spaced_bytes bytes) ≡ 3 * length bytes
unfolding encode_with
spaced_length [] = refl
spaced_length (b ∷ bytes) = let e = spaced_length bytes in grind (arith, common_steps, e)

spaced_pieces : (n : ℕ) (bytes : List ℕ) → spaced_bytes bytes ≡ spaced_bytes (take n bytes) ++ spaced_bytes (drop n bytes)
spaced_pieces n bytes = ap spaced_bytes (sym (take-append-drop n bytes)) ∙ flat_map-append spaced_byte (take n bytes) (drop n bytes)

-- all of seven bytes, and then blanks over those after the first few
pub in_column : (old mid new : List ℕ) (at end last count : ℕ) (seven : List ℕ) → at ≤ length old → length seven ≡ 7 → count ≤ 7 →
    take end mid ≡ take at old ++ spaced_bytes seven → end ≡ at + 3 * length seven →
    take last new ≡ take (at + 3 * count) mid ++ take (21 - 3 * count) (codes "                                ") →
    take last new ≡ take at old ++ column (take count seven)
in_column old mid new at end last count seven room long few written place over =
    let n : length (take count seven) ≡ count = length-take-le count seven (omega (arith, long, few)) in
    let before : length (take at old) ≡ at = length-take-le at old room in
    let text : length (spaced_bytes (take count seven)) ≡ 3 * count = spaced_length (take count seven) ∙ ap (λ k. 3 * k) n in
    let first : take (at + 3 * count) mid ≡ take at old ++ spaced_bytes (take count seven) =
    beginning mid (take at old) (spaced_bytes (take count seven)) (spaced_bytes (drop count seven)) (at + 3 * count) end
    (written ∙ ap (λ t. take at old ++ t) (spaced_pieces count seven)) (omega (arith, before, text)) (omega (arith, long, few, place)) in
    let blanks : take (21 - 3 * count) (codes "                                ") ≡ replicate (21 - 3 * length (take count seven)) 32 =
    first_blanks (21 - 3 * count) (omega arith) ∙ ap (λ k. replicate (21 - 3 * k) 32) (sym n) in
    over ∙ (λ i. first i ++ blanks i) ∙ append_assoc (take at old) (spaced_bytes (take count seven)) (replicate (21 - 3 * length (take count seven)) 32)

-- bytes, and then blanks up to the width
pub in_any_column : (old mid new : List ℕ) (at end last width : ℕ) (bytes : List ℕ) → take end mid ≡ take at old ++ spaced_bytes bytes →
    width ≡ 21 - 3 * length bytes → take last new ≡ take end mid ++ take width (codes "                                ") →
    take last new ≡ take at old ++ column bytes
in_any_column old mid new at end last width bytes written is over =
    let blanks : take width (codes "                                ") ≡ replicate (21 - 3 * length bytes) 32 =
    first_blanks width (omega (arith, is)) ∙ ap (λ k. replicate k 32) is in
    over ∙ (λ i. written i ++ blanks i) ∙ append_assoc (take at old) (spaced_bytes bytes) (replicate (21 - 3 * length bytes) 32)
