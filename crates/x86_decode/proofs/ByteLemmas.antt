-- The displacement that bytes spell has 32 bits.
use Rattle.std.proofs.Common.{◌≡◌, ℕ, zero, suc, ◌%◌, ◌^◌, ◌<◌, ◌==◌, if◌then◌else◌, List, [], ◌∷◌, ◌++◌, Option, Some, pos, slice_index}
use Rattle.std.proofs.Common.{All, sym, ap, subst, arith}
use Rattle.std.proofs.lemmas.Bool.{cond_both}
use Rattle.std.specs.Prelude.{FitsSigned}
use mir.Val.{bits}
use Rattle.std.specs.Int.{Width, w8, w32, cast_signed, from_le_bytes, int_wrap}
use Rattle.std.proofs.lemmas.Int.{SFits-int_wrap}
use Rattle.x86_fields.specs.declared.prefixes.Prefixes.{Prefixes}
use Rattle.x86_fields.specs.declared.raw.Raw.{Raw}
use Rattle.x86_fields.specs.Raw.{displacement_width}
use Rattle.x86_fields.specs.Pieces.{signed_by, option_bytes, SpellsRaw}
use Rattle.x86_operands.specs.Pieces.{SpellsMemory}
use Rattle.x86_operands.specs.declared.order.Position.{Position}

-- bytes, one after another
abbrev pub Bytes : List ℕ → Type 0
Bytes [] = Unit {0}
Bytes (b ∷ l) = (b < 256) × Bytes l

pub bytes_of : (l : List ℕ) → All (λ b. b < 256) l → Bytes l
bytes_of [] h = tt
bytes_of (b ∷ l) h = (h zero 0 (omega arith), bytes_of l (λ k d below. h (suc k) d (omega arith)))

pub bytes_after : (xs ys : List ℕ) → Bytes (xs ++ ys) → Bytes ys
bytes_after [] ys h = h
bytes_after (x ∷ xs) ys h = bytes_after xs ys h.1

pub bytes_before : (xs ys : List ℕ) → Bytes (xs ++ ys) → Bytes xs
bytes_before [] ys h = tt
bytes_before (x ∷ xs) ys h = (h.0, bytes_before xs ys h.1)

at : (l : List ℕ) → Bytes l → (i : ℕ) → slice_index l i < 256
at [] h i = omega arith
at (b ∷ l) h zero = h.0
at (b ∷ l) h (suc i) = at l h.1 i

fits : (w : Width) (n : ℕ) → n % 2 ^ bits w ≡ n → FitsSigned w (cast_signed w n)
unfolding int_wrap
fits w n same = subst (λ k. FitsSigned w (cast_signed w k)) same (SFits-int_wrap w (pos n))

pub disp_fits : (width : ℕ) (l : List ℕ) → Bytes l → FitsSigned w32 (signed_by width l)
disp_fits width l h = cond_both (width == 1) (cast_signed w8 (from_le_bytes w8 l))
    (if width == 4 then cast_signed w32 (from_le_bytes w32 l) else pos 0) (λ k. FitsSigned w32 k)
    (λ _. let f = (fits w8 (from_le_bytes w8 l) (omega (arith, at l h 0))).sfits in record { sfits = omega (arith, f) })
    (λ _. cond_both (width == 4) (cast_signed w32 (from_le_bytes w32 l)) (pos 0) (λ k. FitsSigned w32 k)
    (λ _. fits w32 (from_le_bytes w32 l) (omega (arith, at l h 0, at l h 1, at l h 2, at l h 3))) (λ _. record { sfits = omega arith }))

pub memory_fits : (at : Position) (p : Prefixes) (m : ℕ) (bytes : List ℕ) (memory : Option Raw) (raw : Raw) → SpellsMemory at p m bytes memory →
    memory ≡ Some raw → Bytes bytes → FitsSigned w32 raw.disp
memory_fits at p m bytes memory raw h e b =
    let r : SpellsRaw p m bytes raw = (subst (SpellsMemory at p m bytes) e h).1 in
    subst (λ x. FitsSigned w32 x) (sym (ap (λ x. x.disp) r.fields))
    (disp_fits (displacement_width m r.sib) r.disp (bytes_after (option_bytes r.sib) r.disp (subst Bytes r.spelled b)))
