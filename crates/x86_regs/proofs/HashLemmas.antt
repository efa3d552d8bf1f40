-- Values that hash from the same bytes are the same: the bytes are read back.
use Rattle.std.proofs.Common.{◌≡◌, ◌∙◌, ℕ, List, [], ◌∷◌, drop, slice_index_or, ap, refl, sym, arith}
use Rattle.std.specs.Hash.{le_bytes}
use Rattle.x86_regs.specs.declared.RegisterClass.{RegisterClass}
use Rattle.x86_regs.specs.declared.RegisterClass.TheVariants.{B, W, D, RB, Q, CR, DR, S, X, Y, Z, ST, MM, K, EIP, RIP, EFlags, RFlags}
use Rattle.x86_regs.specs.declared.RegSpec.{RegSpec}
use Rattle.x86_regs.specs.declared.Segment.{Segment}
use Rattle.x86_regs.specs.declared.Segment.TheVariants.{DS, CS, ES, FS, GS, SS}
use Rattle.x86_regs.specs.contracts.RegisterClassHash.TheImpl as classes
use Rattle.x86_regs.specs.contracts.RegSpecHash.TheImpl as registers
use Rattle.x86_regs.specs.contracts.SegmentHash.TheImpl as segments

-- the first byte that is written
abbrev first : List (List ℕ) → ℕ
first writes = slice_index_or (slice_index_or writes 0 []) 0 0

abbrev class_at : ℕ → RegisterClass
class_at n = slice_index_or (B ∷ W ∷ D ∷ RB ∷ Q ∷ CR ∷ DR ∷ S ∷ X ∷ Y ∷ Z ∷ ST ∷ MM ∷ K ∷ EIP ∷ RIP ∷ EFlags ∷ RFlags ∷ []) n B

class_back : (c : RegisterClass) → class_at (first (classes.ghosts.hash_input c)) ≡ c
unfolding le_bytes
class_back B = refl
class_back W = refl
class_back D = refl
class_back RB = refl
class_back Q = refl
class_back CR = refl
class_back DR = refl
class_back S = refl
class_back X = refl
class_back Y = refl
class_back Z = refl
class_back ST = refl
class_back MM = refl
class_back K = refl
class_back EIP = refl
class_back RIP = refl
class_back EFlags = refl
class_back RFlags = refl

pub classes_apart : (a b : RegisterClass) → classes.ghosts.hash_input a ≡ classes.ghosts.hash_input b → a ≡ b
classes_apart a b same = sym (class_back a) ∙ ap (λ w. class_at (first w)) same ∙ class_back b

abbrev segment_at : ℕ → Segment
segment_at n = slice_index_or (DS ∷ CS ∷ ES ∷ FS ∷ GS ∷ SS ∷ []) n DS

segment_back : (s : Segment) → segment_at (first (segments.ghosts.hash_input s)) ≡ s
unfolding le_bytes
segment_back DS = refl
segment_back CS = refl
segment_back ES = refl
segment_back FS = refl
segment_back GS = refl
segment_back SS = refl

pub segments_apart : (a b : Segment) → segments.ghosts.hash_input a ≡ segments.ghosts.hash_input b → a ≡ b
segments_apart a b same = sym (segment_back a) ∙ ap (λ w. segment_at (first w)) same ∙ segment_back b

-- a register writes its number, and then its class
pub registers_apart : (a b : RegSpec) → registers.ghosts.hash_input a ≡ registers.ghosts.hash_input b → a ≡ b
registers_apart a b same =
    let num : a.num ≡ b.num = ap first same in
    let class : a.class ≡ b.class = sym (class_back a.class) ∙ ap (λ w. class_at (first (drop 1 w))) same ∙ class_back b.class in
    grind (arith, num, class)
