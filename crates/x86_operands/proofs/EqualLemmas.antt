-- Operands that == finds equal are the same.
use Rattle.std.proofs.Common.{◌≡◌, ◌==◌, ◌&&◌, ℕ, ℤ, Bool, true, rules, refl, sym, ap, true≢false}
use Rattle.std.specs.Ordering.{int_eq}
use Rattle.std.proofs.lemmas.Bool.Decides.{Decides-eqb, Decides-int_eq}
use Rattle.std.proofs.lemmas.Bool.{and_parts}
use Rattle.x86_operands.specs.Vocabulary.{RegSpec, Operand}
use Rattle.x86_regs.specs.declared.MergeMode.{MergeMode}
use Rattle.x86_regs.specs.declared.SaeMode.{SaeMode}
use Rattle.x86_regs.specs.contracts.RegSpecPartialEq.TheImpl as register
use Rattle.x86_regs.specs.contracts.MergeModePartialEq.TheImpl as merge
use Rattle.x86_regs.specs.contracts.SaeModePartialEq.TheImpl as rounding
use Rattle.x86_operands.specs.declared.operands.Operand.TheVariants as operands
use Rattle.x86_operands.specs.contracts.operands.OperandPartialEq.TheImpl as operand

-- a constructor of equal parts, which are found equal one after another
two : {A B R : Type 0} (f : A → B → R) {a a2 : A} {b b2 : B} {x y : Bool} → (x ≡ true → a ≡ a2) → (y ≡ true → b ≡ b2) → (x && y) ≡ true → f a b ≡ f a2 b2
two f p q h = let i = and_parts _ _ h in cc (p i.0, q i.1)

three : {A B C R : Type 0} (f : A → B → C → R) {a a2 : A} {b b2 : B} {c c2 : C} {x y z : Bool} → (x ≡ true → a ≡ a2) → (y ≡ true → b ≡ b2) →
    (z ≡ true → c ≡ c2) → (x && (y && z)) ≡ true → f a b c ≡ f a2 b2 c2
three f {a = a} p q r h = let i = and_parts _ _ h in cc (p i.0, two (f a) q r i.1)

four : {A B C D R : Type 0} (f : A → B → C → D → R) {a a2 : A} {b b2 : B} {c c2 : C} {d d2 : D} {x y z w : Bool} → (x ≡ true → a ≡ a2) →
    (y ≡ true → b ≡ b2) → (z ≡ true → c ≡ c2) → (w ≡ true → d ≡ d2) → (x && (y && (z && w))) ≡ true → f a b c d ≡ f a2 b2 c2 d2
four f {a = a} p q r s h = let i = and_parts _ _ h in cc (p i.0, three (f a) q r s i.1)

five : {A B C D E R : Type 0} (f : A → B → C → D → E → R) {a a2 : A} {b b2 : B} {c c2 : C} {d d2 : D} {e e2 : E} {x y z w v : Bool} →
    (x ≡ true → a ≡ a2) → (y ≡ true → b ≡ b2) → (z ≡ true → c ≡ c2) → (w ≡ true → d ≡ d2) → (v ≡ true → e ≡ e2) →
    (x && (y && (z && (w && v)))) ≡ true → f a b c d e ≡ f a2 b2 c2 d2 e2
five f {a = a} p q r s t h = let i = and_parts _ _ h in cc (p i.0, four (f a) q r s t i.1)

registers : {a b : RegSpec} → register.ghosts.eq a b ≡ true → a ≡ b
registers h = search rules

merges : {a b : MergeMode} → merge.ghosts.eq a b ≡ true → a ≡ b
merges h = search rules

roundings : {a b : SaeMode} → rounding.ghosts.eq a b ≡ true → a ≡ b
roundings h = search rules

numbers : {a b : ℕ} → (a == b) ≡ true → a ≡ b
numbers h = (Decides-eqb _ _).0 h

integers : {a b : ℤ} → int_eq a b ≡ true → a ≡ b
integers h = (Decides-int_eq _ _).0 h

pub same_operands : (a b : Operand) → operand.ghosts.eq a b ≡ true → a ≡ b
same_operands (operands.ImmediateI8 imm) (operands.ImmediateI8 imm2) h = ap operands.ImmediateI8 (integers h)
same_operands (operands.ImmediateU8 imm) (operands.ImmediateU8 imm2) h = ap operands.ImmediateU8 (numbers h)
same_operands (operands.ImmediateI16 imm) (operands.ImmediateI16 imm2) h = ap operands.ImmediateI16 (integers h)
same_operands (operands.ImmediateU16 imm) (operands.ImmediateU16 imm2) h = ap operands.ImmediateU16 (numbers h)
same_operands (operands.ImmediateI32 imm) (operands.ImmediateI32 imm2) h = ap operands.ImmediateI32 (integers h)
same_operands (operands.ImmediateU32 imm) (operands.ImmediateU32 imm2) h = ap operands.ImmediateU32 (numbers h)
same_operands (operands.ImmediateI64 imm) (operands.ImmediateI64 imm2) h = ap operands.ImmediateI64 (integers h)
same_operands (operands.ImmediateU64 imm) (operands.ImmediateU64 imm2) h = ap operands.ImmediateU64 (numbers h)
same_operands (operands.Register reg) (operands.Register reg2) h = ap operands.Register (registers h)
same_operands (operands.RegisterMaskMerge reg mask mode) (operands.RegisterMaskMerge reg2 mask2 mode2) h =
    three operands.RegisterMaskMerge registers registers merges h
same_operands (operands.RegisterMaskMergeSae reg mask mode sae) (operands.RegisterMaskMergeSae reg2 mask2 mode2 sae2) h =
    four operands.RegisterMaskMergeSae registers registers merges roundings h
same_operands (operands.RegisterMaskMergeSaeNoround reg mask mode) (operands.RegisterMaskMergeSaeNoround reg2 mask2 mode2) h =
    three operands.RegisterMaskMergeSaeNoround registers registers merges h
same_operands (operands.AbsoluteU32 addr) (operands.AbsoluteU32 addr2) h = ap operands.AbsoluteU32 (numbers h)
same_operands (operands.AbsoluteU64 addr) (operands.AbsoluteU64 addr2) h = ap operands.AbsoluteU64 (numbers h)
same_operands (operands.MemDeref base) (operands.MemDeref base2) h = ap operands.MemDeref (registers h)
same_operands (operands.Disp base disp) (operands.Disp base2 disp2) h = two operands.Disp registers integers h
same_operands (operands.MemIndexScale index scale) (operands.MemIndexScale index2 scale2) h = two operands.MemIndexScale registers numbers h
same_operands (operands.MemIndexScaleDisp index scale disp) (operands.MemIndexScaleDisp index2 scale2 disp2) h =
    three operands.MemIndexScaleDisp registers numbers integers h
same_operands (operands.MemBaseIndexScale base index scale) (operands.MemBaseIndexScale base2 index2 scale2) h =
    three operands.MemBaseIndexScale registers registers numbers h
same_operands (operands.MemBaseIndexScaleDisp base index scale disp) (operands.MemBaseIndexScaleDisp base2 index2 scale2 disp2) h =
    four operands.MemBaseIndexScaleDisp registers registers numbers integers h
same_operands (operands.MemDerefMasked base mask) (operands.MemDerefMasked base2 mask2) h = two operands.MemDerefMasked registers registers h
same_operands (operands.DispMasked base disp mask) (operands.DispMasked base2 disp2 mask2) h = three operands.DispMasked registers integers registers h
same_operands (operands.MemIndexScaleMasked index scale mask) (operands.MemIndexScaleMasked index2 scale2 mask2) h =
    three operands.MemIndexScaleMasked registers numbers registers h
same_operands (operands.MemIndexScaleDispMasked index scale disp mask) (operands.MemIndexScaleDispMasked index2 scale2 disp2 mask2) h =
    four operands.MemIndexScaleDispMasked registers numbers integers registers h
same_operands (operands.MemBaseIndexScaleMasked base index scale mask) (operands.MemBaseIndexScaleMasked base2 index2 scale2 mask2) h =
    four operands.MemBaseIndexScaleMasked registers registers numbers registers h
same_operands (operands.MemBaseIndexScaleDispMasked base index scale disp mask)
    (operands.MemBaseIndexScaleDispMasked base2 index2 scale2 disp2 mask2) h =
    five operands.MemBaseIndexScaleDispMasked registers registers numbers integers registers h
same_operands operands.Nothing operands.Nothing h = refl
same_operands _ _ h = absurd (true≢false (sym h))
