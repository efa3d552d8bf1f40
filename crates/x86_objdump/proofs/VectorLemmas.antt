-- What bytes begin with, where more bytes follow.
use Rattle.std.proofs.Common.{arith, ◌≡◌, ◌≢◌, ℕ, zero, suc, ◌+◌, ◌-◌, ◌<◌, ◌≤◌, Bool, true, false, ◌&&◌, not, List, [], ◌∷◌, ◌++◌, length}
use Rattle.std.proofs.Common.{take, drop, Some, None, inl, inr, refl, sym, ap, ◌∙◌, length-append, if◌then◌else◌, nat_lt}
use Rattle.std.specs.Prelude.{◌%◌, ◌/◌, ◌==◌, ◌||◌, nat_le, ⊤}
use Rattle.std.proofs.Math.Seq.{take-append-add}
use Rattle.std.proofs.lemmas.Bool.{cases_lt}
use Rattle.std.proofs.lemmas.Bool.Decides.{nat_tests}
use Rattle.std.proofs.lemmas.List.{take-append-le, take_all}
use Rattle.x86_opcodes.specs.Kinds.{is_among}
use Rattle.x86_fields.specs.ModRM.{is_memory, mod_field, rm_field, base_field}
use Rattle.x86_fields.specs.Raw.{displacement_width}
use Rattle.x86_objdump.specs.declared.vectors.Extent.{Extent}
use Rattle.x86_objdump.specs.declared.vectors.Extent.TheVariants.{Empty, AtLeast, Exactly}
use Rattle.x86_objdump.specs.declared.vectors.Vector.{Vector}
use Rattle.x86_objdump.specs.declared.vectors.Vector.TheVariants.{Absent, Cut, Whole}
use Rattle.x86_objdump.specs.Vectors.{precedes, longer, sib_bytes, bytes_from_modrm, immediate_bytes, after_head, after_c5, after_c4, after_8f}
use Rattle.x86_objdump.specs.Vectors.{third_of_62, after_62, at_lead, after_prefixes, fitting}
use Rattle.x86_objdump.specs.Vectors.{vector_of}

-- ---- what is decided stays, and what isn't becomes no shorter

abbrev From : ℕ → Extent → Type 0
From k Empty = ⊤
From k (AtLeast n) = k ≤ n
From k (Exactly n) = k ≤ n

abbrev Grows : Extent → Extent → Type 0
Grows Empty new = new ≡ Empty
Grows (AtLeast n) new = From n new
Grows (Exactly n) new = new ≡ Exactly n

pick : (b : Bool) (x y x' y' : Extent) → Grows x x' → Grows y y' → Grows (if b then x else y) (if b then x' else y')
pick true x y x' y' hx hy = hx
pick false x y x' y' hx hy = hy

pick_from : (b : Bool) (k : ℕ) (x y : Extent) → From k x → From k y → From k (if b then x else y)
pick_from true k x y hx hy = hx
pick_from false k x y hx hy = hy

weaker : (j k : ℕ) (e : Extent) → j ≤ k → From k e → From j e
weaker j k Empty le h = tt
weaker j k (AtLeast n) le h = omega (arith, le, h)
weaker j k (Exactly n) le h = omega (arith, le, h)

longer_from : (j k : ℕ) (e : Extent) → From k e → From (j + k) (longer j e)
longer_from j k Empty h = tt
longer_from j k (AtLeast n) h = omega (arith, h)
longer_from j k (Exactly n) h = omega (arith, h)

longer_grows : (k : ℕ) (old new : Extent) → Grows old new → Grows (longer k old) (longer k new)
longer_grows k Empty new h = ap (longer k) h
longer_grows k (AtLeast n) new h = longer_from k n new h
longer_grows k (Exactly n) new h = ap (longer k) h

-- ---- the fewest bytes

fewest_width : (one two base : Bool) → (if one then 1 else (if two then 4 else 0)) ≤ (if one then 1 else (if two then 4 else (if base then 4 else 0)))
fewest_width true two base = omega arith
fewest_width false true base = omega arith
fewest_width false false base = omega arith

width_from : (modrm sib : ℕ) → displacement_width modrm (Some 0) ≤ displacement_width modrm (Some sib)
width_from modrm sib = fewest_width (mod_field modrm == 1) (mod_field modrm == 2) (base_field sib == 5)

sib_from : (modrm : ℕ) (xs : List ℕ) → From (2 + displacement_width modrm (Some 0)) (sib_bytes modrm xs)
sib_from modrm [] = omega arith
sib_from modrm (s ∷ xs) = omega (arith, width_from modrm s)

address_from : (xs : List ℕ) → From 1 (bytes_from_modrm xs)
address_from [] = omega arith
address_from (m ∷ xs) =
    pick_from (not (is_memory m)) 1 (Exactly 1) (if rm_field m == 4 then sib_bytes m xs else Exactly (1 + displacement_width m None)) (omega arith)
    (pick_from (rm_field m == 4) 1 (sib_bytes m xs) (Exactly (1 + displacement_width m None))
    (weaker 1 (2 + displacement_width m (Some 0)) (sib_bytes m xs) (omega arith) (sib_from m xs)) (omega arith))

fewest_immediate : (all one chosen ten : Bool) → (one ≡ true → ten ≡ false) →
    (if all || (one && false) then 1 else (if ten then 4 else 0)) ≤ (if all || (one && chosen) then 1 else (if ten then 4 else 0))
fewest_immediate true one chosen ten h = omega arith
fewest_immediate false true true ten h = rw (h refl) (omega arith)
fewest_immediate false true false ten h = omega arith
fewest_immediate false false chosen ten h = omega arith

immediate_from : (map opcode : ℕ) → immediate_bytes map 0 ≤ immediate_bytes map opcode
immediate_from map opcode =
    fewest_immediate (is_among (3 ∷ 8 ∷ []) map) (map == 1) (is_among (0x70 ∷ 0x71 ∷ 0x72 ∷ 0x73 ∷ 0xc2 ∷ 0xc4 ∷ 0xc5 ∷ 0xc6 ∷ []) opcode) (map == 10)
    (λ e. grind (arith, nat_tests))

opcode_from : (vex one last : Bool) (n low i : ℕ) (e : Extent) → low ≤ i → From 1 e →
    From (if vex && one then n + 1 else n + 2 + low) (if vex && (one && last) then Exactly (n + 1) else longer (n + 1 + i) e)
opcode_from true true true n low i e le h = omega arith
opcode_from true true false n low i e le h = weaker (n + 1) (n + 1 + i + 1) (longer (n + 1 + i) e) (omega arith) (longer_from (n + 1 + i) 1 e h)
opcode_from true false last n low i e le h = weaker (n + 2 + low) (n + 1 + i + 1) (longer (n + 1 + i) e) (omega (arith, le)) (longer_from (n + 1 + i) 1 e h)
opcode_from false one last n low i e le h = weaker (n + 2 + low) (n + 1 + i + 1) (longer (n + 1 + i) e) (omega (arith, le)) (longer_from (n + 1 + i) 1 e h)

abbrev fewest_of : ℕ → ℕ → Bool → ℕ
fewest_of n map vex = if vex && (map == 1) then n + 1 else n + 2 + immediate_bytes map 0

head_from : (n map : ℕ) (vex : Bool) (xs : List ℕ) → From (fewest_of n map vex) (after_head n map vex xs)
head_from n map vex [] = omega arith
head_from n map vex (o ∷ xs) =
    opcode_from vex (map == 1) (o == 0x77) n (immediate_bytes map 0) (immediate_bytes map o) (bytes_from_modrm xs) (immediate_from map o) (address_from xs)

long_head : (vex one : Bool) (n low : ℕ) → n + 1 ≤ (if vex && one then n + 1 else n + 2 + low)
long_head true true n low = omega arith
long_head true false n low = omega arith
long_head false one n low = omega arith

-- a head has at least an opcode byte
head_some : (n map : ℕ) (vex : Bool) (xs : List ℕ) → From (n + 1) (after_head n map vex xs)
head_some n map vex xs =
    weaker (n + 1) (fewest_of n map vex) (after_head n map vex xs) (long_head vex (map == 1) n (immediate_bytes map 0)) (head_from n map vex xs)

c5_from : (xs : List ℕ) → From 3 (after_c5 xs)
c5_from xs = head_some 2 1 true (drop 1 xs)

c4_from : (xs : List ℕ) → From 4 (after_c4 xs)
c4_from [] = omega arith
c4_from (a ∷ xs) =
    pick_from (is_among (1 ∷ 2 ∷ 3 ∷ []) (a % 32)) 4 (after_head 3 (a % 32) true (drop 1 xs)) Empty (head_some 3 (a % 32) true (drop 1 xs)) tt

no_vex_from : (n map : ℕ) (xs : List ℕ) → From (n + 2) (after_head n map false xs)
no_vex_from n map xs = weaker (n + 2) (fewest_of n map false) (after_head n map false xs) (omega arith) (head_from n map false xs)

xop_from : (xs : List ℕ) → From 5 (after_8f xs)
xop_from [] = omega arith
xop_from (a ∷ xs) =
    pick_from (is_among (8 ∷ 9 ∷ 10 ∷ []) (a % 32)) 5 (after_head 3 (a % 32) false (drop 1 xs)) Empty (no_vex_from 3 (a % 32) (drop 1 xs)) tt

third_from : (map : ℕ) (xs : List ℕ) → From 6 (third_of_62 map xs)
third_from map [] = no_vex_from 4 map []
third_from map (b ∷ xs) = pick_from ((b / 4) % 2 == 1) 6 (after_head 4 map false (drop 1 xs)) Empty (no_vex_from 4 map (drop 1 xs)) tt

evex_from : (xs : List ℕ) → From 6 (after_62 xs)
evex_from [] = omega arith
evex_from (a ∷ xs) = pick_from (is_among (1 ∷ 2 ∷ 3 ∷ 5 ∷ 6 ∷ []) (a % 16)) 6 (third_of_62 (a % 16) xs) Empty (third_from (a % 16) xs) tt

lead_from : (b : ℕ) (xs : List ℕ) → From 3 (at_lead b xs)
lead_from b xs =
    pick_from (b == 0xc5) 3 (after_c5 xs) (if b == 0xc4 then after_c4 xs
    else (if b == 0x62 then after_62 xs else (if b == 0x8f then after_8f xs else Empty))) (c5_from xs)
    (pick_from (b == 0xc4) 3 (after_c4 xs) (if b == 0x62 then after_62 xs else (if b == 0x8f then after_8f xs else Empty))
    (weaker 3 4 (after_c4 xs) (omega arith) (c4_from xs))
    (pick_from (b == 0x62) 3 (after_62 xs) (if b == 0x8f then after_8f xs else Empty) (weaker 3 6 (after_62 xs) (omega arith) (evex_from xs))
    (pick_from (b == 0x8f) 3 (after_8f xs) Empty (weaker 3 5 (after_8f xs) (omega arith) (xop_from xs)) tt)))

prefixes_from : (xs : List ℕ) → From 3 (after_prefixes xs)
unfolding after_prefixes
prefixes_from [] = omega arith
prefixes_from (b ∷ xs) =
    pick_from (precedes b) 3 (longer 1 (after_prefixes xs)) (at_lead b xs)
    (weaker 3 4 (longer 1 (after_prefixes xs)) (omega arith) (longer_from 1 3 (after_prefixes xs) (prefixes_from xs))) (lead_from b xs)

-- ---- with more bytes

sib_more : (modrm : ℕ) (xs zs : List ℕ) → Grows (sib_bytes modrm xs) (sib_bytes modrm (xs ++ zs))
sib_more modrm [] zs = sib_from modrm zs
sib_more modrm (s ∷ xs) zs = refl

address_more : (xs zs : List ℕ) → Grows (bytes_from_modrm xs) (bytes_from_modrm (xs ++ zs))
address_more [] zs = address_from zs
address_more (m ∷ xs) zs =
    pick (not (is_memory m)) (Exactly 1) (if rm_field m == 4 then sib_bytes m xs else Exactly (1 + displacement_width m None)) (Exactly 1)
    (if rm_field m == 4 then sib_bytes m (xs ++ zs) else Exactly (1 + displacement_width m None)) refl
    (pick (rm_field m == 4) (sib_bytes m xs) (Exactly (1 + displacement_width m None)) (sib_bytes m (xs ++ zs))
    (Exactly (1 + displacement_width m None)) (sib_more m xs zs) refl)

head_more : (n map : ℕ) (vex : Bool) (xs zs : List ℕ) → Grows (after_head n map vex xs) (after_head n map vex (xs ++ zs))
head_more n map vex [] zs = head_from n map vex zs
head_more n map vex (o ∷ xs) zs =
    let k : ℕ = n + 1 + immediate_bytes map o in
    pick (vex && ((map == 1) && (o == 0x77))) (Exactly (n + 1)) (longer k (bytes_from_modrm xs)) (Exactly (n + 1))
    (longer k (bytes_from_modrm (xs ++ zs))) refl (longer_grows k (bytes_from_modrm xs) (bytes_from_modrm (xs ++ zs)) (address_more xs zs))

-- after a byte of any value
passed_more : (n map : ℕ) (vex : Bool) (xs zs : List ℕ) → Grows (after_head n map vex (drop 1 xs)) (after_head n map vex (drop 1 (xs ++ zs)))
passed_more n map vex [] zs = head_from n map vex (drop 1 zs)
passed_more n map vex (a ∷ xs) zs = head_more n map vex xs zs

module _ (zs : List ℕ) where
  c4_more : (xs : List ℕ) → Grows (after_c4 xs) (after_c4 (xs ++ zs))
  c4_more [] = c4_from zs
  c4_more (a ∷ xs) = pick (is_among (1 ∷ 2 ∷ 3 ∷ []) (a % 32)) (after_head 3 (a % 32) true (drop 1 xs)) Empty
      (after_head 3 (a % 32) true (drop 1 (xs ++ zs))) Empty (passed_more 3 (a % 32) true xs zs) refl

  xop_more : (xs : List ℕ) → Grows (after_8f xs) (after_8f (xs ++ zs))
  xop_more [] = xop_from zs
  xop_more (a ∷ xs) = pick (is_among (8 ∷ 9 ∷ 10 ∷ []) (a % 32)) (after_head 3 (a % 32) false (drop 1 xs)) Empty
      (after_head 3 (a % 32) false (drop 1 (xs ++ zs))) Empty (passed_more 3 (a % 32) false xs zs) refl

  third_more : (map : ℕ) (xs : List ℕ) → Grows (third_of_62 map xs) (third_of_62 map (xs ++ zs))
  third_more map [] = third_grows zs
    where
      third_grows : (zs : List ℕ) → From (fewest_of 4 map false) (third_of_62 map zs)
      third_grows [] = omega arith
      third_grows (b ∷ zs) =
          pick_from ((b / 4) % 2 == 1) (fewest_of 4 map false) (after_head 4 map false (drop 1 zs)) Empty (head_from 4 map false (drop 1 zs)) tt
  third_more map (b ∷ xs) = pick ((b / 4) % 2 == 1) (after_head 4 map false (drop 1 xs)) Empty (after_head 4 map false (drop 1 (xs ++ zs))) Empty
      (passed_more 4 map false xs zs) refl

  evex_more : (xs : List ℕ) → Grows (after_62 xs) (after_62 (xs ++ zs))
  evex_more [] = evex_from zs
  evex_more (a ∷ xs) =
      pick (is_among (1 ∷ 2 ∷ 3 ∷ 5 ∷ 6 ∷ []) (a % 16)) (third_of_62 (a % 16) xs) Empty (third_of_62 (a % 16) (xs ++ zs)) Empty
      (third_more (a % 16) xs) refl

  lead_more : (b : ℕ) (xs : List ℕ) → Grows (at_lead b xs) (at_lead b (xs ++ zs))
  lead_more b xs =
      pick (b == 0xc5) (after_c5 xs) (if b == 0xc4 then after_c4 xs else (if b == 0x62 then after_62 xs else (if b == 0x8f then after_8f xs else Empty)))
      (after_c5 (xs ++ zs)) (if b == 0xc4 then after_c4 (xs ++ zs)
      else (if b == 0x62 then after_62 (xs ++ zs) else (if b == 0x8f then after_8f (xs ++ zs) else Empty))) (passed_more 2 1 true xs zs)
      (pick (b == 0xc4) (after_c4 xs) (if b == 0x62 then after_62 xs else (if b == 0x8f then after_8f xs else Empty)) (after_c4 (xs ++ zs))
      (if b == 0x62 then after_62 (xs ++ zs) else (if b == 0x8f then after_8f (xs ++ zs) else Empty)) (c4_more xs)
      (pick (b == 0x62) (after_62 xs) (if b == 0x8f then after_8f xs else Empty) (after_62 (xs ++ zs))
      (if b == 0x8f then after_8f (xs ++ zs) else Empty) (evex_more xs)
      (pick (b == 0x8f) (after_8f xs) Empty (after_8f (xs ++ zs)) Empty (xop_more xs) refl)))

  prefixes_more : (xs : List ℕ) → Grows (after_prefixes xs) (after_prefixes (xs ++ zs))
  unfolding after_prefixes
  prefixes_more [] = prefixes_from zs
  prefixes_more (b ∷ xs) =
      pick (precedes b) (longer 1 (after_prefixes xs)) (at_lead b xs) (longer 1 (after_prefixes (xs ++ zs))) (at_lead b (xs ++ zs))
      (longer_grows 1 (after_prefixes xs) (after_prefixes (xs ++ zs)) (prefixes_more xs)) (lead_more b xs)

-- ---- within the bytes that are there

fit_some : (t : ℕ) (e : Extent) → From 3 e → (n : ℕ) → fitting t e ≡ Whole n → (0 < n) × (n ≤ t)
fit_some t Empty some n is = absurd (cc)
fit_some t (AtLeast m) some n is = grind (arith, nat_tests)
fit_some t (Exactly m) some n is = grind (arith, nat_tests)

fit_long : (t u : ℕ) (e : Extent) → 15 ≤ t → 15 ≤ u → fitting t e ≡ fitting u e
fit_long t u Empty a b = refl
fit_long t u (AtLeast n) a b = grind (arith, nat_tests)
fit_long t u (Exactly n) a b = grind (arith, nat_tests)

-- An encoding that doesn't fit, or is there, is the same with more bytes.
fit_more : (t u : ℕ) (old new : Extent) → t < 15 → t ≤ u → Grows old new → fitting t old ≢ Cut → fitting u new ≡ fitting t old
fit_more t u Empty new a b grows some = ap (fitting u) grows
fit_more t u (AtLeast n) Empty a b grows some = grind (arith, nat_tests)
fit_more t u (AtLeast n) (AtLeast m) a b grows some = grind (arith, nat_tests)
fit_more t u (AtLeast n) (Exactly m) a b grows some = grind (arith, nat_tests)
fit_more t u (Exactly n) new a b grows some = ap (fitting u) grows ∙ grind (arith, nat_tests)

fit_enough : (t : ℕ) (e : Extent) → 15 ≤ t → fitting t e ≢ Cut
fit_enough t Empty a is = absurd (cc)
fit_enough t (AtLeast n) a is = grind (arith, nat_tests)
fit_enough t (Exactly n) a is = grind (arith, nat_tests)

pub within : (xs : List ℕ) (n : ℕ) → vector_of xs ≡ Whole n → (0 < n) × (n ≤ length xs)
unfolding vector_of
within xs n e = fit_some (length xs) (after_prefixes (take 15 xs)) (prefixes_from (take 15 xs)) n e

fit_short : (t : ℕ) (e : Extent) (n : ℕ) → fitting t e ≡ Whole n → n ≤ 15
fit_short t Empty n is = absurd (cc)
fit_short t (AtLeast m) n is = grind (arith, nat_tests)
fit_short t (Exactly m) n is = grind (arith, nat_tests)

pub at_most_fifteen : (xs : List ℕ) (n : ℕ) → vector_of xs ≡ Whole n → n ≤ 15
unfolding vector_of
at_most_fifteen xs n e = fit_short (length xs) (after_prefixes (take 15 xs)) n e

pub enough : (xs : List ℕ) → 15 ≤ length xs → vector_of xs ≢ Cut
unfolding vector_of
enough xs long = fit_enough (length xs) (after_prefixes (take 15 xs)) long

pub stays : (xs ys : List ℕ) → vector_of xs ≢ Cut → vector_of (xs ++ ys) ≡ vector_of xs
unfolding vector_of
stays xs ys some = elim (cases_lt (length xs) 15) [
  | inl short ↦
      let whole : take 15 xs ≡ xs = take_all 15 xs (omega (arith, short)) in
      let sum : length xs + (15 - length xs) ≡ 15 = omega (arith, short) in
      let more : take 15 (xs ++ ys) ≡ xs ++ take (15 - length xs) ys = ap (λ n. take n (xs ++ ys)) (sym sum) ∙ take-append-add xs ys (15 - length xs) in
      let known : fitting (length xs) (after_prefixes xs) ≢ Cut = λ e. some (ap (λ l. fitting (length xs) (after_prefixes l)) whole ∙ e) in
      let grows : Grows (after_prefixes xs) (after_prefixes (xs ++ take (15 - length xs) ys)) = prefixes_more (take (15 - length xs) ys) xs in
      ap (λ l. fitting (length (xs ++ ys)) (after_prefixes l)) more
      ∙ fit_more (length xs) (length (xs ++ ys)) (after_prefixes xs) (after_prefixes (xs ++ take (15 - length xs) ys)) short
      (omega (arith, length-append xs ys)) grows known
      ∙ ap (λ l. fitting (length xs) (after_prefixes l)) (sym whole)
  | inr long ↦
      ap (λ l. fitting (length (xs ++ ys)) (after_prefixes l)) (take-append-le 15 xs ys long)
      ∙ fit_long (length (xs ++ ys)) (length xs) (after_prefixes (take 15 xs)) (omega (arith, length-append xs ys, long)) long
]
