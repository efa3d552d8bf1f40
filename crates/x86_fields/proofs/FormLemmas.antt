-- Two address forms are equal where their values agree.
use Rattle.std.proofs.Common.{◌⊎◌, inl, inr, ◌≡◌, ◌≢◌, ℕ, zero, suc, ◌+◌, ◌-◌, ◌*◌, ◌%◌, ◌<◌, ◌≤◌, ◌^◌, ◌==◌, nat_le, nat_lt, Bool, true}
use Rattle.std.proofs.Common.{false, ◌&&◌, if◌then◌else◌, List, [], ◌∷◌, refl, sym, ap, ◌∙◌, arith, Option, Some, None, ℤ, pos, negsuc}
use Rattle.std.specs.Prelude.{slice_index, slice_set, FitsSigned}
use Rattle.std.specs.List.{list_all}
use Rattle.std.specs.Int.{w32, sum_through}
use Rattle.std.proofs.lemmas.Bool.{and_parts, cases_lt}
use Rattle.std.proofs.lemmas.Bool.Decides.{nat_tests}
use Rattle.std.proofs.lemmas.List.{get_or-replicate, get_or-set_same, get_or-set_other, length-set}
use Rattle.std.proofs.Math.Nat.{mod-eq_of_lt, add-mod_right}
use Rattle.x86_regs.specs.declared.RegSpec.{RegSpec}
use Rattle.x86_fields.specs.declared.raw.Raw.{Raw}
use Rattle.x86_fields.specs.Address.{base_of, index_of, scale_by}
use Rattle.x86_fields.specs.Linear.{Linear, linear, raw_form, modulus_by, constant_by, adds_to, adds_next, value_at, IsSameAddress}
use Rattle.x86_fields.specs.Linear.{IsReduced, IsRegFile, zero_file, unit_file, AgreeEverywhere, AgreeAtUnits}
use Rattle.x86_fields.proofs.LinearLemmas.{sum_none, sum_one}

-- ---- sums

sum_same : (f g : ℕ → ℕ) (k : ℕ) → ((r : ℕ) → r ≤ k → f r ≡ g r) → sum_through f k ≡ sum_through g k
sum_same f g zero each = each 0 (omega arith)
sum_same f g (suc k) each =
    let beginning : sum_through f k ≡ sum_through g k = sum_same f g k (λ r h. each r (omega arith)) in
    let last : f (suc k) ≡ g (suc k) = each (suc k) (omega arith) in
    omega arith

times_none : (c x : ℕ) → x ≡ 0 → c * x ≡ 0 * c
times_none c x e = ap (λ y. c * y) e ∙ omega arith

sum_at_zero : (c : ℕ → ℕ) → sum_through (λ r. c r * slice_index zero_file r) 15 ≡ 0
sum_at_zero c =
    sum_same (λ r. c r * slice_index zero_file r) (λ r. 0 * c r) 15
    (λ r h. times_none (c r) (slice_index zero_file r) (get_or-replicate 16 r 0 0 (omega arith)))
    ∙ sum_none c 15

at_unit : (b : Bool) (c k r : ℕ) → (k == r) ≡ b → k < 16 → r < 16 → c * slice_index (unit_file k) r ≡ (if b then 1 else 0) * c
at_unit true c k r e h i =
    let same : k ≡ r = grind (arith, nat_tests) in
    let one : slice_index (unit_file k) r ≡ 1 = ap (λ j. slice_index (unit_file k) j) (sym same) ∙ get_or-set_same zero_file k 1 0 h in
    ap (λ y. c * y) one ∙ omega arith
at_unit false c k r e h i =
    let other : r ≢ k = λ same. grind (arith, nat_tests) in
    times_none c (slice_index (unit_file k) r) (get_or-set_other zero_file k r 1 0 other ∙ get_or-replicate 16 r 0 0 i)

low : (k : ℕ) → k < 16 → nat_le k 15 ≡ true
low k h = grind (arith, nat_tests)

sum_at_unit : (c : ℕ → ℕ) (k : ℕ) → k < 16 → sum_through (λ r. c r * slice_index (unit_file k) r) 15 ≡ c k
sum_at_unit c k h =
    sum_same (λ r. c r * slice_index (unit_file k) r) (λ r. (if k == r then 1 else 0) * c r) 15 (λ r i. at_unit (k == r) (c r) k r refl h (omega arith))
    ∙ sum_one k 1 c 15
    ∙ ap (λ b. if b then 1 * c k else 0) (low k h)
    ∙ omega arith

-- ---- values at the units

value_at_zero : (f : Linear) → IsReduced f → value_at f zero_file 0 ≡ f.constant
value_at_zero f small =
    ap (λ x. (x + f.next * 0 + f.constant) % f.modulus) (sum_at_zero f.registers)
    ∙ (let none : 0 + f.next * 0 + f.constant ≡ f.constant = omega arith in ap (λ x. x % f.modulus) none)
    ∙ mod-eq_of_lt small.constant

value_at_unit : (f : Linear) (k : ℕ) → k < 16 → value_at f (unit_file k) 0 ≡ (f.registers k + f.constant) % f.modulus
value_at_unit f k h =
    ap (λ x. (x + f.next * 0 + f.constant) % f.modulus) (sum_at_unit f.registers k h)
    ∙ (let none : f.registers k + f.next * 0 + f.constant ≡ f.registers k + f.constant = omega arith in ap (λ x. x % f.modulus) none)

value_at_next : (f : Linear) → value_at f zero_file 1 ≡ (f.next + f.constant) % f.modulus
value_at_next f =
    ap (λ x. (x + f.next * 1 + f.constant) % f.modulus) (sum_at_zero f.registers)
    ∙ (let one : 0 + f.next * 1 + f.constant ≡ f.next + f.constant = omega arith in ap (λ x. x % f.modulus) one)

-- ---- what is known from the values

-- a sum of two numbers below m, modulo m
wrapped : (x m : ℕ) → x < m + m → (x % m ≡ x) ⊎ (x % m + m ≡ x)
wrapped x m h = elim (cases_lt x m) [
  | inl below ↦ inl (mod-eq_of_lt below)
  | inr above ↦
      let split : x ≡ x - m + m = omega arith in
      let rest : x % m ≡ x - m = ap (λ y. y % m) split ∙ add-mod_right (x - m) m ∙ mod-eq_of_lt (omega arith) in
      inr (omega arith)
]

same_term : (a b c m : ℕ) → a < m → b < m → c < m → (a + c) % m ≡ (b + c) % m → a ≡ b
same_term a b c m ha hb hc e =
    let x = wrapped (a + c) m (omega arith) in
    let y = wrapped (b + c) m (omega arith) in
    grind arith

module _ (f g : Linear) (same : f.modulus ≡ g.modulus) (f_small : IsReduced f) (g_small : IsReduced g) where
  constants : AgreeAtUnits f g → f.constant ≡ g.constant
  constants agree = sym (value_at_zero f f_small) ∙ agree.zero ∙ value_at_zero g g_small

  terms : AgreeAtUnits f g → (a b : ℕ) → a < f.modulus → b < g.modulus → (a + f.constant) % f.modulus ≡ (b + g.constant) % g.modulus → a ≡ b
  terms agree a b ha hb e =
      let constant : f.constant ≡ g.constant = constants agree in
      same_term a b f.constant f.modulus ha (omega arith) f_small.constant
      (e ∙ ap (λ m. (b + g.constant) % m) (sym same) ∙ ap (λ c. (b + c) % f.modulus) (sym constant))

  pub units_show : AgreeAtUnits f g → IsSameAddress f g
  units_show agree = record {
    modulus = same;
    registers = λ r h. terms agree (f.registers r) (g.registers r) (f_small.registers r h) (g_small.registers r h)
        (sym (value_at_unit f r h) ∙ agree.units r h ∙ value_at_unit g r h);
    next = terms agree f.next g.next f_small.next g_small.next (sym (value_at_next f) ∙ agree.next ∙ value_at_next g);
    constant = constants agree;
  }

-- ---- the files

all_set : (p : ℕ → Bool) (xs : List ℕ) (k a : ℕ) → p a ≡ true → list_all p xs ≡ true → list_all p (slice_set xs k a) ≡ true
all_set p [] k a here all = refl
all_set p (x ∷ xs) zero a here all = ap (λ b. b && list_all p xs) here ∙ (and_parts (p x) (list_all p xs) all).1
all_set p (x ∷ xs) (suc k) a here all = ap (λ b. b && list_all p (slice_set xs k a)) (and_parts (p x) (list_all p xs) all).0
    ∙ all_set p xs k a here (and_parts (p x) (list_all p xs) all).1

zero_is_file : IsRegFile zero_file
zero_is_file = record { sixteen = refl; small = refl }

unit_is_file : (r : ℕ) → IsRegFile (unit_file r)
unit_is_file r = record { sixteen = length-set zero_file r 1; small = all_set (λ n. nat_lt n (2 ^ 64)) zero_file r 1 refl refl }

pub units_of : (f g : Linear) → AgreeEverywhere f g → AgreeAtUnits f g
units_of f g agree = record {
  zero = agree zero_file 0 zero_is_file (omega arith);
  units = λ r h. agree (unit_file r) 0 (unit_is_file r) (omega arith);
  next = agree zero_file 1 zero_is_file (omega arith);
}

pub same_value : (f g : Linear) → IsSameAddress f g → (regs : List ℕ) (next : ℕ) → value_at f regs next ≡ value_at g regs next
same_value f g same regs next =
    ap (λ x. (x + f.next * next + f.constant) % f.modulus)
    (sum_same (λ r. f.registers r * slice_index regs r) (λ r. g.registers r * slice_index regs r) 15
    (λ r h. ap (λ c. c * slice_index regs r) (same.registers r (omega arith))))
    ∙ ap (λ n. (sum_through (λ r. g.registers r * slice_index regs r) 15 + n * next + f.constant) % f.modulus) same.next
    ∙ ap (λ c. (sum_through (λ r. g.registers r * slice_index regs r) 15 + g.next * next + c) % f.modulus) same.constant
    ∙ ap (λ m. (sum_through (λ r. g.registers r * slice_index regs r) 15 + g.next * next + g.constant) % m) same.modulus

-- ---- the forms of raw fields

adds_little : (o : Option RegSpec) (t r : ℕ) → adds_to o t r ≤ t
adds_little None t r = omega arith
adds_little (Some reg) t r = grind (arith, nat_tests)

adds_next_little : (o : Option RegSpec) (t : ℕ) → adds_next o t ≤ t
adds_next_little None t = omega arith
adds_next_little (Some reg) t = grind (arith, nat_tests)

large : (short : Bool) → 16 ≤ modulus_by short
large short = grind (arith, nat_tests)

constant_small : (short : Bool) (d : ℤ) → FitsSigned w32 d → constant_by short d < modulus_by short
constant_small true (pos n) fits = let h : n < 2 ^ 31 = fits.sfits in omega arith
constant_small true (negsuc n) fits = let h : n < 2 ^ 31 = fits.sfits in omega arith
constant_small false (pos n) fits = let h : n < 2 ^ 31 = fits.sfits in omega arith
constant_small false (negsuc n) fits = let h : n < 2 ^ 31 = fits.sfits in omega arith

linear_reduced : (short : Bool) (b i : Option RegSpec) (s : ℕ) (d : ℤ) → s ≤ 8 → FitsSigned w32 d → IsReduced (linear short b i s d)
linear_reduced short b i s d scale fits =
    let modulus : 16 ≤ modulus_by short = large short in
    let next_base : adds_next b 1 ≤ 1 = adds_next_little b 1 in
    let next_index : adds_next i s ≤ s = adds_next_little i s in
    record {
      registers = λ r h. let base : adds_to b 1 r ≤ 1 = adds_little b 1 r in let index : adds_to i s r ≤ s = adds_little i s r in omega arith;
      next = omega arith;
      constant = constant_small short d fits;
    }

pub raw_reduced : (raw : Raw) → scale_by raw.sib ≤ 8 → FitsSigned w32 raw.disp → IsReduced (raw_form raw)
raw_reduced raw scale fits = linear_reduced raw.address_size (base_of raw) (index_of raw) (scale_by raw.sib) raw.disp scale fits
