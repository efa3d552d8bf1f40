-- The cuts after a cut, where cuts begin and end, and the marks at their places.
use Rattle.std.proofs.Common.{◌≡◌, ℕ, zero, suc, ◌+◌, ◌-◌, ◌<◌, ◌≤◌, Bool, List, [], ◌∷◌, length, drop, refl, ap, ◌∙◌, arith, ◌&&◌, not}
use Rattle.std.proofs.Common.{nat_le, nat_lt, false, inl, inr, Ok, subst, ◌==◌, ◌||◌, true, slice_index_or, slice_set}
use Rattle.std.proofs.lemmas.List.{nil_from_length, get_or-set_same, get_or-set_other}
use Rattle.x86_decode.specs.Answer.{answer_of}
use Rattle.x86_layout.specs.Sweeps.Cuts.{cut_length, cut_at, cuts_skipping, cuts_from, IsWithin}
use Rattle.std.proofs.lemmas.List.Sums.{sum_by-cons}
use Rattle.std.proofs.lemmas.List.Elements.{All-nil, All-cons}
use Rattle.std.proofs.lemmas.Bool.Decides.{nat_tests}
use Rattle.std.specs.List.{list_any, sum_by, All}
use Rattle.std.proofs.lemmas.Bool.{cases_lt}
use Rattle.x86_decode.specs.declared.instructions.Instruction.{Instruction}
use Rattle.x86_layout.specs.declared.sweeps.cuts.Cut.{Cut}
use Rattle.x86_layout.specs.Sweeps.Marks.{begins_at}

-- ---- the cuts after a cut

module _ (strict : Bool) where
  -- the bytes of the cut before are passed over
  pub passed : (skip place : ℕ) (xs : List ℕ) → cuts_skipping strict skip place xs ≡ cuts_from strict (place + skip) (drop skip xs)
  unfolding cuts_skipping
  passed zero place xs = ap (λ p. cuts_skipping strict 0 p xs) (omega arith)
  passed (suc k) place [] = refl
  passed (suc k) place (x ∷ xs) = passed k (place + 1) xs ∙ ap (λ p. cuts_skipping strict 0 p (drop k xs)) (omega arith)

  -- the first cut, and the cuts after it
  pub first_and_rest : (n place : ℕ) (xs : List ℕ) → cut_length (answer_of strict xs) ≡ n → 0 < n → 0 < length xs →
      cuts_from strict place xs ≡ cut_at strict place xs ∷ cuts_from strict (place + n) (drop n xs)
  unfolding cuts_skipping
  first_and_rest n place [] e some h = absurd (omega arith)
  first_and_rest zero place (x ∷ xs) e some h = absurd (omega arith)
  first_and_rest (suc k) place (x ∷ xs) e some h =
      let skipped : cut_length (answer_of strict (x ∷ xs)) - 1 ≡ k = omega arith in
      ap (λ l. cut_at strict place (x ∷ xs) ∷ l)
      (ap (λ s. cuts_skipping strict s (place + 1) xs) skipped ∙ passed k (place + 1) xs ∙ ap (λ p. cuts_skipping strict 0 p (drop k xs)) (omega arith))

  pub none_left : (place : ℕ) (xs : List ℕ) → length xs ≡ 0 → cuts_from strict place xs ≡ []
  unfolding cuts_skipping
  none_left place xs e = rw (nil_from_length xs e)

  pub count : (skip place : ℕ) (xs : List ℕ) → length (cuts_skipping strict skip place xs) ≤ length xs
  unfolding cuts_skipping
  count skip place [] = omega arith
  count zero place (x ∷ xs) = let h = count (cut_length (answer_of strict (x ∷ xs)) - 1) (place + 1) xs in omega (arith, h)
  count (suc k) place (x ∷ xs) = let h = count k (place + 1) xs in omega (arith, h)

-- ---- where cuts begin and end

-- the place is after the first byte of a cut, and at most at its last one
abbrev pub is_inside : ℕ → Cut → Bool
is_inside place c = nat_le (c.place + 1) place && nat_lt place (c.place + c.length)

-- instructions have a length, which is at most that of the input
abbrev pub Lengths : Bool → Type 0
Lengths strict = (xs : List ℕ) (i : Instruction) → answer_of strict xs ≡ Ok i → (0 < i.length) × (i.length ≤ length xs)

one_more : (place n : ℕ) → (place + 1) + n ≡ place + suc n
one_more place n = omega arith

module _ (strict : Bool) (lengths : Lengths strict) where
  pub fits : (xs : List ℕ) → 0 < length xs → (0 < cut_length (answer_of strict xs)) × (cut_length (answer_of strict xs) ≤ length xs)
  fits xs h = grind (arith, lengths)

  -- ---- ends

  pub within : (skip place : ℕ) (xs : List ℕ) → All (IsWithin (place + length xs)) (cuts_skipping strict skip place xs)
  unfolding cuts_skipping
  within skip place [] = All-nil (IsWithin (place + 0))
  within zero place (x ∷ xs) =
      let n : ℕ = cut_length (answer_of strict (x ∷ xs)) in
      let fit = fits (x ∷ xs) (omega arith) in
      All-cons (IsWithin (place + suc (length xs))) (cut_at strict place (x ∷ xs)) (cuts_skipping strict (n - 1) (place + 1) xs)
      (fit.0, let long : n ≤ suc (length xs) = fit.1 in omega arith)
      (rw (← one_more place (length xs)) (within (n - 1) (place + 1) xs))
  within (suc k) place (x ∷ xs) = rw (← one_more place (length xs)) (within k (place + 1) xs)

  -- ---- indices

  -- what no cut at a place or after it is
  none_from : (test : Cut → Bool) (skip place : ℕ) (xs : List ℕ) → ((c : Cut) → place ≤ c.place → test c ≡ false) →
      list_any test (cuts_skipping strict skip place xs) ≡ false
  unfolding cuts_skipping
  none_from test skip place [] none = refl
  none_from test zero place (x ∷ xs) none =
      let rest = none_from test (cut_length (answer_of strict (x ∷ xs)) - 1) (place + 1) xs (λ c h. none c (omega arith)) in
      cc (none (cut_at strict place (x ∷ xs)) (omega arith), rest)
  none_from test (suc k) place (x ∷ xs) none = none_from test k (place + 1) xs (λ c h. none c (omega arith))

  -- a place after the cut before is that of a cut, or inside one
  begins_by : (skip place p : ℕ) (xs : List ℕ) → place ≤ p → p < place + length xs →
      list_any (begins_at p) (cuts_skipping strict skip place xs) ≡
      (not (nat_lt p (place + skip)) && not (list_any (is_inside p) (cuts_skipping strict skip place xs)))
  unfolding cuts_skipping
  begins_by skip place p [] h k = absurd (omega arith)
  begins_by zero place p (x ∷ xs) h k = elim (cases_lt place p) [
    | inl less ↦
        let some = (fits (x ∷ xs) (omega arith)).0 in
        let rest = begins_by (cut_length (answer_of strict (x ∷ xs)) - 1) (place + 1) p xs (omega arith) (omega arith) in
        grind (arith, nat_tests)
    | inr same ↦
        let n : ℕ = cut_length (answer_of strict (x ∷ xs)) in
        let rest = none_from (is_inside p) (n - 1) (place + 1) xs (λ c h. grind (arith, nat_tests)) in
        grind (arith, nat_tests)
  ]
  begins_by (suc k) place p (x ∷ xs) h l = elim (cases_lt place p) [
    | inl less ↦ cc (begins_by k (place + 1) p xs (omega arith) (omega arith), one_more place k)
    | inr same ↦ let rest = none_from (begins_at p) k (place + 1) xs (λ c h. grind (arith, nat_tests)) in grind (arith, nat_tests)
  ]

  -- a place of the bytes is that of a cut, or inside one
  pub begins_or_inside : (p : ℕ) (xs : List ℕ) → p < length xs →
      list_any (begins_at p) (cuts_from strict 0 xs) ≡ not (list_any (is_inside p) (cuts_from strict 0 xs))
  begins_or_inside p xs h = let h = begins_by 0 0 p xs (omega arith) (omega arith) in grind (arith, nat_tests)

  pub all_within : (xs : List ℕ) → All (IsWithin (length xs)) (cuts_from strict 0 xs)
  all_within xs = subst (λ e. All (IsWithin e) (cuts_from strict 0 xs)) (omega arith) (within 0 0 xs)

  -- ---- lengths

  sum_from : (skip place : ℕ) (xs : List ℕ) → skip ≤ length xs → sum_by (λ c. c.length) (cuts_skipping strict skip place xs) + skip ≡ length xs
  unfolding cuts_skipping
  sum_from skip place [] h = omega arith
  sum_from zero place (x ∷ xs) h =
      let fit = fits (x ∷ xs) (omega arith) in
      let rest = sum_from (cut_length (answer_of strict (x ∷ xs)) - 1) (place + 1) xs (omega arith) in
      omega (arith, sum_by-cons {X = Cut}, rest)
  sum_from (suc k) place (x ∷ xs) h = let rest = sum_from k (place + 1) xs (omega arith) in omega (arith, rest)

  pub sum_all : (xs : List ℕ) → sum_by (λ c. c.length) (cuts_from strict 0 xs) ≡ length xs
  sum_all xs = let h = sum_from 0 0 xs (omega arith) in omega (arith, h)

-- ---- marks after one of them is changed

pub marked : (marks : List Bool) (place p : ℕ) → place < length marks →
    slice_index_or (slice_set marks place true) p false ≡ (slice_index_or marks p false || place == p)
marked marks place p h = grind (arith, nat_tests, get_or-set_same, get_or-set_other)

-- ---- one cut further

pub one_more_marked : (old new t u all : Bool) → new ≡ (old || t) → (old || (t || u)) ≡ all → (new || u) ≡ all
one_more_marked old new t u all e h = grind arith

pub one_more_cleared : (old new t u all : Bool) → new ≡ (old && not t) → (old && not (t || u)) ≡ all → (new && not u) ≡ all
one_more_cleared old new t u all e h = grind arith

pub all_cleared : (new old inside begins : Bool) → (new && not false) ≡ (old && not inside) → begins ≡ not inside → new ≡ (old && begins)
all_cleared new old inside begins e h = grind arith

-- what the laws of cuts say
pub ruleset cut_laws = (none_left, first_and_rest, fits, count, sum_all, all_within)
