-- What blanks and pairs at the beginning of a text say of it.
use Rattle.std.proofs.Common.{add-zero, ◌≡◌, ℕ, zero, suc, ◌+◌, ◌*◌, ◌%◌, ◌<◌, ◌≤◌, List, [], ◌∷◌, ◌++◌, length, take, set, slice_index_or}
use Rattle.std.proofs.Common.{arith, Some, true, false, append_assoc, length-append, length-set, sym, ap, subst, ◌∙◌}
use Rattle.std.proofs.lemmas.List.{take_more, get_or-set_same, get_or-set_other}
use Rattle.x86_streams.specs.Text.{is_blank, value_of}
use Rattle.x86_streams.specs.Text.Spells.{Spells}
use Rattle.x86_streams.proofs.TextLemmas.Text.{text-blank, text-pair, value-blank}

pub spells_blank : (text : List ℕ) (at : ℕ) (vs : List ℕ) → Spells text at vs → at < length text →
    is_blank (slice_index_or text at 0) ≡ true → Spells text (at + 1) vs
spells_blank text at vs s inside blank =
    let x = slice_index_or text at 0 in
    record {
      inside = omega (arith, inside);
      pairs = omega (arith, s.pairs);
      begins = rw (take_more text at 0 inside) (λ p r xs stop.
          let begins = s.begins p (suc r) (x ∷ xs) stop in grind (arith, append_assoc {A = ℕ}, length-append (take at text) (x ∷ []), text-blank));
    }

pub spells_pair : (text : List ℕ) (at v w : ℕ) (vs : List ℕ) → Spells text at vs → at + 1 < length text → is_blank (slice_index_or text at 0) ≡ false →
    value_of (slice_index_or text at 0) ≡ Some v → value_of (slice_index_or text (at + 1) 0) ≡ Some w → Spells text (at + 2) (vs ++ (16 * v + w) ∷ [])
spells_pair text at v w vs s inside blank high low =
    let x = slice_index_or text at 0 in
    let y = slice_index_or text (at + 1) 0 in
    let two : take (at + 2) text ≡ take at text ++ x ∷ y ∷ [] = grind (arith, take_more text at 0, take_more text (at + 1) 0, append_assoc {A = ℕ}) in
    record {
      inside = omega (arith, inside);
      pairs = simp length-append (omega (arith, s.pairs));
      begins = rw two (λ p r xs stop.
          let begins = s.begins p (suc (suc r)) (x ∷ y ∷ xs) stop in grind (arith, append_assoc {A = ℕ}, length-append (take at text) (x ∷ y ∷ []), text-pair));
    }

-- one more cell, of which something holds
pub more_set : (P : ℕ → ℕ → Type 0) (xs : List ℕ) (i v : ℕ) → ((k : ℕ) → k < i → P k (slice_index_or xs k 0)) → i < length xs → P i v →
    (k : ℕ) → k < i + 1 → P k (slice_index_or (set xs i v) k 0)
more_set P xs i v before inside one k lt = grind (arith, get_or-set_other xs i k v 0, get_or-set_same xs i v 0, before k)

-- a block of pairs after bytes
module _ (text values values' digits : List ℕ) (at count run : ℕ) (s : Spells text at (take count values))
    (inside : at + 32 ≤ length text) (room : count + 16 ≤ length values') (few : run ≤ 16)
    (shown : (k : ℕ) → k < 32 → slice_index_or digits k 0 < 16 → value_of (slice_index_or text (at + k) 0) ≡ Some (slice_index_or digits k 0))
    (small : (k : ℕ) → k < 2 * run → slice_index_or digits k 0 < 16)
    (before : take count values' ≡ take count values)
    (put : (k : ℕ) → k < 16 → slice_index_or values' (count + k) 0 ≡ 16 * (slice_index_or digits (2 * k) 0 % 16) + slice_index_or digits
    (2 * k + 1) 0 % 16) where
  pub spells_run : (j : ℕ) → j ≤ run → Spells text (at + 2 * j) (take (count + j) values')
  spells_run zero le = rw (add-zero, add-zero, before) s
  spells_run (suc j) le =
      let v = slice_index_or digits (2 * j) 0 in
      let w = slice_index_or digits (2 * j + 1) 0 in
      let so_far = spells_run j (omega (arith, le)) in
      let high = shown (2 * j) (omega (arith, le, few)) (small (2 * j) (omega (arith, le))) in
      let low = shown (2 * j + 1) (omega (arith, le, few)) (small (2 * j + 1) (omega (arith, le))) in
      let pair = spells_pair text (at + 2 * j) v w (take (count + j) values') so_far (omega (arith, le, few, inside)) in
      grind (arith, pair, high, low, value-blank (slice_index_or text (at + 2 * j) 0), small (2 * j), small (2 * j + 1), put j, take_more values' (count + j) 0)

-- these are the bytes of so many pairs, between which there is one byte
abbrev pub ArePairs : List ℕ → ℕ → List ℕ → ℕ → Type 0
ArePairs text at xs n = (k : ℕ) → k < n →
    (slice_index_or xs (2 * k) 0 ≡ slice_index_or text (at + 3 * k) 0) × (slice_index_or xs (2 * k + 1) 0 ≡ slice_index_or text (at + 3 * k + 1) 0)

-- one more pair
pub more_pair : (text : List ℕ) (at : ℕ) (xs : List ℕ) (i v w : ℕ) → ArePairs text at xs i → 2 * i + 1 < length xs →
    v ≡ slice_index_or text (at + 3 * i) 0 → w ≡ slice_index_or text (at + 3 * i + 1) 0 →
    ArePairs text at (set (set xs (2 * i) v) (2 * i + 1) w) (i + 1)
more_pair text at xs i v w before inside high low k lt =
    let ys = set xs (2 * i) v in
    let long : length ys ≡ length xs = length-set xs (2 * i) v in (
      grind (arith, long, high, get_or-set_other ys (2 * i + 1) (2 * k) w 0, get_or-set_other xs (2 * i) (2 * k) v 0, get_or-set_same xs (2 * i) v 0, before k),
      grind (
        arith,
        long,
        low,
        get_or-set_other ys (2 * i + 1) (2 * k + 1) w 0,
        get_or-set_same ys (2 * i + 1) w 0,
        get_or-set_other xs (2 * i) (2 * k + 1) v 0,
        before k,
      ),
    )

-- a block of sixteen pairs after bytes, with a blank between each two
module _ (text values values' pairs digits : List ℕ) (at count : ℕ) (s : Spells text at (take count values))
    (inside : at + 47 ≤ length text) (room : count + 16 ≤ length values') (are_pairs : ArePairs text at pairs 16)
    (blanks : (k : ℕ) → k < 15 → is_blank (slice_index_or text (at + 3 * k + 2) 0) ≡ true)
    (shown : (k : ℕ) → k < 32 → slice_index_or digits k 0 < 16 → value_of (slice_index_or pairs (0 + k) 0) ≡ Some (slice_index_or digits k 0))
    (small : (k : ℕ) → k < 32 → slice_index_or digits k 0 < 16)
    (before : take count values' ≡ take count values)
    (put : (k : ℕ) → k < 16 → slice_index_or values' (count + k) 0 ≡ 16 * (slice_index_or digits (2 * k) 0 % 16) + slice_index_or digits
    (2 * k + 1) 0 % 16) where
  digit : (k : ℕ) → k < 32 → value_of (slice_index_or pairs k 0) ≡ Some (slice_index_or digits k 0)
  digit k lt =
      subst (λ i. value_of (slice_index_or pairs i 0) ≡ Some (slice_index_or digits k 0)) {x = 0 + k} (omega arith) (shown k lt (small k lt))

  one_more : (j : ℕ) → j < 16 → Spells text (at + 3 * j) (take (count + j) values') → Spells text (at + 3 * j + 2) (take (count + j + 1) values')
  one_more j lt so_far =
      let v = slice_index_or digits (2 * j) 0 in
      let w = slice_index_or digits (2 * j + 1) 0 in
      let high : value_of (slice_index_or text (at + 3 * j) 0) ≡ Some v =
      subst (λ b. value_of b ≡ Some v) (are_pairs j lt).0 (digit (2 * j) (omega (arith, lt))) in
      let low : value_of (slice_index_or text (at + 3 * j + 1) 0) ≡ Some w =
      subst (λ b. value_of b ≡ Some w) (are_pairs j lt).1 (digit (2 * j + 1) (omega (arith, lt))) in
      let pair = spells_pair text (at + 3 * j) v w (take (count + j) values') so_far (omega (arith, lt, inside)) in
      grind (arith, pair, high, low, value-blank (slice_index_or text (at + 3 * j) 0), small (2 * j), small (2 * j + 1), put j, take_more values' (count + j) 0)

  up_to : (j : ℕ) → j < 16 → Spells text (at + 3 * j + 2) (take (count + j + 1) values')
  up_to zero lt =
      one_more zero lt (subst (λ p. Spells text p (take (count + 0) values')) {x = at} (omega arith)
      (subst (λ vs. Spells text at vs) (sym before ∙ ap (λ n. take n values') {x = count} (omega arith)) s))
  up_to (suc j) lt =
      let blank = spells_blank text (at + 3 * j + 2) _ (up_to j (omega (arith, lt))) (omega (arith, lt, inside)) (blanks j (omega (arith, lt))) in
      one_more (suc j) lt (subst (λ p. Spells text p (take (count + suc j) values')) {x = at + 3 * j + 2 + 1} (omega arith)
      (subst (λ n. Spells text (at + 3 * j + 2 + 1) (take n values')) {x = count + j + 1} (omega arith) blank))

  pub spells_spaced : Spells text (at + 47) (take (count + 16) values')
  spells_spaced =
      subst (λ p. Spells text p (take (count + 16) values')) {x = at + 3 * 15 + 2} (omega arith)
      (subst (λ n. Spells text (at + 3 * 15 + 2) (take n values')) {x = count + 15 + 1} (omega arith) (up_to 15 (omega arith)))
