-- The list of the names: its order, and how long each is.
use Rattle.std.proofs.Common.{◌≡◌, ℕ, ◌+◌, ◌*◌, ◌/◌, ◌%◌, ◌<◌, Bool, true, eqb, List, [], ◌∷◌, length, map, get_or, take, drop, ◌&&◌, zero}
use Rattle.std.proofs.Common.{suc, ◌≤◌, leb, ltb, Some, slice_get, sym, ap, ◌∙◌, arith}
use Rattle.x86_opcodes.specs.Mnemonics.{Named, spelled_in}
use Rattle.std.proofs.lemmas.List.{get_or-take, get_or-drop, length-take, length-drop}
use Rattle.std.proofs.lemmas.Bool.{and_parts, eqb-true, eq-eqb, ne_eqb, cond-true, cond-false, cond_both, leb-true, ltb-true}

-- the records are in the order of their numbers, from k on
abbrev pub in_order : ℕ → List Named → Bool
in_order k [] = true
in_order k (n ∷ ns) = eqb n.opcode k && in_order (suc k) ns

-- the search finds the record of the number
pub found : (ns : List Named) (k n m : ℕ) → in_order k ns ≡ true → n < length ns → m ≡ n + k → spelled_in ns m ≡ get_or (map (λ r. r.spelled) ns) n []
found [] k n m e h at = absurd (omega arith)
found (r ∷ ns) k zero m e h at =
    let here = and_parts _ _ e in
    let first : r.opcode ≡ k = eqb-true _ _ here.0 in
    cond-true _ _ _ (eq-eqb r.opcode m (omega arith))
found (r ∷ ns) k (suc n) m e h at =
    let here = and_parts _ _ e in
    let first : r.opcode ≡ k = eqb-true _ _ here.0 in
    cond-false _ _ _ (ne_eqb r.opcode m (λ same. omega arith)) ∙ found ns (suc k) n m here.1 (omega arith) (omega arith)

-- the record at a place has that place's number
pub numbered : (ns : List Named) (k n : ℕ) (r : Named) → in_order k ns ≡ true → slice_get ns n ≡ Some r → r.opcode ≡ n + k
numbered [] k n r e at = absurd cc
numbered (s ∷ ns) k zero r e at =
    let here = and_parts _ _ e in
    let first : s.opcode ≡ k = eqb-true _ _ here.0 in
    let same : s ≡ r = cc in
    let own : r.opcode ≡ s.opcode = ap (λ t. t.opcode) (sym same) in
    omega arith
numbered (s ∷ ns) k (suc n) r e at =
    let here = and_parts _ _ e in
    let rest : r.opcode ≡ n + suc k = numbered ns (suc k) n r here.1 at in
    omega arith

-- no name in the list is longer than 16
abbrev pub all_short : List Named → Bool
all_short [] = true
all_short (n ∷ ns) = leb (length n.spelled) 16 && all_short ns

-- no name in the list is empty
abbrev pub all_named : List Named → Bool
all_named [] = true
all_named (n ∷ ns) = ltb 0 (length n.spelled) && all_named ns

pub short : (ns : List Named) (o : ℕ) → all_short ns ≡ true → length (spelled_in ns o) ≤ 16
short [] o e = omega arith
short (n ∷ ns) o e =
    let parts = and_parts (leb (length n.spelled) 16) (all_short ns) e in
    cond_both (eqb n.opcode o) n.spelled (spelled_in ns o) (λ (text : List ℕ). length text ≤ 16)
    (λ _. leb-true (length n.spelled) 16 parts.0) (λ _. short ns o parts.1)

-- so no place has an empty name
pub long : (ns : List Named) (n : ℕ) → all_named ns ≡ true → n < length ns → 0 < length (get_or (map (λ r. r.spelled) ns) n [])
long [] n e h = absurd (omega arith)
long (r ∷ ns) zero e h = ltb-true 0 (length r.spelled) (and_parts (ltb 0 (length r.spelled)) (all_named ns) e).0
long (r ∷ ns) (suc n) e h = long ns n (and_parts (ltb 0 (length r.spelled)) (all_named ns) e).1 (omega arith)

-- a text of the part of a number is the text with that number
pub in_part : (texts part : List (List ℕ)) (n : ℕ) (text : List ℕ) → part ≡ take 128 (drop (128 * (n / 128)) texts) →
    text ≡ get_or part (n % 128) [] → text ≡ get_or texts n []
in_part texts part n text is_part at =
    let number : 128 * (n / 128) + n % 128 ≡ n = omega arith in
    at
    ∙ ap (λ (p : List (List ℕ)). get_or p (n % 128) []) is_part
    ∙ get_or-take 128 (drop (128 * (n / 128)) texts) (n % 128) [] (omega arith)
    ∙ get_or-drop (128 * (n / 128)) texts (n % 128) []
    ∙ ap (λ k. get_or texts k []) number

pub within_part : (texts : List (List ℕ)) (n : ℕ) → n < length texts → n % 128 < length (take 128 (drop (128 * (n / 128)) texts))
within_part texts n below = simp (length-take, length-drop) (omega arith)
