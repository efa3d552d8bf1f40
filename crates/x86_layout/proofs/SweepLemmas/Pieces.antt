-- The cuts of an input that is swept piece by piece.
use Rattle.std.proofs.Common.{◌≡◌, ◌≢◌, ℕ, ◌+◌, ◌<◌, ◌≤◌, Bool, List, [], ◌∷◌, ◌++◌, length, drop, Err, refl, ap, ◌∙◌, sym, arith, length-append, drop-drop}
use Rattle.std.proofs.lemmas.List.{drop-append-le}
use Rattle.x86_fields.specs.declared.errors.DecodeError.TheVariants.{ExhaustedInput}
use Rattle.x86_decode.specs.Answer.{answer_of}
use Rattle.x86_layout.specs.declared.sweeps.cuts.Cut.{Cut}
use Rattle.x86_layout.specs.Sweeps.Cuts.{cut_length, cut_at, cuts_from}
use Rattle.x86_layout.specs.Sweeps.Pieces.{total_length, CutsGoOn, CutsOfMore, CutsJoin}
use Rattle.x86_layout.proofs.SweepLemmas.Place.{none_left, first_and_rest, fits}

abbrev size : Bool → List ℕ → ℕ
size strict xs = cut_length (answer_of strict xs)

module _ (strict : Bool) (fit : (xs : List ℕ) → 0 < length xs → (0 < size strict xs) × (size strict xs ≤ length xs)) where
  some_bytes : (place : ℕ) (xs : List ℕ) (c : Cut) (cs : List Cut) → cuts_from strict place xs ≡ c ∷ cs → 0 < length xs
  some_bytes place [] c cs e = absurd (cc (none_left strict place [] refl, e))
  some_bytes place (x ∷ xs) c cs e = omega arith

  next : (place : ℕ) (xs : List ℕ) → 0 < length xs → cuts_from strict place xs ≡ cut_at strict place xs ∷
      cuts_from strict (place + size strict xs) (drop (size strict xs) xs)
  next place xs some = first_and_rest strict (size strict xs) place xs refl (fit xs some).0 some

  -- the first cut is the head of the list, and the rest its tail
  divided : (place : ℕ) (xs : List ℕ) (c : Cut) (cs : List Cut) → cuts_from strict place xs ≡ c ∷ cs →
      (cut_at strict place xs ≡ c) × (cuts_from strict (place + size strict xs) (drop (size strict xs) xs) ≡ cs)
  divided place xs c cs e =
      let both : cut_at strict place xs ∷ cuts_from strict (place + size strict xs) (drop (size strict xs) xs) ≡ c ∷ cs =
      sym (next place xs (some_bytes place xs c cs e)) ∙ e in
      (cc, cc)

  moved : (place n m : ℕ) (xs : List ℕ) → cuts_from strict ((place + n) + m) (drop m (drop n xs)) ≡ cuts_from strict (place + (n + m)) (drop (n + m) xs)
  moved place n m xs =
      let further : (place + n) + m ≡ place + (n + m) = omega arith in
      ap (λ p. cuts_from strict p (drop m (drop n xs))) further ∙ ap (cuts_from strict (place + (n + m))) (drop-drop m n xs)

  pub go_on : CutsGoOn strict
  go_on place xs [] after e = sym e ∙ ap (λ p. cuts_from strict p xs) (omega arith)
  go_on place xs (c ∷ cs) after e =
      let d = divided place xs c (cs ++ after) e in
      let long : size strict xs ≡ c.length = ap (λ c. c.length) d.0 in
      let rest = go_on (place + size strict xs) (drop (size strict xs) xs) cs after d.1 in
      cc (rest, moved place (size strict xs) (total_length cs) xs, long)

  -- cuts that follow others begin where these end
  begins : (place : ℕ) (xs : List ℕ) (before after : List Cut) (c : Cut) → cuts_from strict place xs ≡ before ++ c ∷ after →
      place + total_length before ≡ c.place
  begins place xs before after c e =
      let n : ℕ = total_length before in
      ap (λ c. c.place) (divided (place + n) (drop n xs) c after (sym (go_on place xs before (c ∷ after) e))).0

  module _ (stays : (xs ys : List ℕ) → answer_of strict xs ≢ Err ExhaustedInput → answer_of strict (xs ++ ys) ≡ answer_of strict xs) where
    pub of_more : CutsOfMore strict
    of_more place xs ys [] after e final = ap (λ p. cuts_from strict p (xs ++ ys)) (omega arith)
    of_more place xs ys (c ∷ cs) after e final =
        let d = divided place xs c (cs ++ after) e in
        let n : ℕ = size strict xs in
        let some : 0 < length xs = some_bytes place xs c (cs ++ after) e in
        let known : answer_of strict xs ≢ Err ExhaustedInput = λ f. final.0 (sym (ap (λ c. c.answer) d.0) ∙ f) in
        let same : answer_of strict (xs ++ ys) ≡ answer_of strict xs = stays xs ys known in
        let more : 0 < length (xs ++ ys) = simp length-append (omega (arith, some)) in
        let first : cut_at strict place (xs ++ ys) ≡ c = ap (λ a. record { place = place; length = cut_length a; answer = a }) same ∙ d.0 in
        let long : size strict (xs ++ ys) ≡ n = ap cut_length same in
        let rest : drop n (xs ++ ys) ≡ drop n xs ++ ys = drop-append-le n xs ys (fit xs some).1 in
        let tail = of_more (place + n) (drop n xs) ys cs after d.1 final.1 in
        cc (next place (xs ++ ys) more, first, long, rest, tail, moved place n (total_length cs) (xs ++ ys), d.0)

    pub join : CutsJoin strict
    join place skip xs ys before after passed rest c d first final other meet =
        let n : ℕ = total_length passed in
        let one = begins place xs before after c first in
        let two = begins (place + skip) (drop skip (xs ++ ys)) passed rest d other in
        let same : skip + n ≡ total_length before = omega (arith, one, two, meet) in
        let left = go_on (place + skip) (drop skip (xs ++ ys)) passed (d ∷ rest) other in
        of_more place xs ys before (c ∷ after) first final
        ∙ ap (λ m. before ++ cuts_from strict (place + m) (drop m (xs ++ ys))) (sym same)
        ∙ ap (λ l. before ++ l) (sym (left ∙ moved place skip n (xs ++ ys)))

-- what the laws of pieces say
pub ruleset piece_laws = (fits, go_on, of_more, join)
