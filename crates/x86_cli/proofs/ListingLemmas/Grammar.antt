-- The listing by the grammar alone.
use Rattle.std.proofs.Common.{add-zero, add_assoc, Bool, ◌≡◌, ◌↔◌, ℕ, suc, zero, ◌+◌, ◌<◌, ◌≤◌, List, [], ◌∷◌, ◌++◌, length, drop, Result}
use Rattle.std.proofs.Common.{Ok, Err, refl, arith, ap, ◌∙◌, sym, subst, append_assoc, length-append}
use Rattle.std.proofs.Math.Seq.{take-append_seam, drop-append_seam}
use Rattle.std.specs.List.{concat}
use Rattle.x86_cli.proofs.ListingLemmas.Vocabulary.{Instruction, DecodeError, answer_of, count_of, Ending, line}
use Rattle.x86_forms.specs.Words.{rows_of, packed}
use Rattle.x86_decode.specs.Grammar.{IsAnswer, IsSentence}
use Rattle.x86_layout.specs.declared.sweeps.cuts.Cut.{Cut}
use Rattle.x86_layout.specs.Sweeps.Cuts.{cut_length, cuts_from}
use Rattle.x86_layout.proofs.SweepLemmas.Place.{first_and_rest, none_left}
use Rattle.x86_cli.specs.Listings.Listing.{Listing, with_lines, at_end, decoded_of, listing_from}
use Rattle.x86_cli.specs.Listings.Grammar.{AreCuts, at_error, EndsListing, AreLines, IsListing, IsPiece}
use Rattle.x86_cli.proofs.ListingLemmas.Listing.{listing-whole}

-- what the decoder's laws say of one choice
pub record GrammarLaws (strict : Bool) : Type 0 where
  pub there : (xs : List ℕ) → IsAnswer (rows_of packed) strict xs (answer_of strict xs) (count_of strict xs)
  pub only : (xs : List ℕ) (r : Result Instruction DecodeError) (n : ℕ) → IsAnswer (rows_of packed) strict xs r n → r ≡ answer_of strict xs
  pub lengths : (xs : List ℕ) (i : Instruction) → answer_of strict xs ≡ Ok i → (0 < i.length) × (i.length ≤ length xs)

module _ (strict : Bool) (laws : GrammarLaws strict) (text : ℕ → Instruction → List ℕ → List ℕ) where
  abbrev IsHere : ℕ → List ℕ → Ending → Listing → Type 0
  IsHere place image e l = IsListing (rows_of packed) strict text place image e l

  -- what is left, where its answer is an error
  pub error_here : (n x : ℕ) (xs : List ℕ) (e : Ending) (error : DecodeError) → Err error ≡ answer_of strict (x ∷ xs) →
      listing_from strict text n 0 (x ∷ xs) e ≡ at_error n error e
  unfolding listing_from decoded_of
  error_here n x xs e error h = grind arith

  end_here : (n : ℕ) (xs : List ℕ) (e : Ending) (last : Listing) → EndsListing (rows_of packed) strict n xs e last →
      last ≡ listing_from strict text n 0 xs e
  unfolding listing_from
  end_here n [] e last is = is
  end_here n (x ∷ xs) e last ends = grind (arith, error_here n x xs e ends.0, laws.only (x ∷ xs) (Err ends.0))

  -- a sentence and the bytes after it
  pub sentence_here : (n : ℕ) (s rest : List ℕ) (e : Ending) (i : Instruction) → IsSentence (rows_of packed) strict s i →
      listing_from strict text n 0 (s ++ rest) e ≡ with_lines (line (text n i s) ∷ []) (listing_from strict text (n + length s) 0 rest e)
  unfolding decoded_of
  sentence_here n s rest e i is =
      let all = s ++ rest in
      let ok : answer_of strict all ≡ Ok i = sym (laws.only all (Ok i) (length s)
      (record { sentence = s; rest = rest; begins = refl; long = refl; is = is })) in
      let l = laws.lengths all i ok in
      let len : i.length ≡ length s = ap (λ i. i.length) is.yields in
      let h = listing-whole strict text n all e i (grind arith) l.0 l.1 in
      grind (arith, take-append_seam s rest, drop-append_seam s rest)

  listing_is : (n : ℕ) (ss : List (List ℕ)) (left : List ℕ) (e : Ending) (lines : List (List ℕ)) (last : Listing) →
      AreLines (rows_of packed) strict text n ss lines → EndsListing (rows_of packed) strict (n + length (concat ss)) left e last →
      with_lines lines last ≡ listing_from strict text n 0 (concat ss ++ left) e
  listing_is n [] left e lines last each ends = rw each (end_here n left e last (simp add-zero at ends))
  listing_is n (s ∷ ss) left e lines last each ends =
      let same : n + length (s ++ concat ss) ≡ (n + length s) + length (concat ss) = simp length-append (omega arith) in
      let after = listing_is (n + length s) ss left e each.2 last each.4 (subst (λ m. EndsListing (rows_of packed) strict m left e last) same ends) in
      let first = sentence_here n s (concat ss ++ left) e each.0 each.1 in grind (arith, append_assoc {A = ℕ})

  -- there is such a listing of each image
  at_once : (n : ℕ) (xs : List ℕ) (e : Ending) (last : Listing) → EndsListing (rows_of packed) strict n xs e last → IsHere n xs e last
  at_once n xs e last ends =
      record { sentences = []; left = xs; whole = refl; lines = []; each = refl; last = last; ends = simp add-zero ends; is = refl }

  -- by the answer of an image that isn't empty, where this is so of shorter ones
  by_answer : (k n x : ℕ) (xs : List ℕ) (e : Ending) → ((m : ℕ) (ys : List ℕ) → length ys ≤ k → IsHere m ys e (listing_from strict text m 0 ys e)) →
      length xs ≤ k → (r : Result Instruction DecodeError) → answer_of strict (x ∷ xs) ≡ r →
      IsAnswer (rows_of packed) strict (x ∷ xs) r (count_of strict (x ∷ xs)) → IsHere n (x ∷ xs) e (listing_from strict text n 0 (x ∷ xs) e)
  by_answer k n x xs e shorter le (Ok i) h a =
      let s = a.sentence in
      let less : length a.rest ≤ k = omega (
        arith,
        ap (λ i. i.length) a.is.yields,
        ap length a.begins ∙ length-append s a.rest,
        le,
        (laws.lengths (x ∷ xs) i h).0,
      ) in
      let t = shorter (n + length s) a.rest less in
      subst (λ ys. IsHere n ys e (listing_from strict text n 0 ys e)) (sym a.begins) (record {
        sentences = s ∷ t.sentences;
        left = t.left;
        whole = ap (λ xs. s ++ xs) t.whole ∙ sym (append_assoc s (concat t.sentences) t.left);
        lines = line (text n i s) ∷ t.lines;
        each = (i, a.is, t.lines, refl, t.each);
        last = t.last;
        ends = simp (length-append, ← add_assoc) t.ends;
        is = sentence_here n s a.rest e i a.is ∙ ap (with_lines (line (text n i s) ∷ [])) t.is;
      })
  by_answer k n x xs e shorter le (Err error) h a =
      let is = error_here n x xs e error (sym h) in
      rw is (at_once n (x ∷ xs) e (at_error n error e) (error, count_of strict (x ∷ xs), a, refl))

  listing_there : (k n : ℕ) (xs : List ℕ) (e : Ending) → length xs ≤ k → IsHere n xs e (listing_from strict text n 0 xs e)
  unfolding listing_from
  listing_there k n [] e le = at_once n [] e (at_end e) refl
  listing_there zero n (x ∷ xs) e le = absurd (omega (arith, le))
  listing_there (suc k) n (x ∷ xs) e le =
      by_answer k n x xs e (λ m ys. listing_there k m ys e) (omega (arith, le)) (answer_of strict (x ∷ xs)) refl (laws.there (x ∷ xs))

  pub listing_exactly : (n : ℕ) (xs : List ℕ) (e : Ending) (l : Listing) → IsHere n xs e l ↔ (l ≡ listing_from strict text n 0 xs e)
  listing_exactly n xs e l = (
    λ h. h.is ∙ listing_is n h.sentences h.left e h.lines h.last h.each h.ends ∙ ap (λ ys. listing_from strict text n 0 ys e) (sym h.whole),
    λ is. rw is (listing_there (length xs) n xs e (omega arith)),
  )

-- cuts by the grammar alone

module _ (strict : Bool) (laws : GrammarLaws strict) where
  abbrev AreHere : ℕ → List ℕ → List Cut → Type 0
  AreHere place bytes cs = AreCuts (rows_of packed) strict place bytes cs

  -- a piece has the answer of what is left, and the length of its cut
  piece_is : (piece after : List ℕ) (a : Result Instruction DecodeError) → IsPiece (rows_of packed) strict piece after a →
      (answer_of strict (piece ++ after) ≡ a) × (cut_length a ≡ length piece) × (0 < length piece)
  piece_is piece after (Ok i) is =
      let h : answer_of strict (piece ++ after) ≡ Ok i =
      sym (laws.only (piece ++ after) (Ok i) (length piece) (record { sentence = piece; rest = after; begins = refl; long = refl; is = is })) in
      let long : i.length ≡ length piece = ap (λ i. i.length) is.yields in
      (h, long, omega (arith, long, (laws.lengths (piece ++ after) i h).0))
  piece_is piece after (Err e) is = (sym (laws.only (piece ++ after) (Err e) is.1 is.2), sym is.0, omega (arith, is.0))

  -- a cut has a byte
  pub some_cut : (xs : List ℕ) (a : Result Instruction DecodeError) → answer_of strict xs ≡ a → 0 < cut_length a
  some_cut xs (Ok i) h = (laws.lengths xs i h).0
  some_cut xs (Err e) h = omega arith

  -- the first cut, by its answer, and those after it
  pub first_cut : (place : ℕ) (xs : List ℕ) (a : Result Instruction DecodeError) → answer_of strict xs ≡ a → 0 < cut_length a → 0 < length xs →
      cuts_from strict place xs ≡ record { place = place; length = cut_length a; answer = a } ∷ cuts_from strict (place + cut_length a) (drop (cut_length a) xs)
  first_cut place xs a h some left =
      first_and_rest strict (cut_length a) place xs (ap cut_length h) some left
      ∙ ap (λ (b : Result Instruction DecodeError). record { place = place; length = cut_length b; answer = b } ∷
      cuts_from strict (place + cut_length a) (drop (cut_length a) xs)) h

  cuts_are : (place : ℕ) (xs : List ℕ) (cs : List Cut) → AreHere place xs cs → cs ≡ cuts_from strict place xs
  cuts_are place xs [] is = sym (none_left strict place xs (ap length is))
  cuts_are place xs (c ∷ cs) (piece, after, whole, is, at, long, others) =
      let h = piece_is piece after c.answer is in
      let rest = cuts_are (place + length piece) after cs others in
      let first = first_cut place (piece ++ after) c.answer h.0 (omega (arith, h.1, h.2)) (omega (arith, h.2, length-append piece after)) in
      let here : c ≡ record { place = place; length = cut_length c.answer; answer = c.answer } = grind (arith, at, long, h.1) in
      rw whole (ap (λ c. c ∷ cs) here ∙ ap (λ cs. record { place = place; length = cut_length c.answer; answer = c.answer } ∷ cs)
      (rest ∙ grind (arith, h.1, drop-append_seam piece after)) ∙ sym first)

  -- by the answer of bytes that aren't empty, where this is so of fewer bytes
  by_cut : (k place x : ℕ) (xs : List ℕ) → ((m : ℕ) (ys : List ℕ) → length ys ≤ k → AreHere m ys (cuts_from strict m ys)) → length xs ≤ k →
      (a : Result Instruction DecodeError) → answer_of strict (x ∷ xs) ≡ a →
      IsAnswer (rows_of packed) strict (x ∷ xs) a (count_of strict (x ∷ xs)) → AreHere place (x ∷ xs) (cuts_from strict place (x ∷ xs))
  by_cut k place x xs fewer le (Ok i) h is =
      let s = is.sentence in
      let some = (laws.lengths (x ∷ xs) i h).0 in
      let long : i.length ≡ length s = ap (λ i. i.length) is.is.yields in
      let first = first_cut place (x ∷ xs) (Ok i) h some (omega arith) in
      let after : drop i.length (x ∷ xs) ≡ is.rest = ap (λ n. drop n (x ∷ xs)) long ∙ ap (drop (length s)) is.begins ∙ drop-append_seam s is.rest in
      let others : cuts_from strict (place + i.length) (drop i.length (x ∷ xs)) ≡ cuts_from strict (place + length s) is.rest = cc (long, after) in
      let less : length is.rest ≤ k = omega (arith, long, ap length is.begins ∙ length-append s is.rest, le, some) in
      rw (first, others) (s, is.rest, is.begins, is.is, refl, long, fewer (place + length s) is.rest less)
  by_cut k place x xs fewer le (Err e) h is =
      rw (first_cut place (x ∷ xs) (Err e) h (omega arith) (omega arith))
      (x ∷ [], xs, refl, (refl, count_of strict (x ∷ xs), is), refl, refl, fewer (place + 1) xs le)

  cuts_there : (k place : ℕ) (xs : List ℕ) → length xs ≤ k → AreHere place xs (cuts_from strict place xs)
  cuts_there k place [] le = rw (none_left strict place [] refl) refl
  cuts_there zero place (x ∷ xs) le = absurd (omega (arith, le))
  cuts_there (suc k) place (x ∷ xs) le = by_cut k place x xs (λ m ys. cuts_there k m ys) (omega (arith, le)) (answer_of strict (x ∷ xs))
      refl (laws.there (x ∷ xs))

  pub cuts_exactly : (place : ℕ) (xs : List ℕ) (cs : List Cut) → AreHere place xs cs ↔ (cs ≡ cuts_from strict place xs)
  cuts_exactly place xs cs = (cuts_are place xs cs, λ is. rw is (cuts_there (length xs) place xs (omega arith)))
