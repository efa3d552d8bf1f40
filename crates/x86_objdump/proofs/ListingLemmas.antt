-- The listing by its pieces.
use Rattle.std.proofs.Common.{Bool, true, false, ◌≡◌, ◌≢◌, ℕ, zero, suc, ◌+◌, ◌-◌, ◌<◌, ◌≤◌, List, [], ◌∷◌, ◌++◌, length, take, drop}
use Rattle.std.proofs.Common.{Option, Some, None, Result, Ok, Err, refl, append-nil, arith, ap, ◌∙◌, sym, length-append, if◌then◌else◌}
use Rattle.std.proofs.Common.{is_some, ◌⊎◌, inl, inr}
use Rattle.std.proofs.lemmas.List.{drop-append-le, take-append-le, nil_from_length}
use Rattle.x86_decode.specs.declared.instructions.Instruction.{Instruction}
use Rattle.x86_fields.specs.declared.errors.DecodeError.{DecodeError}
use Rattle.x86_fields.specs.declared.errors.DecodeError.TheVariants.{ExhaustedInput}
use Rattle.x86_decode.specs.Answer.{answer_of}
use Rattle.x86_streams.specs.declared.text.reader.Ending.{Ending}
use Rattle.x86_streams.specs.declared.text.reader.Ending.TheVariants.{Fault}
use Rattle.x86_streams.specs.Outside.Stop.{Stop}
use Rattle.x86_streams.specs.Text.{Text, text_at}
use Rattle.x86_streams.specs.Text.Window.{rest_of}
use Rattle.x86_cli.specs.DecoderLaws.{DecoderLaws}
use Rattle.x86_cli.specs.declared.listings.listing.Entry.{Entry}
use Rattle.x86_cli.specs.declared.listings.listing.Entry.TheVariants as entry
use Rattle.x86_cli.specs.Listings.Entry.{IsEntry}
use Rattle.x86_cli.specs.Listings.Line.{line}
use Rattle.x86_cli.specs.Listings.Listing.{Listing, with_lines, at_end}
use Rattle.x86_cli.proofs.ListingLemmas.NextEntry.{no_bytes, few_undecided}
use Rattle.x86_objdump.specs.declared.vectors.Vector.{Vector}
use Rattle.x86_objdump.specs.declared.vectors.Vector.TheVariants.{Absent, Cut, Whole}
use Rattle.x86_cli.specs.Text.Window.{IsAtCut}
use Rattle.x86_cli.specs.declared.text.window.AtRefusal.TheVariants as refusal
use Rattle.x86_cli.proofs.ListingLemmas.Sweep.{some_bytes}
use Rattle.x86_objdump.specs.Lines.{vector_text, refused_text}
use Rattle.x86_objdump.specs.Vectors.{vector_of, vector_after, once_ended}
use Rattle.x86_streams.specs.Lines.Address.{address_of}
use Rattle.x86_objdump.specs.Listing.{Piece, length_by, piece_length, is_open_by, piece_at, pieces_skipping, pieces_from}
use Rattle.x86_objdump.specs.Listing.{piece_text, piece_lines, decided_of, shown_at, known_at}
use Rattle.x86_objdump.proofs.VectorLemmas.{within, at_most_fifteen, enough, stays}

-- ---- the pieces after a piece

module _ (strict : Bool) where
  -- the bytes of the piece before are passed over
  passed : (skip place : ℕ) (xs : List ℕ) → pieces_skipping strict skip place xs ≡ pieces_from strict (place + skip) (drop skip xs)
  unfolding pieces_skipping
  passed zero place xs = ap (λ p. pieces_skipping strict 0 p xs) (omega arith)
  passed (suc k) place [] = refl
  passed (suc k) place (x ∷ xs) = passed k (place + 1) xs ∙ ap (λ p. pieces_skipping strict 0 p (drop k xs)) (omega arith)

  -- the first piece, and those after it
  pub first_and_rest : (n place : ℕ) (xs : List ℕ) → piece_length (piece_at strict place xs) ≡ n → 0 < n → 0 < length xs →
      pieces_from strict place xs ≡ piece_at strict place xs ∷ pieces_from strict (place + n) (drop n xs)
  unfolding pieces_skipping
  first_and_rest n place [] e some h = absurd (omega arith)
  first_and_rest zero place (x ∷ xs) e some h = absurd (omega arith)
  first_and_rest (suc k) place (x ∷ xs) e some h =
      let skipped : piece_length (piece_at strict place (x ∷ xs)) - 1 ≡ k = omega arith in
      ap (λ l. piece_at strict place (x ∷ xs) ∷ l)
      (ap (λ s. pieces_skipping strict s (place + 1) xs) skipped ∙ passed k (place + 1) xs ∙ ap (λ p. pieces_skipping strict 0 p (drop k xs)) (omega arith))

  pub none_left : (place : ℕ) (xs : List ℕ) → length xs ≡ 0 → pieces_from strict place xs ≡ []
  unfolding pieces_skipping
  none_left place xs e = rw (nil_from_length xs e)

-- ---- what is known of a piece that isn't open

not_exhausted : (a : Result Instruction DecodeError) (v : Vector) → is_open_by a v ≡ false → a ≢ Err ExhaustedInput
not_exhausted a v sure e = let f : is_open_by (Err ExhaustedInput) v ≡ false = rw e at sure in absurd (cc)

not_cut : (a : Result Instruction DecodeError) (xs : List ℕ) → is_open_by a (vector_after a xs) ≡ false → (ys : List ℕ) →
    vector_after a (xs ++ ys) ≡ vector_after a xs
not_cut (Ok i) xs sure ys = refl
not_cut (Err e) xs sure ys = stays xs ys (λ cut. closed e (rw cut at sure))
  where
    closed : (e : DecodeError) → is_open_by (Err e) Cut ≡ false → ⊥
    closed e h = grind arith

-- where no encoding is cut, only bytes that are exhausted are open
only_exhausted : (e : DecodeError) (v : Vector) → v ≢ Cut → is_open_by (Err e) v ≡ true → e ≡ ExhaustedInput
only_exhausted e v known is = grind arith

module _ (strict : Bool) (base : ℕ) where
  abbrev text_of : ℕ → List ℕ → Result Instruction DecodeError → Vector → List ℕ
  text_of n bytes a v = piece_text strict (address_of base n) bytes a v

  -- what is listed of a text that begins with such a piece
  abbrev Steps : (ℕ → Text → Listing) → Result Instruction DecodeError → Vector → Type 0
  Steps at a v = (n : ℕ) (xs : List ℕ) (e : Ending) → answer_of strict xs ≡ a → vector_after a xs ≡ v → 0 < length_by a v → length_by a v ≤ length xs →
      at n (record { image = xs; ending = e }) ≡ with_lines (line (text_of n (take (length_by a v) xs) a v) ∷ [])
      (at (n + length_by a v) (record { image = drop (length_by a v) xs; ending = e }))

  piece_is : (a : Result Instruction DecodeError) (v : Vector) (n : ℕ) (xs : List ℕ) → answer_of strict xs ≡ a → vector_after a xs ≡ v →
      piece_at strict n xs ≡ record { place = n; answer = a; vector = v }
  piece_is a v n xs h w = ap (λ (b : Result Instruction DecodeError). record { place = n; answer = b; vector = vector_after b xs }) h
      ∙ ap (λ (u : Vector). record { place = n; answer = a; vector = u }) w

  shown_steps : (a : Result Instruction DecodeError) (v : Vector) → Steps (shown_at strict base) a v
  shown_steps a v n xs e h w some le =
      let is = piece_is a v n xs h w in
      ap (λ (ps : List Piece). with_lines (piece_lines strict base ps xs) (at_end e))
      (first_and_rest strict (length_by a v) n xs (ap piece_length is) some (omega (arith, some, le)))
      ∙ ap (λ (p : Piece). with_lines (piece_lines strict base (p ∷ pieces_from strict (n + length_by a v) (drop (length_by a v) xs)) xs) (at_end e)) is

  known_steps : (a : Result Instruction DecodeError) (v : Vector) → is_open_by a v ≡ false → Steps (known_at strict base) a v
  known_steps a v sure n xs e h w some le =
      let is = piece_is a v n xs h w in
      ap (λ (ps : List Piece). with_lines (decided_of strict base ps xs) (at_end e))
      (first_and_rest strict (length_by a v) n xs (ap piece_length is) some (omega (arith, some, le)))
      ∙ ap (λ (p : Piece). with_lines (decided_of strict base (p ∷ pieces_from strict (n + length_by a v) (drop (length_by a v) xs)) xs) (at_end e)) is
      ∙ ap (λ (b : Bool). with_lines (if b then [] else line (text_of n (take (length_by a v) xs) a v) ∷
      decided_of strict base (pieces_from strict (n + length_by a v) (drop (length_by a v) xs)) (drop (length_by a v) xs)) (at_end e)) sure

  -- the same of what a window has left
  rest_line : (at : ℕ → Text → Listing) (a : Result Instruction DecodeError) (v : Vector) → Steps at a v →
      (ended : Option Ending) (n : ℕ) (w : List ℕ) (p r : ℕ) → 0 < length_by a v → length_by a v ≤ length w → (xs : List ℕ) (stop : Stop) →
      answer_of strict (rest_of ended w p r xs stop).image ≡ a → vector_after a (rest_of ended w p r xs stop).image ≡ v →
      at n (rest_of ended w p r xs stop) ≡ with_lines (line (text_of n (take (length_by a v) w) a v) ∷ [])
      (at (n + length_by a v) (rest_of ended (drop (length_by a v) w) p r xs stop))
  rest_line at a v steps None n w p r some le xs stop answers vectors =
      let more : Text = text_at p r xs stop in
      steps n (w ++ more.image) more.ending answers vectors some (omega (arith, le, length-append w more.image))
      ∙ (λ i. with_lines (line (text_of n (take-append-le (length_by a v) w more.image le i) a v) ∷ [])
      (at (n + length_by a v) (record { image = drop-append-le (length_by a v) w more.image le i; ending = more.ending })))
  rest_line at a v steps (Some e) n w p r some le xs stop answers vectors = steps n w e answers vectors some le

  pub entry_ended : (ended : Option Ending) (n : ℕ) (text w : List ℕ) (p r : ℕ) (e : Ending) → ended ≡ Some e → length w ≡ 0 →
      IsEntry (shown_at strict base) (known_at strict base) (entry.Ended e) n text ended w p r
  entry_ended ended n text w p r e is none xs stop =
      rw is (ap (λ (ps : List Piece). with_lines (piece_lines strict base ps w) (at_end e)) (none_left strict n w none))

  module _ (laws : DecoderLaws strict) where
    -- a piece has some bytes, which are there
    piece_shows : (a : Result Instruction DecodeError) (w : List ℕ) → answer_of strict w ≡ a → 0 < length w →
        (0 < length_by a (vector_after a w)) × (length_by a (vector_after a w) ≤ length w)
    piece_shows (Ok i) w h some = laws.lengths w i h
    piece_shows (Err e) w h some = by_vector (vector_of w) refl
      where
        by_vector : (v : Vector) → vector_of w ≡ v → (0 < length_by (Err e) v) × (length_by (Err e) v ≤ length w)
        by_vector (Whole n) is = within w n is
        by_vector Cut is = (omega arith, omega (arith, some))
        by_vector Absent is = (omega arith, omega (arith, some))

    -- a window whose piece isn't open, or after which nothing comes
    same_answer : (ended : Option Ending) (w : List ℕ) (p r : ℕ) (a : Result Instruction DecodeError) → answer_of strict w ≡ a →
        (ended ≡ None → is_open_by a (vector_after a w) ≡ false) → (xs : List ℕ) (stop : Stop) →
        (answer_of strict (rest_of ended w p r xs stop).image ≡ a) × (vector_after a (rest_of ended w p r xs stop).image ≡ vector_after a w)
    same_answer None w p r a h sure xs stop =
        let known = sure refl in
        (laws.stay w (text_at p r xs stop).image (λ e. not_exhausted a (vector_after a w) known (sym h ∙ e)) ∙ h, not_cut a w known (text_at p r xs stop).image)
    same_answer (Some e) w p r a h sure xs stop = (h, refl)

    pub entry_line : (ended : Option Ending) (n : ℕ) (w : List ℕ) (p r : ℕ) (a : Result Instruction DecodeError) → answer_of strict w ≡ a →
        (ended ≡ None → is_open_by a (vector_after a w) ≡ false) → 0 < length w →
        (e : Entry) (text : List ℕ) → e ≡ entry.Line (length_by a (vector_after a w)) →
        text ≡ text_of n (take (length_by a (vector_after a w)) w) a (vector_after a w) →
        IsEntry (shown_at strict base) (known_at strict base) e n text ended w p r
    entry_line ended n w p r a here sure some e text entry is =
        let v = vector_after a w in
        let h = piece_shows a w here some in
        let same = same_answer ended w p r a here sure in
        rw (entry, is) (
          h.0,
          h.1,
          (λ xs stop. rest_line (shown_at strict base) a v (shown_steps a v) ended n w p r h.0 h.1 xs stop (same xs stop).0 (same xs stop).1),
          λ o xs stop. rest_line (known_at strict base) a v (known_steps a v (sure o)) ended n w p r h.0 h.1 xs stop (same xs stop).0 (same xs stop).1,
        )

    -- Where the first piece is open, nothing is known but that a failure is next.
    open_piece : (n : ℕ) (w : List ℕ) (a : Result Instruction DecodeError) → answer_of strict w ≡ a →
        is_open_by a (vector_after a w) ≡ true → with_lines (decided_of strict base (pieces_from strict n w) w) (at_end Fault) ≡ at_end Fault
    open_piece n [] a h is = ap (λ (ps : List Piece). with_lines (decided_of strict base ps []) (at_end Fault)) (none_left strict n [] refl)
    open_piece n (x ∷ w) a h is =
        let v = vector_after a (x ∷ w) in
        let fits = piece_shows a (x ∷ w) h (omega arith) in
        let same = piece_is a v n (x ∷ w) h refl in
        ap (λ (ps : List Piece). with_lines (decided_of strict base ps (x ∷ w)) (at_end Fault))
        (first_and_rest strict (length_by a v) n (x ∷ w) (ap piece_length same) fits.0 (omega arith))
        ∙ ap (λ (p : Piece). with_lines (decided_of strict base (p ∷ pieces_from strict (n + length_by a v) (drop (length_by a v) (x ∷ w)))
        (x ∷ w)) (at_end Fault)) same
        ∙ ap (λ (b : Bool). with_lines (if b then [] else line (text_of n (take (length_by a v) (x ∷ w)) a v) ∷
        decided_of strict base (pieces_from strict (n + length_by a v) (drop (length_by a v) (x ∷ w))) (drop (length_by a v) (x ∷ w))) (at_end Fault)) is

    few_open : (w : List ℕ) (a : Result Instruction DecodeError) → answer_of strict w ≡ a → is_open_by a (vector_after a w) ≡ true → length w < 15
    few_open w (Ok i) h is = absurd (cc)
    few_open w (Err e) h is = by_vector (vector_of w) refl is
      where
        by_vector : (v : Vector) → vector_of w ≡ v → is_open_by (Err e) v ≡ true → length w < 15
        by_vector Cut at is = let long = enough w in grind arith
        by_vector (Whole n) at is = few_undecided strict laws w (h ∙ ap Err (only_exhausted e (Whole n) (λ f. cc) is))
        by_vector Absent at is = few_undecided strict laws w (h ∙ ap Err (only_exhausted e Absent (λ f. cc) is))

    pub entry_undecided : (ended : Option Ending) (n : ℕ) (text w : List ℕ) (p r : ℕ) (a : Result Instruction DecodeError) → ended ≡ None →
        answer_of strict w ≡ a → is_open_by a (vector_after a w) ≡ true →
        IsEntry (shown_at strict base) (known_at strict base) entry.Undecided n text ended w p r
    entry_undecided ended n text w p r a is here more =
        (is, few_open w a here more, λ t needs. rw (no_bytes t.image needs.1, needs.0, append-nil) (open_piece n w a here more))

-- ---- where the decoder refuses

closed_whole : (e : DecodeError) (n : ℕ) → e ≢ ExhaustedInput → is_open_by (Err e) (Whole n) ≡ false
closed_whole e n known = grind arith

closed_absent : (e : DecodeError) → e ≢ ExhaustedInput → is_open_by (Err e) Absent ≡ false
closed_absent e known = grind arith

open_cut : (e : DecodeError) → is_open_by (Err e) Cut ≡ true
open_cut e = grind arith

pub open_exhausted : (v : Vector) → is_open_by (Err ExhaustedInput) v ≡ true
open_exhausted v = refl

-- what is once_ended of an encoding says what is there
whole_settled : (b : Bool) (v : Vector) (n : ℕ) → once_ended b v ≡ Whole n → v ≡ Whole n
whole_settled b (Whole m) n e = grind arith
whole_settled b Cut n e = grind arith
whole_settled b Absent n e = grind arith

cut_settled : (b : Bool) (v : Vector) → once_ended b v ≡ Cut → (b ≡ false) × (v ≡ Cut)
cut_settled true (Whole m) e = absurd (cc)
cut_settled true Cut e = absurd (cc)
cut_settled true Absent e = absurd (cc)
cut_settled false v e = (refl, e)

absent_settled : (b : Bool) (v : Vector) → once_ended b v ≡ Absent → (v ≡ Absent) ⊎ ((b ≡ true) × (v ≡ Cut))
absent_settled true (Whole m) e = absurd (cc)
absent_settled true Cut e = inr (refl, refl)
absent_settled true Absent e = inl refl
absent_settled false v e = inl e

some_ended : (ended : Option Ending) → is_some ended ≡ true → ended ≢ None
some_ended None e f = absurd (cc)
some_ended (Some x) e f = absurd (cc)

none_ended : (ended : Option Ending) → is_some ended ≡ false → ended ≡ None
none_ended None e = refl
none_ended (Some x) e = absurd (cc)

module _ (strict : Bool) (base : ℕ) (laws : DecoderLaws strict) (ended : Option Ending) (n : ℕ) (w : List ℕ) (p r : ℕ) (error : DecodeError)
    (here : answer_of strict w ≡ Err error) (refused : IsAtCut refusal.Refused error ended w) (v : Vector)
    (is : v ≡ once_ended (is_some ended) (vector_of w)) where
  pub refused_some : 0 < length w
  refused_some = by_end ended refl
    where
      by_end : (o : Option Ending) → ended ≡ o → 0 < length w
      by_end (Some e) at = refused.1 e at
      by_end None at = some_bytes strict laws w w (Err error) (λ f. refused.0 at (cc)) (sym here) refl

  pub vector_line : (m : ℕ) → v ≡ Whole m → (e : Entry) (text : List ℕ) → e ≡ entry.Line m →
      text ≡ vector_text (address_of base n) (take m w) → IsEntry (shown_at strict base) (known_at strict base) e n text ended w p r
  vector_line m whole e text line_is text_is =
      let there : vector_of w ≡ Whole m = whole_settled (is_some ended) (vector_of w) m (sym is ∙ whole) in
      entry_line strict base laws ended n w p r (Err error) here
      (λ o. ap (is_open_by (Err error)) there ∙ closed_whole error m (refused.0 o)) refused_some e text
      (line_is ∙ ap (λ (u : Vector). entry.Line (length_by (Err error) u)) (sym there))
      (text_is ∙ ap (λ (u : Vector). piece_text strict (address_of base n) (take (length_by (Err error) u) w) (Err error) u) (sym there))

  pub bad_line : v ≡ Absent → (e : Entry) (text : List ℕ) → e ≡ entry.Line 1 → text ≡ refused_text (address_of base n) (take 1 w) →
      IsEntry (shown_at strict base) (known_at strict base) e n text ended w p r
  bad_line absent e text line_is text_is = elim (absent_settled (is_some ended) (vector_of w) (sym is ∙ absent)) [
    | inl there ↦
        entry_line strict base laws ended n w p r (Err error) here
        (λ o. ap (is_open_by (Err error)) there ∙ closed_absent error (refused.0 o)) refused_some e text
        (line_is ∙ ap (λ (u : Vector). entry.Line (length_by (Err error) u)) (sym there))
        (text_is ∙ ap (λ (u : Vector). piece_text strict (address_of base n) (take (length_by (Err error) u) w) (Err error) u) (sym there))
    | inr both ↦
        entry_line strict base laws ended n w p r (Err error) here (λ o. absurd (some_ended ended both.0 o)) refused_some e text
        (line_is ∙ ap (λ (u : Vector). entry.Line (length_by (Err error) u)) (sym both.1))
        (text_is ∙ ap (λ (u : Vector). piece_text strict (address_of base n) (take (length_by (Err error) u) w) (Err error) u) (sym both.1))
  ]

  pub cut_undecided : v ≡ Cut → (text : List ℕ) → IsEntry (shown_at strict base) (known_at strict base) entry.Undecided n text ended w p r
  cut_undecided cut text =
      let at = cut_settled (is_some ended) (vector_of w) (sym is ∙ cut) in
      entry_undecided strict base laws ended n text w p r (Err error) (none_ended ended at.0) here (ap (is_open_by (Err error)) at.1 ∙ open_cut error)

  pub whole_within : (m : ℕ) → v ≡ Whole m → (m ≤ length w) × (m ≤ 15)
  whole_within m whole =
      let there : vector_of w ≡ Whole m = whole_settled (is_some ended) (vector_of w) m (sym is ∙ whole) in
      ((within w m there).1, at_most_fifteen w m there)

-- ---- pieces of bytes, and of more bytes

module _ (strict : Bool) (laws : DecoderLaws strict) where
  pub piece_fits : (xs : List ℕ) → 0 < length xs → (0 < piece_length (piece_at strict 0 xs)) × (piece_length (piece_at strict 0 xs) ≤ length xs)
  piece_fits xs some = piece_shows strict 0 laws (answer_of strict xs) xs refl some

  pub piece_stays : (place : ℕ) (xs ys : List ℕ) → is_open_by (answer_of strict xs) (vector_after (answer_of strict xs) xs) ≡ false →
      piece_at strict place (xs ++ ys) ≡ piece_at strict place xs
  piece_stays place xs ys closed =
      let a = answer_of strict xs in
      let same : answer_of strict (xs ++ ys) ≡ a = laws.stay xs ys (not_exhausted a (vector_after a xs) closed) in
      piece_is strict 0 a (vector_after a (xs ++ ys)) place (xs ++ ys) same refl
      ∙ ap (λ (v : Vector). record { place = place; answer = a; vector = v }) (not_cut a xs closed ys)
