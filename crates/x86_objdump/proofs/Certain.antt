-- What is known of what is shown before a read is all that is certain.
use Rattle.std.proofs.Common.{◌≡◌, ◌≢◌, ◌⊎◌, inl, inr, ℕ, zero, suc, ◌+◌, ◌-◌, ◌*◌, ◌/◌, ◌%◌, ◌<◌, ◌≤◌, Bool, true, false, not, ◌==◌, List, [], ◌∷◌, ◌++◌}
use Rattle.std.proofs.Common.{length, take, drop, Result, Ok, Err, refl, sym, ◌∙◌, arith, ap, append-nil, append_assoc, length-append, length-drop, drop-drop}
use Rattle.std.proofs.Common.{if◌then◌else◌}
use Rattle.std.proofs.lemmas.Bool.{cases_lt}
use Rattle.std.proofs.lemmas.Grind.{flat_map-append}
use Rattle.std.proofs.lemmas.List.{take-append-le, drop-append-le, append_cancel_left, append_cancel_right}
use Rattle.std.specs.Prelude.{codes, replicate, slice_index}
use Rattle.std.specs.List.{list_all}
use Rattle.hex.specs.Hex.{lower_digits, encode_with}
use Rattle.x86_decode.specs.declared.instructions.Instruction.{Instruction}
use Rattle.x86_fields.specs.declared.errors.DecodeError.{DecodeError}
use Rattle.x86_decode.specs.Answer.{answer_of}
use Rattle.x86_streams.specs.Lines.Hexadecimal.{hexadecimal, spaced_byte, spaced_bytes}
use Rattle.x86_streams.specs.declared.text.reader.Ending.{Ending}
use Rattle.x86_streams.specs.Outside.Chain.{Call, Read, Write, Flush, received}
use Rattle.x86_streams.specs.Outside.Stop.{Stop, End, Failed}
use Rattle.x86_streams.specs.Text.{text_of}
use Rattle.x86_cli.specs.declared.listings.status.Status.{Status}
use Rattle.x86_cli.specs.DecoderLaws.{DecoderLaws}
use Rattle.x86_cli.specs.Listings.Certain.{AwaitsMore, BeforeReads, KnowsAll, Varies}
use Rattle.x86_cli.specs.Listings.Line.{line}
use Rattle.x86_cli.specs.Listings.Listing.{with_lines, at_end}
use Rattle.x86_cli.specs.Listings.Performs.{ByRule}
use Rattle.x86_cli.proofs.TextLemmas.More.{text_more, text_ends, end_image}
use Rattle.x86_objdump.specs.declared.vectors.Vector.{Vector}
use Rattle.x86_objdump.specs.declared.vectors.Vector.TheVariants.{Absent, Cut, Whole}
use Rattle.x86_objdump.specs.Certain.{LengthVaries}
use Rattle.x86_objdump.specs.Lines.{beginning, tab}
use Rattle.x86_streams.specs.Lines.Address.{address_of}
use Rattle.x86_objdump.specs.Listing.{Piece, piece_length, is_open_by, piece_at, pieces_from, piece_text, piece_line, piece_lines}
use Rattle.x86_objdump.specs.Listing.{decided_of, shown_at, known_at, shown_max, showing}
use Rattle.x86_objdump.specs.Pieces.{length_together, AreClosed}
use Rattle.x86_objdump.proofs.PieceLemmas.{size, fit, some_bytes, divided, go_on, of_more}

-- ---- lines of different numbers of bytes

-- a digit is no blank
no_digit : (c : ℕ) (xs : List ℕ) → list_all (λ d. not (d == suc c)) xs ≡ true → (k : ℕ) → slice_index xs k ≢ suc c
no_digit c [] h k e = cc
no_digit c (x ∷ xs) h zero e = grind arith
no_digit c (x ∷ xs) h (suc k) e = no_digit c xs (grind arith) k e

blank_first : (k d : ℕ) (u v : List ℕ) → d ≢ 32 → d ≢ 9 → replicate k 32 ++ (tab ++ u) ≢ d ∷ v
blank_first zero d u v space tabulator e = tabulator (cc)
blank_first (suc k) d u v space tabulator e = space (cc)

fewer_is : (f s r t u n : List ℕ) → (((f ++ (s ++ r)) ++ t) ++ u) ++ n ≡ (f ++ s) ++ (r ++ (t ++ (u ++ n)))
fewer_is f s r t u n = simp append_assoc

more_is : (f s p m r t v n : List ℕ) → (((f ++ ((s ++ (p ++ m)) ++ r)) ++ t) ++ v) ++ n ≡ (f ++ s) ++ (p ++ ((((m ++ r) ++ t) ++ v) ++ n))
more_is f s p m r t v n = simp append_assoc

-- where one line has a blank the other has a digit
apart : (address y : ℕ) (s more u v : List ℕ) → line (beginning address s ++ u) ≢ line (beginning address (s ++ y ∷ more) ++ v)
unfolding beginning encode_with
apart address y s more u v h =
    let front = (hexadecimal address ++ codes ":") ++ tab in
    let longer = s ++ y ∷ more in
    let blanks = replicate (21 - 3 * length s) 32 in
    let others = replicate (21 - 3 * length longer) 32 in
    let bytes : spaced_bytes longer ≡ spaced_bytes s ++ (spaced_byte y ++ spaced_bytes more) = flat_map-append spaced_byte s (y ∷ more) in
    let left = fewer_is front (spaced_bytes s) blanks tab u (codes "\n") in
    let right = ap (λ b. (((front ++ (b ++ others)) ++ tab) ++ v) ++ codes "\n") bytes
    ∙ more_is front (spaced_bytes s) (spaced_byte y) (spaced_bytes more) others tab v (codes "\n") in
    blank_first (21 - 3 * length s) (slice_index lower_digits (y / 16)) _ _ (no_digit 31 lower_digits refl (y / 16)) (no_digit 8 lower_digits refl (y / 16))
    (append_cancel_left (front ++ spaced_bytes s) _ _ (sym left ∙ h ∙ right))

one_more : (m n : ℕ) (w : List ℕ) → m < n → n ≤ length w → (y : ℕ) × (more : List ℕ) × (take n w ≡ take m w ++ y ∷ more)
one_more m zero w less fits = absurd (omega (arith, less))
one_more m (suc n) [] less fits = absurd (omega (arith, fits))
one_more zero (suc n) (x ∷ w) less fits = (x, take n w, refl)
one_more (suc m) (suc n) (x ∷ w) less fits =
    let h = one_more m n w (omega (arith, less)) (omega (arith, fits)) in (h.0, h.1, ap (λ l. x ∷ l) h.2)

module _ (address : ℕ) (w u v : List ℕ) where
  abbrev of_first : ℕ → List ℕ → List ℕ
  of_first n rest = line (beginning address (take n w) ++ rest)

  fewer_differ : (m n : ℕ) (p q : List ℕ) → m < n → n ≤ length w → of_first m p ≢ of_first n q
  fewer_differ m n p q less fits h =
      let t = one_more m n w less fits in apart address t.0 (take m w) t.1 p q (h ∙ ap (λ b. line (beginning address b ++ q)) t.2)

  numbers_differ : (m n : ℕ) → m ≢ n → m ≤ length w → n ≤ length w → of_first m u ≢ of_first n v
  numbers_differ m n other here there h = elim (cases_lt m n) [
    | inl less ↦ fewer_differ m n u v less there h
    | inr most ↦ fewer_differ n m v u (grind (arith, most, other)) here (sym h)
  ]

module _ (strict : Bool) (base : ℕ) where
  begins_with : (address : ℕ) (bytes : List ℕ) (a : Result Instruction DecodeError) (v : Vector) →
      (rest : List ℕ) × (piece_text strict address bytes a v ≡ beginning address bytes ++ rest)
  begins_with address bytes (Ok i) v = (_, refl)
  begins_with address bytes (Err e) (Whole n) = (_, refl)
  begins_with address bytes (Err e) Cut = (_, refl)
  begins_with address bytes (Err e) Absent = (_, refl)

  abbrev line_in : List ℕ → Piece → List ℕ
  line_in w p = piece_line strict base p (take (piece_length p) w)

  -- Pieces of different lengths at one place have different lines.
  pieces_differ : (p q : Piece) (w : List ℕ) → p.place ≡ q.place → piece_length p ≢ piece_length q → piece_length p ≤ length w →
      piece_length q ≤ length w → line_in w p ≢ line_in w q
  pieces_differ p q w same other here there h =
      let a = address_of base p.place in
      let one = begins_with a (take (piece_length p) w) p.answer p.vector in
      let two = begins_with a (take (piece_length q) w) q.answer q.vector in
      let moved : line_in w q ≡ line (piece_text strict a (take (piece_length q) w) q.answer q.vector) =
      ap (λ n. line (piece_text strict (address_of base n) (take (piece_length q) w) q.answer q.vector)) (sym same) in
      numbers_differ a w one.0 two.0 (piece_length p) (piece_length q) other here there (sym (ap line one.1) ∙ h ∙ moved ∙ ap line two.1)

  -- ---- lines of pieces

  abbrev lines : List Piece → List ℕ → List (List ℕ)
  lines ps w = piece_lines strict base ps w

  split_lines : (before after : List Piece) (w : List ℕ) → lines (before ++ after) w ≡ lines before w ++ lines after (drop (length_together before) w)
  split_lines [] after w = refl
  split_lines (p ∷ ps) after w =
      let n : ℕ = piece_length p in
      ap (λ ls. line_in w p ∷ ls)
      (split_lines ps after (drop n w) ∙ ap (λ r. lines ps (drop n w) ++ lines after r) (drop-drop (length_together ps) n w))

  -- Up to an open piece all is decided.
  decided_open : (before after : List Piece) (p : Piece) (w : List ℕ) → AreClosed before → is_open_by p.answer p.vector ≡ true →
      decided_of strict base (before ++ p ∷ after) w ≡ lines before w
  decided_open [] after p w closed is =
      ap (λ (b : Bool). if b then [] else line_in w p ∷ decided_of strict base after (drop (piece_length p) w)) is
  decided_open (q ∷ qs) after p w closed is =
      ap (λ (b : Bool). if b then [] else line_in w q ∷ decided_of strict base (qs ++ p ∷ after) (drop (piece_length q) w)) closed.0
      ∙ ap (λ ls. line_in w q ∷ ls) (decided_open qs after p (drop (piece_length q) w) closed.1 is)

  decided_all : (ps : List Piece) (w : List ℕ) → AreClosed ps → decided_of strict base ps w ≡ lines ps w
  decided_all [] w closed = refl
  decided_all (q ∷ qs) w closed =
      ap (λ (b : Bool). if b then [] else line_in w q ∷ decided_of strict base qs (drop (piece_length q) w)) closed.0
      ∙ ap (λ ls. line_in w q ∷ ls) (decided_all qs (drop (piece_length q) w) closed.1)

-- the first open piece of pieces
record FirstOpen (ps : List Piece) : Type 0 where
  before : List Piece
  after : List Piece
  piece : Piece
  is : ps ≡ before ++ piece ∷ after
  closed : AreClosed before
  is_open : is_open_by piece.answer piece.vector ≡ true

first_open : (ps : List Piece) → AreClosed ps ⊎ FirstOpen ps
first_open [] = inl tt
first_open (p ∷ ps) = by_open (is_open_by p.answer p.vector) refl (first_open ps)
  where
    by_open : (b : Bool) → is_open_by p.answer p.vector ≡ b → AreClosed ps ⊎ FirstOpen ps → AreClosed (p ∷ ps) ⊎ FirstOpen (p ∷ ps)
    by_open true is others = inr (record { before = []; after = ps; piece = p; is = refl; closed = tt; is_open = is })
    by_open false is others = elim others [
      | inl all ↦ inl (is, all)
      | inr h ↦
          inr (record {
            before = p ∷ h.before;
            after = h.after;
            piece = h.piece;
            is = ap (λ l. p ∷ l) h.is;
            closed = (is, h.closed);
            is_open = h.is_open;
          })
    ]

module _ (laws : DecoderLaws false) (base : ℕ) where
  -- the bytes of pieces at the beginning stay
  same_lines : (place : ℕ) (w ys : List ℕ) (before after : List Piece) → pieces_from false place w ≡ before ++ after →
      lines false base before (w ++ ys) ≡ lines false base before w
  same_lines place w ys [] after e = refl
  same_lines place w ys (p ∷ ps) after e =
      let d = divided false laws place w p (ps ++ after) e in
      let n : ℕ = size false w in
      let long : n ≡ piece_length p = ap piece_length d.0 in
      let fits : n ≤ length w = (fit false laws w (some_bytes false laws place w p (ps ++ after) e)).1 in
      let at = λ (m : ℕ) (l : List ℕ). piece_line false base p (take m l) ∷ lines false base ps (drop m l) in
      let rest = same_lines (place + n) (drop n w) ys ps after d.1 in
      ap (λ m. at m (w ++ ys)) (sym long)
      ∙ (λ i. piece_line false base p (take-append-le n w ys fits i) ∷ lines false base ps (drop-append-le n w ys fits i))
      ∙ ap (λ ls. piece_line false base p (take n w) ∷ ls) rest
      ∙ ap (λ m. at m w) long

  abbrev sure : List ℕ → List (List ℕ)
  sure w = decided_of false base (pieces_from false 0 w) w

  abbrev all : List ℕ → List (List ℕ)
  all w = lines false base (pieces_from false 0 w) w

  -- Closed pieces at the beginning have the first lines whatever follows.
  begin_all : (w ys : List ℕ) (before after : List Piece) → pieces_from false 0 w ≡ before ++ after → AreClosed before →
      sure w ≡ lines false base before w → (more : List (List ℕ)) × (all (w ++ ys) ≡ sure w ++ more)
  begin_all w ys before after e closed is =
      let n : ℕ = length_together before in
      let rest = pieces_from false (0 + n) (drop n (w ++ ys)) in (
        lines false base rest (drop n (w ++ ys)),
        ap (λ ps. lines false base ps (w ++ ys)) (of_more false laws 0 w ys before after e closed)
            ∙ split_lines false base before rest (w ++ ys)
            ∙ ap (λ ls. ls ++ lines false base rest (drop n (w ++ ys))) (same_lines 0 w ys before after e ∙ sym is),
      )

  sure_all : (w : List ℕ) → AreClosed (pieces_from false 0 w) → sure w ≡ all w
  sure_all w closed = decided_all false base (pieces_from false 0 w) w closed

  sure_open : (w : List ℕ) (f : FirstOpen (pieces_from false 0 w)) → sure w ≡ lines false base f.before w
  sure_open w f = ap (λ ps. decided_of false base ps w) f.is ∙ decided_open false base f.before f.after f.piece w f.closed f.is_open

  sure_begins : (w ys : List ℕ) → (more : List (List ℕ)) × (all (w ++ ys) ≡ sure w ++ more)
  sure_begins w ys = elim (first_open (pieces_from false 0 w)) [
    | inl closed ↦ begin_all w ys (pieces_from false 0 w) [] (sym (append-nil (pieces_from false 0 w))) closed (sure_all w closed)
    | inr f ↦ begin_all w ys f.before (f.piece ∷ f.after) f.is f.closed (sure_open w f)
  ]

  module _ (w ys : List ℕ) (f : FirstOpen (pieces_from false 0 w)) (q : Piece) (rest : List Piece)
      (is : pieces_from false 0 (w ++ ys) ≡ f.before ++ q ∷ rest) (other : piece_length q ≢ piece_length f.piece) where
    abbrev n : ℕ
    n = length_together f.before

    here : pieces_from false (0 + n) (drop n w) ≡ f.piece ∷ f.after
    here = sym (go_on false laws 0 w f.before (f.piece ∷ f.after) f.is)

    there : pieces_from false (0 + n) (drop n (w ++ ys)) ≡ q ∷ rest
    there = sym (go_on false laws 0 (w ++ ys) f.before (q ∷ rest) is)

    one : piece_at false (0 + n) (drop n w) ≡ f.piece
    one = (divided false laws (0 + n) (drop n w) f.piece f.after here).0

    two : piece_at false (0 + n) (drop n (w ++ ys)) ≡ q
    two = (divided false laws (0 + n) (drop n (w ++ ys)) q rest there).0

    some : 0 < length (drop n w)
    some = some_bytes false laws (0 + n) (drop n w) f.piece f.after here

    one_fits : piece_length f.piece ≤ length (drop n w)
    one_fits = let long : size false (drop n w) ≡ piece_length f.piece = ap piece_length one in omega (arith, long, (fit false laws (drop n w) some).1)

    two_fits : piece_length q ≤ length (drop n (w ++ ys))
    two_fits =
        let long : size false (drop n (w ++ ys)) ≡ piece_length q = ap piece_length two in
        omega (arith, long, (fit false laws (drop n (w ++ ys)) (some_bytes false laws (0 + n) (drop n (w ++ ys)) q rest there)).1)

    goes_on : drop n (w ++ ys) ≡ drop n w ++ ys
    goes_on = drop-append-le n w ys (omega (arith, some, length-drop n w))

    -- The line of the open piece is another once its length is another.
    differ : line_in false base (drop n w) f.piece ≢ line_in false base (drop n (w ++ ys)) q
    differ h =
        let whole = drop n w ++ ys in
        let same : f.piece.place ≡ q.place = ap (λ p. p.place) (sym one) ∙ ap (λ p. p.place) two in
        let fits : piece_length f.piece ≤ length whole = omega (arith, one_fits, length-append (drop n w) ys) in
        let bytes : line_in false base (drop n w) f.piece ≡ line_in false base whole f.piece =
        ap (λ b. piece_line false base f.piece b) (sym (take-append-le (piece_length f.piece) (drop n w) ys one_fits)) in
        pieces_differ false base f.piece q whole same (λ e. other (sym e)) fits (omega (arith, two_fits, ap length goes_on))
        (sym bytes ∙ h ∙ ap (λ l. line_in false base l q) goes_on)

    all_here : all w ≡ sure w ++ line_in false base (drop n w) f.piece ∷ lines false base f.after (drop (piece_length f.piece) (drop n w))
    all_here =
        ap (λ ps. lines false base ps w) f.is ∙ split_lines false base f.before (f.piece ∷ f.after) w
        ∙ ap (λ ls. ls ++ lines false base (f.piece ∷ f.after) (drop n w)) (sym (sure_open w f))

    all_there : all (w ++ ys) ≡ sure w ++ line_in false base (drop n (w ++ ys)) q ∷ lines false base rest (drop (piece_length q) (drop n (w ++ ys)))
    all_there =
        ap (λ ps. lines false base ps (w ++ ys)) is ∙ split_lines false base f.before (q ∷ rest) (w ++ ys)
        ∙ ap (λ ls. ls ++ lines false base (q ∷ rest) (drop n (w ++ ys))) (same_lines 0 w ys f.before (f.piece ∷ f.after) f.is ∙ sym (sure_open w f))

-- ---- what two listings have in common

abbrev Lines : Type 0
Lines = List (List ℕ)

-- Of two lists that begin with the same and then differ, what both begin with is a prefix of that.
common : (same others : Lines) (f : List ℕ) (rest tail m n : Lines) → same ++ f ∷ rest ≡ others ++ m → same ++ tail ≡ others ++ n →
    ((t : Lines) → tail ≡ f ∷ t → ⊥) → (more : Lines) × (same ≡ others ++ more)
common same [] f rest tail m n e g differ = (same, refl)
common [] (o ∷ os) f rest tail m n e g differ = let is : f ≡ o = cc in absurd (differ (os ++ n) (rw is g))
common (l ∷ same) (o ∷ os) f rest tail m n e g differ =
    let is : l ≡ o = cc in
    let e' : same ++ f ∷ rest ≡ os ++ m = cc in
    let g' : same ++ tail ≡ os ++ n = cc in
    let h = common same os f rest tail m n e' g' differ in (h.0, rw is (ap (λ ls. o ∷ ls) h.1))

-- the line of a read fault
abbrev fault : List ℕ
fault = line (codes "read fault")

no_fault : (e : Ending) → e ≢ Ending.Fault → (t : Lines) → (at_end e).lines ≡ fault ∷ t → ⊥
no_fault Ending.Clean ne t h = cc
no_fault (Ending.Bad n) ne t h = cc
no_fault Ending.Large ne t h = cc
no_fault Ending.Fault ne t h = ne refl

at_fault : (e : Ending) → (at_end e).status ≡ Status.ReadFault → e ≡ Ending.Fault
at_fault e h = grind arith

-- ---- texts

module _ (laws : DecoderLaws false) (base : ℕ) (bytes : List ℕ) (faults : (text_of shown_max bytes Failed).ending ≡ Ending.Fault) where
  abbrev image : List ℕ
  image = (text_of shown_max bytes Failed).image

  abbrev shown : List ℕ → Stop → Lines
  shown bs stop = (shown_at false base 0 (text_of shown_max bs stop)).lines

  -- Two listings of texts that begin with these bytes begin with the decided lines, and differ after them.
  record Apart : Type 0 where
    first : List ℕ
    rest : Lines
    tail : Lines
    xs : List ℕ
    stop : Stop
    failed : shown bytes Failed ≡ sure laws base image ++ first ∷ rest
    other : shown (bytes ++ xs) stop ≡ sure laws base image ++ tail
    differ : (t : Lines) → tail ≡ first ∷ t → ⊥

  at_closed : AreClosed (pieces_from false 0 image) → Apart
  at_closed closed =
      let last = (at_end (text_of shown_max bytes End).ending).lines in
      let is = sym (sure_all laws base image closed) in record {
        first = fault;
        rest = [];
        tail = last;
        xs = [];
        stop = End;
        failed = ap (λ e. all laws base image ++ (at_end e).lines) faults ∙ ap (λ ls. ls ++ fault ∷ []) is;
        other = ap (λ bs. shown bs End) (append-nil bytes) ∙ ap (λ w. all laws base w ++ last) (end_image shown_max bytes faults) ∙ ap (λ ls. ls ++ last) is;
        differ = no_fault (text_of shown_max bytes End).ending (text_ends shown_max bytes faults);
      }

  at_open : (f : FirstOpen (pieces_from false 0 image)) (xs : List ℕ) (stop : Stop) (q : Piece) (rest : List Piece) →
      pieces_from false 0 (text_of shown_max (bytes ++ xs) stop).image ≡ f.before ++ q ∷ rest → piece_length q ≢ piece_length f.piece → Apart
  at_open f xs stop q rest is other =
      let more = text_more shown_max bytes faults xs stop in
      let last = (at_end (text_of shown_max (bytes ++ xs) stop).ending).lines in
      let there : pieces_from false 0 (image ++ more.0) ≡ f.before ++ q ∷ rest = ap (pieces_from false 0) (sym more.1) ∙ is in
      let d = sure laws base image in
      let n : ℕ = length_together f.before in
      let l = line_in false base (drop n image) f.piece in
      let ls = lines false base f.after (drop (piece_length f.piece) (drop n image)) in
      let k = line_in false base (drop n (image ++ more.0)) q in
      let ks = lines false base rest (drop (piece_length q) (drop n (image ++ more.0))) in record {
        first = l;
        rest = ls ++ fault ∷ [];
        tail = (k ∷ ks) ++ last;
        xs = xs;
        stop = stop;
        failed = ap (λ e. all laws base image ++ (at_end e).lines) faults
            ∙ ap (λ a. a ++ fault ∷ []) (all_here laws base image more.0 f q rest there other) ∙ append_assoc d (l ∷ ls) (fault ∷ []);
        other = ap (λ w. all laws base w ++ last) more.1 ∙ ap (λ a. a ++ last) (all_there laws base image more.0 f q rest there other)
            ∙ append_assoc d (k ∷ ks) last;
        differ = λ t e. differ laws base image more.0 f q rest there other (cc);
      }

  lines_apart : LengthVaries bytes → Apart
  lines_apart varies = elim (first_open (pieces_from false 0 image)) [
    | inl closed ↦ at_closed closed
    | inr f ↦ let v = varies f.before f.after f.piece f.is f.closed f.is_open in at_open f v.0 v.1 v.2 v.3 v.4 v.5
  ]

module _ (laws : DecoderLaws false) (base : ℕ) where
  pub show_knows : (bytes : List ℕ) → LengthVaries bytes → KnowsAll (showing base) bytes
  show_knows bytes varies lines is =
      let t = text_of shown_max bytes Failed in
      let faults : t.ending ≡ Ending.Fault = at_fault t.ending (ap (λ l. l.status) is) in
      let d = sure laws base t.image in
      let same : lines ≡ d = append_cancel_right lines d (fault ∷ []) (sym (rw faults at (ap (λ l. l.lines) is))) in (
        (λ xs stop.
            let more = text_more shown_max bytes faults xs stop in
            let last = (at_end (text_of shown_max (bytes ++ xs) stop).ending).lines in
            let b = sure_begins laws base t.image more.0 in
            (b.0 ++ last, ap (λ ls. ls ++ last) (ap (all laws base) more.1 ∙ b.1) ∙ append_assoc d b.0 last ∙ ap (λ ls. ls ++ (b.0 ++ last)) (sym same))),
        λ others certain.
            let a = lines_apart laws base bytes faults varies in
            let f = rw append-nil at (certain [] Failed) in
            let g = certain a.xs a.stop in
            let h = common d others a.first a.rest a.tail f.0 g.0 (sym a.failed ∙ f.1) (sym a.other ∙ g.1) a.differ in
            (h.0, same ∙ h.1),
      )

module _ (base : ℕ) where
  -- A listing that a read fault may end is another at the end.
  undecided : (bytes : List ℕ) (lines : Lines) → known_at false base 0 (text_of shown_max bytes Failed) ≡ with_lines lines (at_end Ending.Fault) →
      Varies (showing base) bytes
  undecided bytes lines is l all =
      let faults : (text_of shown_max bytes Failed).ending ≡ Ending.Fault = at_fault (text_of shown_max bytes Failed).ending (ap (λ l. l.status) is) in
      let same : shown_at false base 0 (text_of shown_max bytes Failed) ≡ shown_at false base 0 (text_of shown_max bytes End) =
      rw append-nil at (all [] Failed ∙ sym (all [] End)) in
      text_ends shown_max bytes faults (at_fault (text_of shown_max bytes End).ending (sym (ap (λ l. l.status) same) ∙ ap (λ l. l.status) is))

  pub show_awaits : (cs : List Call) → ByRule (known_at false base 0) (text_of shown_max) cs → BeforeReads (AwaitsMore (showing base)) cs
  show_awaits [] rule = tt
  show_awaits (Read buffer answer ∷ cs) rule = (show_awaits cs rule.0, (rule.3, undecided (received cs) rule.4.0 rule.4.1))
  show_awaits (Write bytes answer ∷ cs) rule = show_awaits cs rule.0
  show_awaits (Flush answer ∷ cs) rule = show_awaits cs rule.0
