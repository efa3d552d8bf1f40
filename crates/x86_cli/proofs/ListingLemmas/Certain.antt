-- What is known of a listing before a read is all that is certain.
use Rattle.std.proofs.Common.{◌≡◌, ◌≢◌, ◌⊎◌, inl, inr, ℕ, zero, suc, ◌+◌, ◌-◌, ◌/◌, ◌%◌, ◌≤◌, Bool, List, [], ◌∷◌, ◌++◌, length, take, map}
use Rattle.std.proofs.Common.{Result, Ok, Err, refl, get_or, sym, ◌∙◌, arith, ap, append-nil, append_assoc, length-append}
use Rattle.std.proofs.lemmas.List.{take-append-le, append_cancel_left, append_cancel_right}
use Rattle.std.proofs.lemmas.Bool.{cases_lt}
use Rattle.std.proofs.lemmas.Fmt.{decimal_digit, decimal_step}
use Rattle.std.specs.Prelude.{codes}
use Rattle.x86_cli.proofs.ListingLemmas.Vocabulary.{Instruction, DecodeError, Ending, Status, End, Failed, Text, answer_of, decimal, line}
use Rattle.x86_cli.proofs.ListingLemmas.Vocabulary.{DecoderLaws, with_lines, at_end, text_of, Call, Read, Write, Flush, ByRule, Command}
use Rattle.x86_cli.proofs.ListingLemmas.Vocabulary.{Task, false, ⊤, known_for, listing_for, max_of, received, task_of}
use Rattle.x86_cli.specs.declared.commands.request.Request.{Request}
use Rattle.x86_fields.specs.declared.errors.DecodeError.TheVariants.{ExhaustedInput}
use Rattle.x86_layout.specs.declared.sweeps.cuts.Cut.{Cut}
use Rattle.x86_layout.specs.Sweeps.Cuts.{cut_length, cuts_skipping, cuts_from}
use Rattle.x86_fields.specs.Errors.{description_of}
use Rattle.x86_text.specs.Lines.{instruction_text, line_of, refusal_of}
use Rattle.x86_cli.specs.Commands.Request.{up_to_refusal}
use Rattle.x86_cli.specs.Commands.Command.{goes_past_refusals}
use Rattle.x86_cli.specs.Listings.Certain.{AwaitsMore, BeforeReads, KnowsAll, SentAllCertain, Varies}
use Rattle.x86_cli.specs.Listings.Grammar.{at_error}
use Rattle.x86_cli.specs.Listings.Listing.{decoded_of, listing_from}
use Rattle.x86_cli.specs.Listings.Sweep.{cut_text, decided, known_sweep_at, sweep_at}
use Rattle.x86_cli.proofs.CommandLemmas.Causes.{command_read, listing_end}
use Rattle.x86_cli.proofs.ListingLemmas.Sweep.{before_sure}
use Rattle.x86_cli.proofs.TextLemmas.More.{text_more, text_gains, text_ends, end_image, zeros}

abbrev Lines : Type 0
Lines = List (List ℕ)

-- the line of a read fault
abbrev fault : List ℕ
fault = line (codes "read fault")

-- Of two lists that begin with the same and then differ, what both begin with is a prefix of that.
common : (same others : Lines) (f : List ℕ) (rest tail m n : Lines) → same ++ f ∷ rest ≡ others ++ m → same ++ tail ≡ others ++ n →
    ((t : Lines) → tail ≡ f ∷ t → ⊥) → (more : Lines) × (same ≡ others ++ more)
common same [] f rest tail m n e g differ = (same, refl)
common [] (o ∷ os) f rest tail m n e g differ = let is : f ≡ o = cc in absurd (differ (os ++ n) (rw is g))
common (l ∷ same) (o ∷ os) f rest tail m n e g differ =
    let is : l ≡ o = cc in
    let e' : same ++ f ∷ rest ≡ os ++ m = cc in
    let g' : same ++ tail ≡ os ++ n = cc in
    let h = common same os f rest tail m n e' g' differ in (h.0, rw is (ap (λ ls. o ∷ ls) h.1))

-- An end that is no read fault doesn't begin with its line, nor does a refusal.
no_fault : (e : Ending) → e ≢ Ending.Fault → (t : Lines) → (at_end e).lines ≡ fault ∷ t → ⊥
no_fault Ending.Clean ne t h = cc
no_fault (Ending.Bad n) ne t h = cc
no_fault Ending.Large ne t h = cc
no_fault Ending.Fault ne t h = ne refl

at_fault : (e : Ending) → (at_end e).status ≡ Status.ReadFault → e ≡ Ending.Fault
at_fault e h = grind arith

no_refusal : (n : ℕ) (t : Lines) → line (refusal_of n ExhaustedInput) ∷ [] ≡ fault ∷ t → ⊥
unfolding refusal_of
no_refusal n t h =
    let same : line (refusal_of n ExhaustedInput) ≡ fault = cc in
    let long = ap length same in grind (arith, length-append {A = ℕ})

module _ (strict : Bool) (laws : DecoderLaws strict) (text : ℕ → Instruction → List ℕ → List ℕ) where
  -- Where a read fails, lines are listed that begin the listing whatever comes in its place, and then that it failed.
  record Known (n k : ℕ) (w : List ℕ) : Type 0 where
    lines : Lines
    failed : listing_from strict text n k w Ending.Fault ≡ with_lines lines (at_end Ending.Fault)
    begins : (ys : List ℕ) (e : Ending) → (more : Lines) × ((listing_from strict text n k (w ++ ys) e).lines ≡ lines ++ more)
    ends : (e : Ending) → e ≢ Ending.Fault → (tail : Lines) × ((listing_from strict text n k w e).lines ≡ lines ++ tail) × ((t : Lines) → tail ≡ fault ∷ t → ⊥)

  whole_here : (n x : ℕ) (zs : List ℕ) (e : Ending) (i : Instruction) → answer_of strict (x ∷ zs) ≡ Ok i →
      listing_from strict text n 0 (x ∷ zs) e ≡ with_lines (line (text n i (take i.length (x ∷ zs))) ∷ [])
      (listing_from strict text (n + 1) (i.length - 1) zs e)
  unfolding listing_from decoded_of
  whole_here n x zs e i h = rw h refl

  error_here : (n x : ℕ) (zs : List ℕ) (e : Ending) (error : DecodeError) → answer_of strict (x ∷ zs) ≡ Err error →
      listing_from strict text n 0 (x ∷ zs) e ≡ at_error n error e
  unfolding listing_from decoded_of
  error_here n x zs e error h = grind arith

  no_fault_here : (n : ℕ) (e : Ending) → e ≢ Ending.Fault → (t : Lines) → (at_error n ExhaustedInput e).lines ≡ fault ∷ t → ⊥
  no_fault_here n Ending.Clean ne t h = no_refusal n t h
  no_fault_here n e ne t h = no_fault e ne t h

  known_first : (n x : ℕ) (xs : List ℕ) (a : Result Instruction DecodeError) → answer_of strict (x ∷ xs) ≡ a →
      ((k : ℕ) → (listing_from strict text (n + 1) k xs Ending.Fault).status ≡ Status.ReadFault → Known (n + 1) k xs) →
      (listing_from strict text n 0 (x ∷ xs) Ending.Fault).status ≡ Status.ReadFault → Known n 0 (x ∷ xs)
  known_first n x xs (Ok i) h after st =
      let first = line (text n i (take i.length (x ∷ xs))) in
      let k = after (i.length - 1) (rw (whole_here n x xs Ending.Fault i h) at st) in
      record {
        lines = first ∷ k.lines;
        failed = whole_here n x xs Ending.Fault i h ∙ ap (with_lines (first ∷ [])) k.failed;
        begins = λ ys e.
            let more = k.begins ys e in
            let stays : answer_of strict (x ∷ (xs ++ ys)) ≡ Ok i = laws.stay (x ∷ xs) ys (λ f. let g : Ok i ≡ Err ExhaustedInput = sym h ∙ f in cc) ∙ h in
            let bytes : take i.length (x ∷ (xs ++ ys)) ≡ take i.length (x ∷ xs) = take-append-le i.length (x ∷ xs) ys (laws.lengths (x ∷ xs) i h).1 in
            (more.0, ap (λ l. l.lines) (whole_here n x (xs ++ ys) e i stays) ∙ rw (bytes, more.1) refl);
        ends = λ e ne. let tail = k.ends e ne in (tail.0, ap (λ l. l.lines) (whole_here n x xs e i h) ∙ ap (λ ls. first ∷ ls) tail.1, tail.2);
      }
  known_first n x xs (Err ExhaustedInput) h after st =
      record {
        lines = [];
        failed = error_here n x xs Ending.Fault ExhaustedInput h;
        begins = λ ys e. (_, refl);
        ends = λ e ne. ((at_error n ExhaustedInput e).lines, ap (λ l. l.lines) (error_here n x xs e ExhaustedInput h), no_fault_here n e ne);
      }
  known_first n x xs (Err error) h after st = let f = rw (error_here n x xs Ending.Fault error h) at st in cc

  known : (n k : ℕ) (w : List ℕ) → (listing_from strict text n k w Ending.Fault).status ≡ Status.ReadFault → Known n k w
  unfolding listing_from
  known n k [] st = record { lines = []; failed = refl; begins = λ ys e. (_, refl); ends = λ e ne. ((at_end e).lines, refl, no_fault e ne) }
  known n zero (x ∷ xs) st = known_first n x xs (answer_of strict (x ∷ xs)) refl (λ k. known (n + 1) k xs) st
  known n (suc k) (x ∷ xs) st =
      let h = known (n + 1) k xs st in
      record { lines = h.lines; failed = h.failed; begins = h.begins; ends = h.ends }

  pub up_to_refusal_knows : (bytes : List ℕ) → KnowsAll (up_to_refusal strict text) bytes
  up_to_refusal_knows bytes lines is =
      let max : ℕ = 67108864 in
      let t = text_of max bytes Failed in
      let status : (listing_from strict text 0 0 t.image t.ending).status ≡ Status.ReadFault = ap (λ l. l.status) is in
      let faults : t.ending ≡ Ending.Fault = at_fault t.ending
      (sym (listing_end strict text t.ending 0 0 t.image (λ f. let g : Status.ReadFault ≡ Status.Refused = sym status ∙ f in cc)) ∙ status) in
      let is_known : listing_from strict text 0 0 t.image Ending.Fault ≡ with_lines lines (at_end Ending.Fault) = rw faults at is in
      let k = known 0 0 t.image (ap (λ l. l.status) is_known) in
      let same : lines ≡ k.lines = append_cancel_right lines k.lines (fault ∷ []) (ap (λ l. l.lines) (sym is_known ∙ k.failed)) in (
        (λ xs stop. let more = text_more max bytes faults xs stop in let b = k.begins more.0 (text_of max (bytes ++ xs) stop).ending in
            (b.0, (rw (more.1) b.1) ∙ ap (λ ls. ls ++ b.0) (sym same))),
        λ others certain.
            let f = rw append-nil at (certain [] Failed) in
            let g = rw append-nil at (certain [] End) in
            let ends = k.ends (text_of max bytes End).ending (text_ends max bytes faults) in
            let f_is : k.lines ++ fault ∷ [] ≡ others ++ f.0 = sym (ap (λ l. l.lines) k.failed) ∙ (rw faults at f.1) in
            let g_is : k.lines ++ ends.0 ≡ others ++ g.0 = sym ends.1 ∙ (rw (end_image max bytes faults) at g.1) in
            let h = common k.lines others fault [] ends.0 f.0 g.0 f_is g_is ends.2 in (h.0, same ∙ h.1),
      )

-- the sweep

first_digit : (n : ℕ) → n ≤ 15 → (d : ℕ) × (ds : List ℕ) × (decimal n ≡ d ∷ ds) × (d ≤ 57)
first_digit n few = elim (cases_lt n 10) [
  | inl less ↦ (48 + n, [], decimal_digit n less, omega (arith, less))
  | inr more ↦ (
    48 + n / 10,
    (48 + n % 10) ∷ [],
    decimal_step n more (omega (arith, few))
        ∙ ap (λ ds. ds ++ (48 + n % 10) ∷ []) (decimal_digit (n / 10) (omega (arith, few))),
    omega (arith, few),
  )
]

other_first : (x y : ℕ) (xs ys : List ℕ) → (x ≡ y → ⊥) → x ∷ xs ≡ y ∷ ys → ⊥
other_first x y xs ys ne h = ne (ap (λ zs. get_or zs 0 0) h)

module _ (n : ℕ) where
  -- The lines of two answers differ, of which one is that the bytes ended.
  description_differs : (e : DecodeError) → e ≢ ExhaustedInput → description_of e ≡ description_of ExhaustedInput → ⊥
  description_differs ExhaustedInput ne h = ne refl
  description_differs e ne h = other_first _ 101 _ _ (λ e. omega (arith, e)) h

  error_differs : (e : DecodeError) → e ≢ ExhaustedInput → line (refusal_of n e) ≡ line (refusal_of n ExhaustedInput) → ⊥
  unfolding refusal_of
  error_differs e ne h =
      let same = append_cancel_right (refusal_of n e) (refusal_of n ExhaustedInput) (codes "\n") h in
      description_differs e ne (append_cancel_left (decimal n ++ codes " error: ") (description_of e) (description_of ExhaustedInput) same)

  line_differs : (i : Instruction) → i.length ≤ 15 → line (line_of n i) ≡ line (refusal_of n ExhaustedInput) → ⊥
  unfolding line_of refusal_of
  line_differs i few h =
      let digit = first_digit i.length few in
      let text = codes " " ++ instruction_text i in
      let same : decimal n ++ (codes " " ++ (decimal i.length ++ text)) ≡ decimal n ++ (codes " error: " ++ description_of ExhaustedInput) =
      simp (append_assoc) at (append_cancel_right (line_of n i) (refusal_of n ExhaustedInput) (codes "\n") h) in
      let after = append_cancel_left (decimal n ++ codes " ") (decimal i.length ++ text) (codes "error: " ++ description_of ExhaustedInput)
      (simp (append_assoc) same) in
      other_first digit.0 101 _ _ (λ e. omega (arith, e, digit.3)) (rw digit.2 at after)

  cut_differs : (a : Result Instruction DecodeError) → a ≢ Err ExhaustedInput → ((i : Instruction) → a ≡ Ok i → i.length ≤ 15) →
      line (cut_text n a) ≡ line (refusal_of n ExhaustedInput) → ⊥
  cut_differs (Ok i) ne long h = line_differs i (long i refl) h
  cut_differs (Err e) ne long h = error_differs e (λ f. ne (ap (λ e. Err e) f)) h

module _ (strict : Bool) (laws : DecoderLaws strict) (short : (xs : List ℕ) (i : Instruction) → answer_of strict xs ≡ Ok i → i.length ≤ 15) where
  abbrev lines_of : List Cut → Lines
  lines_of cs = map (λ c. line (cut_text c.place c.answer)) cs

  -- Of bytes: the lines of decided cuts begin those of the cuts whatever comes after. They are all of these, or the next
  -- line is another where fifteen bytes more come.
  record KnownCuts (n k : ℕ) (w : List ℕ) : Type 0 where
    begins : (ys : List ℕ) → (more : Lines) × (lines_of (cuts_skipping strict k n (w ++ ys)) ≡ decided (cuts_skipping strict k n w) ++ more)
    next : (lines_of (cuts_skipping strict k n w) ≡ decided (cuts_skipping strict k n w))
        ⊎ ((f : List ℕ) × (rest : Lines) × (lines_of (cuts_skipping strict k n w) ≡ decided (cuts_skipping strict k n w) ++ f ∷ rest)
        × ((ys : List ℕ) → 15 ≤ length ys → (g : List ℕ) × (tail : Lines)
        × (lines_of (cuts_skipping strict k n (w ++ ys)) ≡ decided (cuts_skipping strict k n w) ++ g ∷ tail) × (g ≡ f → ⊥)))

  -- the first cut, by its answer
  abbrev First : (n x : ℕ) (xs : List ℕ) → Result Instruction DecodeError → Type 0
  First n x xs a = cuts_skipping strict 0 n (x ∷ xs) ≡ record { place = n; length = cut_length a; answer = a } ∷
      cuts_skipping strict (cut_length a - 1) (n + 1) xs

  first_cut : (n x : ℕ) (xs : List ℕ) (a : Result Instruction DecodeError) → answer_of strict (x ∷ xs) ≡ a → First n x xs a
  unfolding cuts_skipping
  first_cut n x xs a h = rw h refl

  one_more : (n x : ℕ) (xs : List ℕ) (a : Result Instruction DecodeError) → a ≢ Err ExhaustedInput →
      First n x xs a → ((ys : List ℕ) → First n x (xs ++ ys) a) → KnownCuts (n + 1) (cut_length a - 1) xs → KnownCuts n 0 (x ∷ xs)
  one_more n x xs a sure first stays h =
      let l = line (cut_text n a) in
      let d : decided (cuts_skipping strict 0 n (x ∷ xs)) ≡ l ∷ decided (cuts_skipping strict (cut_length a - 1) (n + 1) xs) =
      ap decided first ∙ before_sure strict a _ sure in
      let after : (ys more others : Lines) → ys ≡ decided (cuts_skipping strict (cut_length a - 1) (n + 1) xs) ++ more → others ≡ l ∷ ys →
      others ≡ decided (cuts_skipping strict 0 n (x ∷ xs)) ++ more =
      λ ys more others e f. f ∙ ap (λ ls. l ∷ ls) e ∙ ap (λ ls. ls ++ more) (sym d) in
      record {
        begins = λ ys. let b = h.begins ys in (b.0, after _ b.0 _ b.1 (ap lines_of (stays ys)));
        next = elim h.next [
          | inl e ↦ inl (ap lines_of first ∙ ap (λ ls. l ∷ ls) e ∙ sym d)
          | inr q ↦ inr (
            q.0,
            q.1,
            after _ (q.0 ∷ q.1) _ q.2 (ap lines_of first),
            λ ys long. let g = q.3 ys long in
                (g.0, g.1, after _ (g.0 ∷ g.1) _ g.2 (ap lines_of (stays ys)), g.3),
          )
        ];
      }

  known_cut : (n x : ℕ) (xs : List ℕ) (a : Result Instruction DecodeError) → answer_of strict (x ∷ xs) ≡ a →
      ((k : ℕ) → KnownCuts (n + 1) k xs) → KnownCuts n 0 (x ∷ xs)
  known_cut n x xs (Err ExhaustedInput) h after =
      let first = first_cut n x xs (Err ExhaustedInput) h in
      record {
        begins = λ ys. (lines_of (cuts_skipping strict 0 n (x ∷ (xs ++ ys))), rw first refl);
        next = inr (
          line (refusal_of n ExhaustedInput),
          lines_of (cuts_skipping strict 0 (n + 1) xs),
          rw first refl,
          λ ys long.
              let a = answer_of strict (x ∷ (xs ++ ys)) in (
                line (cut_text n a),
                lines_of (cuts_skipping strict (cut_length a - 1) (n + 1) (xs ++ ys)),
                rw (first, first_cut n x (xs ++ ys) a refl) refl,
                cut_differs n a (laws.enough (x ∷ (xs ++ ys)) (omega (arith, long, length-append xs ys))) (λ i e. short (x ∷ (xs ++ ys)) i e),
              ),
        );
      }
  known_cut n x xs a h after =
      let sure : a ≢ Err ExhaustedInput = λ f. cc in
      one_more n x xs a sure (first_cut n x xs a h) (λ ys. first_cut n x (xs ++ ys) a (laws.stay (x ∷ xs) ys (λ f. sure (sym h ∙ f)) ∙ h))
      (after (cut_length a - 1))

  known_cuts : (n k : ℕ) (w : List ℕ) → KnownCuts n k w
  unfolding cuts_skipping
  known_cuts n k [] = record { begins = λ ys. (_, refl); next = inl refl }
  known_cuts n zero (x ∷ xs) = known_cut n x xs (answer_of strict (x ∷ xs)) refl (λ k. known_cuts (n + 1) k xs)
  known_cuts n (suc k) (x ∷ xs) = let h = known_cuts (n + 1) k xs in record { begins = h.begins; next = h.next }

  pub sweep_knows : (bytes : List ℕ) → length bytes + 30 ≤ 67108864 →
      KnowsAll (record { max = 67108864; known = known_sweep_at strict 0; lists = sweep_at strict 0 }) bytes
  sweep_knows bytes room lines is =
      let max : ℕ = 67108864 in
      let t = text_of max bytes Failed in
      let faults : t.ending ≡ Ending.Fault = at_fault t.ending (ap (λ l. l.status) is) in
      let k = known_cuts 0 0 t.image in
      let d = decided (cuts_from strict 0 t.image) in
      let all = λ (image : List ℕ). lines_of (cuts_from strict 0 image) in
      let same : lines ≡ d = append_cancel_right lines d (fault ∷ []) (sym (rw faults at (ap (λ l. l.lines) is))) in (
        (λ xs stop.
            let more = text_more max bytes faults xs stop in
            let last = (at_end (text_of max (bytes ++ xs) stop).ending).lines in
            let b = k.begins more.0 in
            (b.0 ++ last, ap (λ ls. ls ++ last) (ap all more.1 ∙ b.1) ∙ append_assoc d b.0 last ∙ ap (λ ls. ls ++ (b.0 ++ last)) (sym same))),
        λ others certain.
            let f = rw append-nil at (certain [] Failed) in
            let f_is : all t.image ++ fault ∷ [] ≡ others ++ f.0 = rw faults at f.1 in
            let g = rw append-nil at (certain [] End) in
            let last = (at_end (text_of max bytes End).ending).lines in
            let g_is : all t.image ++ last ≡ others ++ g.0 = rw (end_image max bytes faults) at g.1 in
            let gains = text_gains max bytes faults room in
            let z = certain zeros Failed in
            let more = (at_end (text_of max (bytes ++ zeros) Failed).ending).lines in
            let h : (more : Lines) × (d ≡ others ++ more) = elim k.next [
              | inl e ↦ common d others fault [] last f.0 g.0 (ap (λ ls. ls ++ fault ∷ []) (sym e) ∙ f_is)
                  (ap (λ ls. ls ++ last) (sym e) ∙ g_is) (no_fault (text_of max bytes End).ending (text_ends max bytes faults))
              | inr q ↦
                  let w = q.3 gains.0 gains.2 in
                  common d others q.0 (q.1 ++ fault ∷ []) (w.0 ∷ (w.1 ++ more)) f.0 z.0
                  (sym (append_assoc d (q.0 ∷ q.1) (fault ∷ [])) ∙ ap (λ ls. ls ++ fault ∷ []) (sym q.2) ∙ f_is)
                  (sym (append_assoc d (w.0 ∷ w.1) more) ∙ ap (λ ls. ls ++ more) (sym (ap all gains.1 ∙ w.2)) ∙ z.1)
                  (λ t e. w.3 (let is : w.0 ≡ q.0 = cc in is))
            ] in
            (h.0, same ∙ h.1),
      )

-- the calls of a run

-- A listing that a read fault may end is another at the end.
fault_known : (c : Command) (t : Text) (lines : Lines) → known_for c t ≡ with_lines lines (at_end Ending.Fault) → (listing_for c t).status ≡ Status.ReadFault
fault_known (Command.List strict) t lines e = ap (λ l. l.status) e
fault_known c t lines e = ap (λ l. l.status) e

undecided : (c : Command) (bytes : List ℕ) (lines : Lines) →
    known_for c (text_of (max_of c) bytes Failed) ≡ with_lines lines (at_end Ending.Fault) → Varies (task_of (Request.Reads c)) bytes
undecided c bytes lines e l all =
    let same : listing_for c (text_of (max_of c) bytes Failed) ≡ listing_for c (text_of (max_of c) bytes End) =
    rw append-nil at (all [] Failed ∙ sym (all [] End)) in
    command_read c (max_of c) bytes (sym (ap (λ l. l.status) same) ∙ fault_known c (text_of (max_of c) bytes Failed) lines e)

pub awaits_more : (c : Command) (cs : List Call) → ByRule (known_for c) (text_of (max_of c)) cs → BeforeReads (AwaitsMore (task_of (Request.Reads c))) cs
awaits_more c [] rule = tt
awaits_more c (Read buffer answer ∷ cs) rule = (awaits_more c cs rule.0, (rule.3, undecided c (received cs) rule.4.0 rule.4.1))
awaits_more c (Write bytes answer ∷ cs) rule = awaits_more c cs rule.0
awaits_more c (Flush answer ∷ cs) rule = awaits_more c cs rule.0

-- What is known of a text was sent before each read, and is all that is certain of the bytes of which this is so.
pub sent_all : (task : Task) (Of : List ℕ → Type 0) → ((bytes : List ℕ) → Of bytes → KnowsAll task bytes) → (cs : List Call) →
    ByRule task.known (text_of task.max) cs →
    BeforeReads (λ cs. Of (received cs) → SentAllCertain task cs) cs
sent_all task Of knows [] rule = tt
sent_all task Of knows (Read buffer answer ∷ cs) rule = (sent_all task Of knows cs rule.0, λ of. (rule.4.0, knows (received cs) of rule.4.0 rule.4.1, rule.4.2))
sent_all task Of knows (Write bytes answer ∷ cs) rule = sent_all task Of knows cs rule.0
sent_all task Of knows (Flush answer ∷ cs) rule = sent_all task Of knows cs rule.0

-- of a listing up to a refusal
pub sent_up_to_refusal : (laws : (strict : Bool) → DecoderLaws strict) (c : Command) → goes_past_refusals c ≡ false → (cs : List Call) →
    ByRule (known_for c) (text_of (max_of c)) cs →
    BeforeReads (SentAllCertain (task_of (Request.Reads c))) cs
sent_up_to_refusal laws c up cs rule = each cs (sent_all (task_of (Request.Reads c)) (λ bytes. ⊤) (knows c up) cs rule)
  where
    knows : (c : Command) → goes_past_refusals c ≡ false → (bytes : List ℕ) → ⊤ → KnowsAll (task_of (Request.Reads c)) bytes
    knows (Command.List strict) up bytes all = up_to_refusal_knows strict (laws strict) _ bytes
    knows Command.Fields up bytes all = up_to_refusal_knows false (laws false) _ bytes
    knows Command.Tighten up bytes all = up_to_refusal_knows false (laws false) _ bytes
    knows Command.Sweep up bytes all = cc
    knows Command.Targets up bytes all = cc

    each : (cs : List Call) → BeforeReads (λ cs. ⊤ → SentAllCertain (task_of (Request.Reads c)) cs) cs →
        BeforeReads (SentAllCertain (task_of (Request.Reads c))) cs
    each [] h = tt
    each (Read buffer answer ∷ cs) h = (each cs h.0, h.1 tt)
    each (Write bytes answer ∷ cs) h = each cs h
    each (Flush answer ∷ cs) h = each cs h
