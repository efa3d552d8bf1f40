-- What follows from the definition of the answer.
use Rattle.std.proofs.Common.{◌≡◌, ◌≢◌, ℕ, ◌<◌, ◌≤◌, Bool, List, [], ◌∷◌, ◌++◌, length, drop, take, Result, Ok, Err, refl, sym, ap, subst}
use Rattle.std.proofs.Common.{◌∙◌, arith, length-append, append_assoc, length-take}
use Rattle.std.proofs.lemmas.List.{append-nil, take-append-drop, take-append-le}
use Rattle.std.proofs.Math.Seq.{take-append_seam}
use Rattle.x86_fields.proofs.StepLemmas.{fresh}
use Rattle.x86_fields.specs.declared.errors.DecodeError.{DecodeError}
use Rattle.x86_fields.specs.declared.errors.DecodeError.TheVariants.{ExhaustedInput, TooLong}
use Rattle.x86_fields.proofs.EndLemmas.{no_beginning}
use Rattle.x86_fields.specs.Run.{reading_of}
use Rattle.x86_operands.specs.declared.reader.Reading.{Reading}
use Rattle.x86_decode.specs.declared.instructions.Instruction.{Instruction}
use Rattle.x86_forms.specs.declared.Map.TheVariants.{One}
use Rattle.x86_decode.specs.Head.{Rows}
use Rattle.x86_decode.specs.Grammar.{IsSentence, DecidesByBytes, case_1, case_2, case_3, case_4, IsTooLong, Decides, by_bytes, case_5}
use Rattle.x86_decode.specs.Grammar.{HasNoSentence, in_head, IsRefusal, IsAnswer}
use Rattle.x86_operands.proofs.InstanceLemmas.{fault_error}
use Rattle.x86_decode.proofs.HeadLemmas.{vex_final}
use Rattle.x86_decode.proofs.PlaceLemmas.{same_places_of}
use Rattle.x86_decode.proofs.BodyLemmas.{beginning_le, same_error, verdict, early, sentence_settles, out_nothing}
use Rattle.x86_decode.proofs.Theorem.{agree, not_both, refusal_iff, refusal, some_answer, none_settles, open_answer}

-- a prefix of a longer list that is short enough is a prefix of the list
pub beginning_of : (input more q rest : List ℕ) → input ++ more ≡ q ++ rest → length q ≤ length input → input ≡ q ++ drop (length q) input
beginning_of input more q rest h le =
    sym (take-append-drop (length q) input) ∙ ap (λ l. l ++ drop (length q) input)
    (sym (take-append-le (length q) input more le) ∙ ap (take (length q)) h ∙ take-append_seam q rest)

module _ (rows : Rows) (strict : Bool) where
  abbrev Answer : List ℕ → Result Instruction DecodeError → ℕ → Type 0
  Answer input r n = IsAnswer rows strict input r n

  -- ---- appended bytes

  no_sentence_more : (q rest more : List ℕ) (e : DecodeError) → Decides rows strict q e → HasNoSentence rows strict ((q ++ rest) ++ more)
  no_sentence_more q rest more e (by_bytes d) s k a h is =
      let o = early rows strict q e d in
      not_both rows strict q s (rest ++ more) k e a o.0 o.1 o.2 is (sym (append_assoc q rest more) ∙ h)
  no_sentence_more q rest more e (case_5 t) s k a h is =
      t.no_sentence s (drop (length s) q) a (beginning_of q (rest ++ more) s k (sym (append_assoc q rest more) ∙ h) (omega (arith, t.long, is.short))) is

  refusal_stays : (input more : List ℕ) (e : DecodeError) (n : ℕ) → IsRefusal rows strict input e n → IsRefusal rows strict (input ++ more) e n
  refusal_stays input more e n r = record {
    beginning = r.beginning;
    rest = r.rest ++ more;
    begins = ap (λ l. l ++ more) r.begins ∙ append_assoc r.beginning r.rest more;
    decides = r.decides;
    long = r.long;
    shortest = λ p k f h d.
        let no : length p < n → ⊥ = λ less. omega (
          arith,
          r.shortest p (drop (length p) input) f (beginning_of input more p k h (omega (
            arith,
            beginning_le r.beginning r.rest input r.begins,
            r.long,
          ))) d,
        ) in omega arith;
    no_sentence = λ s k a h is. no_sentence_more r.beginning r.rest more e r.decides s k a (ap (λ l. l ++ more) (sym r.begins) ∙ h) is;
  }

  pub stays : (input more : List ℕ) (r : Result Instruction DecodeError) (n : ℕ) → r ≢ Err ExhaustedInput → Answer input r n → Answer (input ++ more) r n
  stays input more (Ok a) n d h = record {
    sentence = h.sentence;
    rest = h.rest ++ more;
    begins = ap (λ l. l ++ more) h.begins ∙ append_assoc h.sentence h.rest more;
    long = h.long;
    is = h.is;
  }
  stays input more (Err ExhaustedInput) n d h = absurd (d refl)
  stays input more (Err e) n d h = refusal_stays input more e n h

  -- ---- bytes that decide an error

  decided_error : (q : List ℕ) (e : DecodeError) → DecidesByBytes rows strict q e → e ≢ ExhaustedInput
  decided_error q e (case_1 c) = vex_final (reading_of c.run)
  decided_error q e (case_2 c) = λ no. cc
  decided_error q e (case_3 fault c) = fault_error fault
  decided_error q e (case_4 c) = λ no. cc

  decided_late : (q p more : List ℕ) (f : DecodeError) → IsTooLong rows strict q → q ≡ p ++ more → Decides rows strict p f → length q ≤ length p
  decided_late q p more f t h (by_bytes d) = absurd (t.undecided p more f h d)
  decided_late q p more f t h (case_5 u) = omega (arith, t.long, u.long)

  pub decided_answer : (q rest : List ℕ) (e : DecodeError) → length q ≤ 15 → Decides rows strict q e → Answer (q ++ rest) (Err e) (length q)
  decided_answer q rest e short (by_bytes d) =
      let o = early rows strict q e d in
      (refusal_iff rows strict (q ++ rest) (length q) e (decided_error q e d)).0 (refusal rows strict (q ++ rest) q rest e o.0 refl short o.1 o.2 d)
  decided_answer q rest e short (case_5 t) = stays q rest (Err TooLong) (length q) (λ no. cc) (record {
    beginning = q;
    rest = [];
    begins = sym (append-nil q);
    decides = case_5 t;
    long = refl;
    shortest = λ p more f h d. decided_late q p more f t h d;
    no_sentence = t.no_sentence;
  })

  -- ---- one answer

  sentences_agree : (input s t x y : List ℕ) (a b : Instruction) → input ≡ s ++ x → input ≡ t ++ y → IsSentence rows strict s a →
      IsSentence rows strict t b → (a ≡ b) × (s ≡ t)
  sentences_agree input s t x y a b h k is js =
      let same = agree rows strict s t x y (Ok is.reading) (Ok js.reading) (sentence_settles rows strict s a is)
      (sentence_settles rows strict t b js) (sym h ∙ k) in
      let places = same_places_of rows strict s t x y is.reading js.reading is.whole js.whole is.short js.short (sym h ∙ k) in
      (cc (is.yields, js.yields, places, same.0, same.1), same.1)

  refusals_agree : (q : List ℕ) (e f : DecodeError) → Decides rows strict q e → Decides rows strict q f → e ≡ f
  refusals_agree q e f (by_bytes d) (by_bytes k) =
      let o = early rows strict q e d in
      let p = early rows strict q f k in
      let same = (agree rows strict q q [] [] o.0 p.0 o.1 p.1 refl).0 in
      same_error {X = Reading} e f (sym o.2 ∙ ap verdict same ∙ p.2)
  refusals_agree q e f (by_bytes d) (case_5 t) = absurd (t.undecided q [] e (sym (append-nil q)) d)
  refusals_agree q e f (case_5 t) (by_bytes d) = absurd (t.undecided q [] f (sym (append-nil q)) d)
  refusals_agree q e f (case_5 t) (case_5 u) = refl

  once_refused : (input : List ℕ) (e f : DecodeError) (n k : ℕ) → IsRefusal rows strict input e n → IsRefusal rows strict input f k → (e ≡ f) × (n ≡ k)
  once_refused input e f n k r s =
      let counts : n ≡ k = omega (
        arith,
        r.shortest s.beginning s.rest f s.begins s.decides,
        s.shortest r.beginning r.rest e r.begins r.decides,
        r.long,
        s.long,
      ) in
      let beginnings : r.beginning ≡ s.beginning = sym (take-append_seam r.beginning r.rest)
      ∙ rw (r.long ∙ counts ∙ sym s.long, sym r.begins ∙ s.begins) (take-append_seam s.beginning s.rest) in
      (refusals_agree s.beginning e f (subst (λ q. Decides rows strict q e) beginnings r.decides) s.decides, counts)

  pub once : (input : List ℕ) (r s : Result Instruction DecodeError) (n k : ℕ) → Answer input r n → Answer input s k → (r ≡ s) × (n ≡ k)
  once input (Ok a) (Ok b) n k h g =
      let same = sentences_agree input h.sentence g.sentence h.rest g.rest a b h.begins g.begins h.is g.is in
      (ap (λ x. Ok x) same.0, sym h.long ∙ ap length same.1 ∙ g.long)
  once input (Ok a) (Err ExhaustedInput) n k h g = absurd (g.no_sentence h.sentence h.rest a h.begins h.is)
  once input (Ok a) (Err f) n k h g = absurd (g.no_sentence h.sentence h.rest a h.begins h.is)
  once input (Err ExhaustedInput) (Ok a) n k g h = absurd (g.no_sentence h.sentence h.rest a h.begins h.is)
  once input (Err ExhaustedInput) (Err ExhaustedInput) n k h g =
      let a = h.taken in let b = g.taken in
      (refl, omega (arith, a.longest b.beginning b.rest b.begins b.between, b.longest a.beginning a.rest a.begins a.between, a.long, b.long))
  once input (Err ExhaustedInput) (Err e) n k g h = absurd (g.undecided h.beginning h.rest e h.begins h.decides)
  once input (Err e) (Ok a) n k g h = absurd (g.no_sentence h.sentence h.rest a h.begins h.is)
  once input (Err e) (Err ExhaustedInput) n k h g = absurd (g.undecided h.beginning h.rest e h.begins h.decides)
  once input (Err e) (Err f) n k h g = let same = once_refused input e f n k h g in (ap (λ x. Err x) same.0, same.1)

  -- ---- sentences and their prefixes

  pub no_proper_beginning : (s : List ℕ) (c : ℕ) (rest : List ℕ) (a b : Instruction) → IsSentence rows strict s a → IsSentence rows strict (s ++ c ∷ rest) b → ⊥
  no_proper_beginning s c rest a b is js =
      let same = (sentences_agree (s ++ c ∷ rest) s (s ++ c ∷ rest) (c ∷ rest) [] a b refl (sym (append-nil (s ++ c ∷ rest))) is js).1 in
      absurd (omega (arith, ap length same, length-append s (c ∷ rest)))

  count_within : (input : List ℕ) (r : Result Instruction DecodeError) (n : ℕ) → Answer input r n → n ≤ length input
  count_within input (Ok a) n h = omega (arith, beginning_le h.sentence h.rest input h.begins, h.long)
  count_within input (Err ExhaustedInput) n h = let t = h.taken in omega (arith, beginning_le t.beginning t.rest input t.begins, t.long)
  count_within input (Err e) n h = omega (arith, beginning_le h.beginning h.rest input h.begins, h.long)

  beginning_by : (q : List ℕ) (c : ℕ) (rest : List ℕ) (a : Instruction) (r : Result Instruction DecodeError) (n : ℕ) →
      IsSentence rows strict (q ++ c ∷ rest) a → Answer q r n → (k : ℕ) × Answer q (Err ExhaustedInput) k
  beginning_by q c rest a (Err ExhaustedInput) n is h = (n, h)
  beginning_by q c rest a r n is h =
      let whole : Answer (q ++ c ∷ rest) (Ok a) (length (q ++ c ∷ rest)) =
      record { sentence = q ++ c ∷ rest; rest = []; begins = sym (append-nil (q ++ c ∷ rest)); long = refl; is = is } in
      absurd (omega (
        arith,
        (once (q ++ c ∷ rest) r (Ok a) n (length (q ++ c ∷ rest)) (stays q (c ∷ rest) r n (λ k. cc) h) whole).1,
        count_within q r n h,
        length-append q (c ∷ rest),
      ))

  pub proper_beginning_open : (q : List ℕ) (c : ℕ) (rest : List ℕ) (a : Instruction) → IsSentence rows strict (q ++ c ∷ rest) a → (k : ℕ)
      × Answer q (Err ExhaustedInput) k
  proper_beginning_open q c rest a is = let o = some_answer rows strict q in beginning_by q c rest a o.0 o.1 is o.2

  -- ---- the empty input

  pub nothing_open : Answer [] (Err ExhaustedInput) 0
  nothing_open =
      open_answer rows strict [] [] [] (fresh []) (omega arith) refl refl (in_head [] One [] [] refl refl refl)
      (λ beginning back e t left. out_nothing rows strict t (left ∙ no_beginning beginning back e))
      (none_settles rows strict [] [] (fresh []) [] refl (out_nothing rows strict (fresh []) refl))

  -- ---- the first fifteen bytes

  pub never_open : (input : List ℕ) (n : ℕ) → 15 ≤ length input → Answer input (Err ExhaustedInput) n → ⊥
  never_open input n enough o =
      let following : (p k : List ℕ) → take 15 input ≡ p ++ k → input ≡ p ++ (k ++ drop 15 input) = λ p k h. sym (take-append-drop 15 input)
      ∙ ap (λ l. l ++ drop 15 input) h ∙ append_assoc p k (drop 15 input) in
      o.undecided (take 15 input) (drop 15 input) TooLong (sym (take-append-drop 15 input)) (case_5 (record {
        long = length-take 15 input ∙ omega arith;
        no_sentence = λ p k a h is. o.no_sentence p (k ++ drop 15 input) a (following p k h) is;
        undecided = λ p k e h d. o.undecided p (k ++ drop 15 input) e (following p k h) (by_bytes d);
      }))

  pub first_fifteen : (input : List ℕ) (r : Result Instruction DecodeError) (n : ℕ) → 15 ≤ length input → Answer (take 15 input) r n → Answer input r n
  first_fifteen input r n enough a =
      let kept = stays (take 15 input) (drop 15 input) r n
      (λ e. never_open (take 15 input) n (omega (arith, length-take 15 input)) (rw e at a)) a in rw (take-append-drop 15 input) at kept

  pub at_most_fifteen : (input : List ℕ) (r : Result Instruction DecodeError) (n : ℕ) → Answer input r n → n ≤ 15
  at_most_fifteen input r n a =
      let no : 15 < n → ⊥ = λ over.
      let o = some_answer rows strict (take 15 input) in
      omega (
        arith,
        count_within (take 15 input) o.0 o.1 o.2,
        (once input r o.0 n o.1 a (first_fifteen input o.0 o.1 (omega (arith, count_within input r n a)) o.2)).1,
        length-take 15 input,
      ) in omega arith

  -- ---- lengths

  sentence_is_some : (s : List ℕ) (a : Instruction) → IsSentence rows strict s a → 0 < length s
  sentence_is_some [] a is = absurd (nothing_open.no_sentence [] [] a refl is)
  sentence_is_some (c ∷ s) a is = omega arith

  pub accepted_within : (input : List ℕ) (a : Instruction) (n : ℕ) → Answer input (Ok a) n → (0 < a.length) × (a.length ≤ 15)
      × (a.length ≤ length input) × (a.length ≡ n)
  accepted_within input a n h =
      let counts : a.length ≡ length h.sentence = ap (λ i. i.length) h.is.yields in (
        omega (arith, counts, sentence_is_some h.sentence a h.is),
        omega (arith, counts, h.is.short),
        omega (arith, counts, beginning_le h.sentence h.rest input h.begins),
        counts ∙ h.long,
      )
