-- A step settles on a prefix of what is left, or runs out after one; what is known of either is put together along
-- the steps.
use Rattle.std.proofs.Common.{◌≡◌, ◌≢◌, ◌⊎◌, inl, inr, true, nat_lt, length-take, ℕ, ◌+◌, ◌<◌, ◌≤◌, true, List, [], ◌∷◌, ◌++◌, length, take}
use Rattle.std.proofs.Common.{drop, Result, Ok, Err, refl, sym, ap, subst, ◌∙◌, arith, length-append, append_assoc}
use Rattle.std.proofs.lemmas.Bool.{cases_lt, lt-ltb}
use Rattle.std.proofs.Math.Seq.{drop-append_seam, take-append_seam}
use Rattle.std.proofs.lemmas.List.{append-nil, take-append-drop, take-append-le}
use Rattle.x86_arch.specs.Reader.{State, advanced}
use Rattle.x86_fields.specs.declared.errors.DecodeError.{DecodeError}
use Rattle.x86_fields.specs.declared.errors.DecodeError.TheVariants.{ExhaustedInput}
use Rattle.x86_fields.specs.Steps.{Step, outcome, then_from, pure, refuse, ◌>>=◌, next_byte, byte_of, next_bytes}
use Rattle.x86_fields.proofs.StepLemmas.{Takes, fresh, advanced_zero, takes_pure, bound, takes_bind, takes_err, takes_byte, takes_bytes}

-- an answer that isn't for want of bytes
abbrev pub IsFinal : {X : Type 0} → Result X DecodeError → Type 0
IsFinal r = r ≢ Err ExhaustedInput

pub final_ok : {X : Type 0} (x : X) → IsFinal (Ok x)
final_ok x e = cc

pub final_err : {X : Type 0} (e : DecodeError) → e ≢ ExhaustedInput → IsFinal {X = X} (Err e)
final_err e d h = d cc

pub final_other : {X Y : Type 0} (e : DecodeError) → IsFinal {X = X} (Err e) → IsFinal {X = Y} (Err e)
final_other e d h = d cc

-- On q and these bytes after it, f takes q and runs out.
abbrev pub OutAt : {X : Type 0} → Step X → List ℕ → List ℕ → Type 0
OutAt f q beginning = (t : State ℕ) → t.left ≡ q ++ beginning → f t ≡ outcome (Err ExhaustedInput) (advanced (length q) t)

abbrev pub OutOn : {X : Type 0} → Step X → List ℕ → List ℕ → Type 0
OutOn f q rest = (beginning back : List ℕ) → rest ≡ beginning ++ back → OutAt f q beginning

-- A prefix was taken whatever follows, or f runs out after q, on every prefix of the input that begins with q.
pub data Ends {X : Type 0} (A : List ℕ → Result X DecodeError → Type 0) (B : List ℕ → Type 0) (f : Step X) (s : State ℕ) : Type 0 where
  settles : (q rest : List ℕ) (r : Result X DecodeError) → s.left ≡ q ++ rest → Takes f q r → IsFinal r → A q r → Ends A B f s
  runs_out : (q rest : List ℕ) → s.left ≡ q ++ rest → B q → OutOn f q rest → Ends A B f s

abbrev pub EndsWell : {X : Type 0} → (List ℕ → Result X DecodeError → Type 0) → (List ℕ → Type 0) → Step X → Type 0
EndsWell A B f = (s : State ℕ) → Ends A B f s

-- nothing was taken
abbrev pub IsEmpty : List ℕ → Type 0
IsEmpty q = q ≡ []

-- the answers are values
abbrev pub Only : {X : Type 0} → (List ℕ → X → Type 0) → List ℕ → Result X DecodeError → Type 0
Only P q (Ok x) = P q x
Only P q (Err e) = ⊥

pub weaken : {X : Type 0} {A C : List ℕ → Result X DecodeError → Type 0} {B D : List ℕ → Type 0} {f : Step X} (s : State ℕ) →
    ((q : List ℕ) (r : Result X DecodeError) → A q r → C q r) → ((q : List ℕ) → B q → D q) → Ends A B f s → Ends C D f s
weaken s a b (settles q rest r h t d k) = settles q rest r h t d (a q r k)
weaken s a b (runs_out q rest h k u) = runs_out q rest h (b q k) u

pub ends_pure : {X : Type 0} (A : List ℕ → Result X DecodeError → Type 0) (B : List ℕ → Type 0) (x : X) → A [] (Ok x) → EndsWell A B (pure x)
ends_pure A B x a s = settles [] s.left (Ok x) refl (takes_pure (Ok x)) (final_ok x) a

pub ends_refuse : {X : Type 0} (A : List ℕ → Result X DecodeError → Type 0) (B : List ℕ → Type 0) (e : DecodeError) → e ≢ ExhaustedInput →
    A [] (Err e) → EndsWell A B (refuse e)
ends_refuse A B e d a s = settles [] s.left (Err e) refl (takes_pure (Err e)) (final_err e d) a

pub no_beginning : (beginning back : List ℕ) → ◌≡◌ {A = List ℕ} [] (beginning ++ back) → beginning ≡ []
no_beginning [] back e = refl
no_beginning (x ∷ beginning) back e = cc

-- one byte
abbrev pub IsByte : List ℕ → ℕ → Type 0
IsByte q b = q ≡ b ∷ []

ends_byte_at : (l : List ℕ) (s : State ℕ) → s.left ≡ l → Ends (Only IsByte) IsEmpty next_byte s
unfolding next_byte
ends_byte_at [] s e = runs_out [] [] e refl (λ beginning back h t k.
    ap (λ l. byte_of l t) (k ∙ no_beginning beginning back h) ∙ ap (λ u. outcome (Err ExhaustedInput) u) (sym (advanced_zero t)))
ends_byte_at (x ∷ rest) s e = settles (x ∷ []) rest (Ok x) e (takes_byte x) (final_ok x) refl

pub ends_byte : EndsWell (Only IsByte) IsEmpty next_byte
ends_byte s = ends_byte_at s.left s refl

-- n bytes
abbrev pub AreBytes : ℕ → List ℕ → List ℕ → Type 0
AreBytes n q bytes = (bytes ≡ q) × (length q ≡ n)

ends_bytes_at : (n : ℕ) (s : State ℕ) → (length s.left < n) ⊎ (n ≤ length s.left) → Ends (Only (AreBytes n)) IsEmpty (next_bytes n) s
unfolding next_bytes
ends_bytes_at n s (inl less) = runs_out [] s.left refl refl (λ beginning back h t k.
    let parts : length s.left ≡ length beginning + length back = ap length h ∙ length-append beginning back in
    let here : length t.left ≡ length beginning = ap length k in
    let test : nat_lt (length t.left) n ≡ true = lt-ltb (length t.left) n (omega arith) in
    rw test (ap (λ u. outcome (Err ExhaustedInput) u) (sym (advanced_zero t))))
ends_bytes_at n s (inr enough) =
    let long : length (take n s.left) ≡ n = length-take n s.left ∙ omega arith in
    let P : ℕ → Type 0 = λ m. Takes (next_bytes m) (take n s.left) (Ok (take n s.left)) in
    settles (take n s.left) (drop n s.left) (Ok (take n s.left)) (sym (take-append-drop n s.left))
    (subst P long (takes_bytes (take n s.left))) (final_ok (take n s.left)) (refl, long)

pub ends_bytes : (n : ℕ) → EndsWell (Only (AreBytes n)) IsEmpty (next_bytes n)
ends_bytes n s = ends_bytes_at n s (cases_lt (length s.left) n)

-- ---- a sequence of two steps

ends_ok : {X Y : Type 0} (A : List ℕ → Result Y DecodeError → Type 0) (B : List ℕ → Type 0) (m : Step X) (f : X → Step Y) (s : State ℕ)
    (q rest : List ℕ) (x : X) → s.left ≡ q ++ rest → Takes m q (Ok x) →
    Ends (λ p r. A (q ++ p) r) (λ p. B (q ++ p)) (f x) (advanced (length q) s) → Ends A B (m >>= f) s
ends_ok A B m f s q rest x h t (settles p more r e u d a) =
    let after : rest ≡ p ++ more = sym (ap (drop (length q)) h ∙ drop-append_seam q rest) ∙ e in
    settles (q ++ p) more r (h ∙ ap (λ l. q ++ l) after ∙ sym (append_assoc q p more)) (takes_bind m f q p x r t u) d a
ends_ok A B m f s q rest x h t (runs_out p more e b u) =
    let after : rest ≡ p ++ more = sym (ap (drop (length q)) h ∙ drop-append_seam q rest) ∙ e in
    runs_out (q ++ p) more (h ∙ ap (λ l. q ++ l) after ∙ sym (append_assoc q p more)) b (λ beginning back part w left.
    bound m f q p beginning x (Err ExhaustedInput) t (u beginning back part) w (left ∙ append_assoc q p beginning))

ends_at : {X Y : Type 0} (A₁ : List ℕ → Result X DecodeError → Type 0) (B₁ : List ℕ → Type 0) (A : List ℕ → Result Y DecodeError → Type 0)
    (B : List ℕ → Type 0) (m : Step X) (f : X → Step Y) (s : State ℕ)
    → ((q : List ℕ) → B₁ q → B q) → ((q : List ℕ) (e : DecodeError) → A₁ q (Err e) → A q (Err e))
    → ((q : List ℕ) (x : X) → A₁ q (Ok x) → EndsWell (λ p r. A (q ++ p) r) (λ p. B (q ++ p)) (f x))
    → Ends A₁ B₁ m s → Ends A B (m >>= f) s
ends_at A₁ B₁ A B m f s outs errs each (settles q rest (Ok x) h t d a) = ends_ok A B m f s q rest x h t (each q x a (advanced (length q) s))
ends_at A₁ B₁ A B m f s outs errs each (settles q rest (Err e) h t d a) = settles q rest (Err e) h (takes_err m f q e t) (final_other e d) (errs q e a)
ends_at A₁ B₁ A B m f s outs errs each (runs_out q rest h b u) =
    runs_out q rest h (outs q b) (λ beginning back part t left. ap (λ o. then_from o.answer o.after f) (u beginning back part t left))

pub ends_bind : {X Y : Type 0} (A₁ : List ℕ → Result X DecodeError → Type 0) (B₁ : List ℕ → Type 0)
    (A : List ℕ → Result Y DecodeError → Type 0) (B : List ℕ → Type 0) (m : Step X) (f : X → Step Y)
    → EndsWell A₁ B₁ m → ((q : List ℕ) → B₁ q → B q) → ((q : List ℕ) (e : DecodeError) → A₁ q (Err e) → A q (Err e))
    → ((q : List ℕ) (x : X) → A₁ q (Ok x) → EndsWell (λ p r. A (q ++ p) r) (λ p. B (q ++ p)) (f x))
    → EndsWell A B (m >>= f)
ends_bind A₁ B₁ A B m f first outs errs each s = ends_at A₁ B₁ A B m f s outs errs each (first s)

-- where the first step only yields values
pub ends_then : {X Y : Type 0} (P : List ℕ → X → Type 0) (B₁ : List ℕ → Type 0) (A : List ℕ → Result Y DecodeError → Type 0)
    (B : List ℕ → Type 0) (m : Step X) (f : X → Step Y)
    → EndsWell (Only P) B₁ m → ((q : List ℕ) → B₁ q → B q)
    → ((q : List ℕ) (x : X) → P q x → EndsWell (λ p r. A (q ++ p) r) (λ p. B (q ++ p)) (f x))
    → EndsWell A B (m >>= f)
ends_then P B₁ A B m f first outs each = ends_bind (Only P) B₁ A B m f first outs (λ q e h. absurd h) each

-- a value that is made of another one
pub ends_map : {X Y : Type 0} (P : List ℕ → X → Type 0) (B : List ℕ → Type 0) (Q : List ℕ → Y → Type 0) (m : Step X) (g : X → Y) →
    EndsWell (Only P) B m → ((q : List ℕ) (x : X) → P q x → Q q (g x)) → EndsWell (Only Q) B (m >>= λ x. pure (g x))
ends_map P B Q m g first each = ends_then P B (Only Q) B m (λ x. pure (g x)) first (λ q b. b)
    (λ q x p. ends_pure (λ p r. Only Q (q ++ p) r) (λ p. B (q ++ p)) (g x) (subst (λ l. Q l (g x)) (sym (append-nil q)) (each q x p)))

-- ---- bytes on which a step runs out with all taken, or has settled before

abbrev pub Out : {X : Type 0} → Step X → List ℕ → Type 0
Out f q = (s : State ℕ) → s.left ≡ q → f s ≡ outcome (Err ExhaustedInput) (advanced (length q) s)

pub out_bind : {X Y : Type 0} (m : Step X) (f : X → Step Y) (q : List ℕ) → Out m q → Out (m >>= f) q
out_bind m f q u s h = ap (λ o. then_from o.answer o.after f) (u s h)

pub out_after : {X Y : Type 0} (m : Step X) (f : X → Step Y) (p q : List ℕ) (x : X) → Takes m p (Ok x) → Out (f x) q → Out (m >>= f) (p ++ q)
out_after m f p q x t u s h = bound m f p q [] x (Err ExhaustedInput) t (λ w k. u w (k ∙ append-nil q)) s (h ∙ ap (λ l. p ++ l) (sym (append-nil q)))

pub data Halts {X : Type 0} (f : Step X) (q : List ℕ) : Type 0 where
  out : Out f q → Halts f q
  over : (p rest : List ℕ) (r : Result X DecodeError) → q ≡ p ++ rest → Takes f p r → IsFinal r → Halts f q

halts_none : {X : Type 0} {A : List ℕ → Result X DecodeError → Type 0} {B : List ℕ → Type 0} (f : Step X) → Ends A B f (fresh []) → Halts f []
halts_none f (settles q rest r h t d a) = over q rest r h t d
halts_none f (runs_out q rest h b u) =
    let none : q ≡ [] = no_beginning q rest h in
    out (λ s e. u [] rest refl s (e ∙ sym none ∙ sym (append-nil q)) ∙ ap (λ l. outcome (Err ExhaustedInput) (advanced (length l) s)) none)

pub halts_empty : {X : Type 0} {A : List ℕ → Result X DecodeError → Type 0} {B : List ℕ → Type 0} (f : Step X) → EndsWell A B f → Halts f []
halts_empty f e = halts_none f (e (fresh []))

pub halts_bind : {X Y : Type 0} (m : Step X) (f : X → Step Y) (p q : List ℕ) (x : X) → Takes m p (Ok x) → Halts (f x) q → Halts (m >>= f) (p ++ q)
halts_bind m f p q x t (out u) = out (out_after m f p q x t u)
halts_bind m f p q x t (over a rest r e u d) = over (p ++ a) rest r (ap (λ l. p ++ l) e ∙ sym (append_assoc p a rest)) (takes_bind m f p a x r t u) d

pub halts_refused : {X Y : Type 0} (m : Step X) (f : X → Step Y) (q : List ℕ) (e : DecodeError) → e ≢ ExhaustedInput → Takes m [] (Err e) → Halts (m >>= f) q
halts_refused m f q e d t = over [] q (Err e) refl (takes_err m f [] e t) (final_err e d)

pub halts_same : {X : Type 0} (f g : Step X) (q : List ℕ) → ((s : State ℕ) → g s ≡ f s) → Halts f q → Halts g q
halts_same f g q e (out u) = out (λ s h. e s ∙ u s h)
halts_same f g q e (over p rest r h t d) = over p rest r h (record { takes = λ more s k. e s ∙ t.takes more s k }) d

assoc_at : {X Y Z : Type 0} (a : Result X DecodeError) (u : State ℕ) (f : X → Step Y) (g : Y → Step Z) →
    then_from (then_from a u f).answer (then_from a u f).after g ≡ then_from a u (λ x. f x >>= g)
assoc_at (Ok x) u f g = refl
assoc_at (Err e) u f g = refl

pub bind_assoc : {X Y Z : Type 0} (m : Step X) (f : X → Step Y) (g : Y → Step Z) (s : State ℕ) → ((m >>= f) >>= g) s ≡ (m >>= (λ x. f x >>= g)) s
bind_assoc m f g s = assoc_at (m s).answer (m s).after f g

-- ---- the longest prefix

longer : {X : Type 0} (f : Step X) (q rest p more : List ℕ) → OutOn f q rest → q ++ rest ≡ p ++ more → length q < length p → Halts f p → length p ≤ length q
longer f q rest p more u h less st =
    let beginning : List ℕ = drop (length q) p in
    let begins : take (length q) p ≡ q = sym (take-append-le (length q) p more (omega arith)) ∙ ap (take (length q)) (sym h) ∙ take-append_seam q rest in
    let whole : p ≡ q ++ beginning = sym (take-append-drop (length q) p) ∙ ap (λ l. l ++ beginning) begins in
    let following : rest ≡ beginning ++ more = sym (drop-append_seam q rest)
    ∙ ap (drop (length q)) (h ∙ ap (λ l. l ++ more) whole ∙ append_assoc q beginning more) ∙ drop-append_seam q (beginning ++ more) in
    at st (u beginning more following (fresh p) whole)
  where
    at : Halts f p → f (fresh p) ≡ outcome (Err ExhaustedInput) (advanced (length q) (fresh p)) → length p ≤ length q
    at (out v) e =
        let counts : 0 + length q ≡ 0 + length p = sym (ap (λ o. o.after.since_mark) e) ∙ ap (λ o. o.after.since_mark) (v (fresh p) refl) in omega arith
    at (over a b r e t d) is = absurd (d (sym (ap (λ o. o.answer) (t.takes b (fresh p) e)) ∙ ap (λ o. o.answer) is))

-- Of the prefixes of an input on which the step runs out, none on which it halts is longer than what it takes.
pub longest : {X : Type 0} (f : Step X) (q rest p more : List ℕ) → OutOn f q rest → q ++ rest ≡ p ++ more → Halts f p → length p ≤ length q
longest f q rest p more u h st = by (cases_lt (length q) (length p))
  where
    by : (length q < length p) ⊎ (length p ≤ length q) → length p ≤ length q
    by (inl less) = longer f q rest p more u h less st
    by (inr le) = le

pub out_byte : Out next_byte []
unfolding next_byte
out_byte s h = ap (λ l. byte_of l s) h ∙ ap (λ u. outcome (Err ExhaustedInput) u) (sym (advanced_zero s))
