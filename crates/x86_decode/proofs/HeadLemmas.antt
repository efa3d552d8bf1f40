-- The run, the escape and the opcode byte: what the walk takes, and that it takes what the grammar has.
use Rattle.std.proofs.Common.{◌≡◌, ◌≢◌, ℕ, suc, ◌+◌, ◌≤◌, ◌==◌, ◌||◌, true, false, if◌then◌else◌, List, [], ◌∷◌, ◌++◌, length, Result, Ok}
use Rattle.std.proofs.Common.{Err, refl, sym, ap, ◌∙◌, rules, arith, length-append, append_assoc}
use Rattle.std.proofs.lemmas.Bool.{and_parts, or_parts, not-true, eqb-true, cond_both}
use Rattle.std.proofs.lemmas.Bool.Decides.{nat_tests}
use Rattle.std.proofs.lemmas.List.{append-nil}
use Rattle.std.proofs.lemmas.List.Folds.{list_all-append}
use Rattle.x86_arch.specs.Reader.{State, advanced}
use Rattle.x86_fields.specs.declared.errors.DecodeError.{DecodeError}
use Rattle.x86_fields.specs.declared.errors.DecodeError.TheVariants.{ExhaustedInput}
use Rattle.x86_fields.specs.declared.prefixes.Prefixes.{Prefixes}
use Rattle.x86_fields.specs.Run.{is_prefix, reading_of}
use Rattle.x86_fields.specs.Steps.{outcome, pure, refuse, ◌>>=◌, next_byte}
use Rattle.x86_fields.proofs.StepLemmas.{Takes, advanced_twice, advanced_zero, takes_pure, takes_bind, takes_byte}
use Rattle.x86_fields.proofs.EndLemmas.{EndsWell, Ends, settles, runs_out, no_beginning, final_ok, IsEmpty, Only, IsByte, ends_byte}
use Rattle.x86_fields.proofs.EndLemmas.{ends_pure, ends_refuse, ends_then, Out, out_bind, out_after, out_byte}
use Rattle.x86_fields.proofs.PieceLemmas.{takes_map}
use Rattle.x86_forms.specs.declared.Map.{Map}
use Rattle.x86_forms.specs.declared.Map.TheVariants.{One, Of, Of38, Of3a}
use Rattle.x86_decode.specs.Head.{is_run, escape_bytes, is_vex, is_opcode, vex_refusal}
use Rattle.x86_decode.specs.Walk.{run_from, run_step, read_of, head_step, read_escaped, opcode_step}

-- ---- the run

run_passes : (back beginning rest : List ℕ) (s : State ℕ) → is_run back ≡ true →
    run_from (back ++ rest) beginning s ≡ run_from rest (beginning ++ back) (advanced (length back) s)
run_passes [] beginning rest s h = rw (append-nil beginning, advanced_zero s) refl
run_passes (x ∷ back) beginning rest s h =
    let parts = and_parts (is_prefix x) (is_run back) h in
    let count : 1 + length back ≡ suc (length back) = omega arith in
    rw parts.0 (run_passes back (beginning ++ x ∷ []) rest (advanced 1 s) parts.1
    ∙ rw (append_assoc beginning (x ∷ []) back, advanced_twice 1 (length back) s, count) refl)

pub takes_head : (run : List ℕ) (c : ℕ) → is_run run ≡ true → is_prefix c ≡ false → Takes head_step (run ++ c ∷ []) (Ok (reading_of run, c))
unfolding head_step run_step
takes_head run c is plain = record {
  takes = λ rest s h.
      let e : run_from s.left [] s ≡ outcome (Ok (run, c)) (advanced (length (run ++ c ∷ [])) s) =
      ap (λ l. run_from l [] s) (h ∙ append_assoc run (c ∷ []) rest)
      ∙ run_passes run [] (c ∷ rest) s is ∙ rw (plain, advanced_twice (length run) 1 s, length-append run (c ∷ [])) refl in
      ap read_of e;
}

pub out_head : (q : List ℕ) → is_run q ≡ true → Out head_step q
unfolding head_step run_step
out_head q is s h = ap read_of (ap (λ l. run_from l [] s) (h ∙ sym (append-nil q)) ∙ run_passes q [] [] s is)

-- the run, its reading and the byte after it
pub record IsHead (q : List ℕ) (h : Prefixes × ℕ) : Type 0 where
  pub run : List ℕ
  pub spelled : q ≡ run ++ h.1 ∷ []
  pub prefixes : is_run run ≡ true
  pub reading : h.0 ≡ reading_of run
  pub plain : is_prefix h.1 ≡ false

abbrev pub IsRun : List ℕ → Type 0
IsRun q = is_run q ≡ true

ends_from : (s : State ℕ) (run l : List ℕ) → s.left ≡ run ++ l → is_run run ≡ true → Ends (Only IsHead) IsRun head_step s
ends_from s run [] h is = runs_out run [] h is (λ beginning back e t left.
    out_head run is t (left ∙ ap (λ l. run ++ l) (no_beginning beginning back e) ∙ append-nil run))
ends_from s run (x ∷ l) h is =
    let at : s.left ≡ (run ++ x ∷ []) ++ l = h ∙ sym (append_assoc run (x ∷ []) l) in
    cond_both (is_prefix x) l l (λ _. Ends (Only IsHead) IsRun head_step s)
    (λ e. ends_from s (run ++ x ∷ []) l at (rw (list_all-append is_prefix run (x ∷ []), is, e) refl))
    (λ plain. settles (run ++ x ∷ []) l (Ok (reading_of run, x)) at (takes_head run x is plain) (final_ok (reading_of run, x))
    (record { run = run; spelled = refl; prefixes = is; reading = refl; plain = plain }))

pub ends_head : EndsWell (Only IsHead) IsRun head_step
ends_head s = ends_from s [] s.left refl refl

-- ---- the escape and the opcode byte

abbrev pub OpcodeYields : Prefixes → ℕ → List ℕ → Result (Map × ℕ) DecodeError → Type 0
OpcodeYields p c q (Ok o) = (c ∷ q ≡ escape_bytes o.0 ++ o.1 ∷ []) × (is_opcode o.0 o.1 ≡ true)
OpcodeYields p c q (Err e) = (q ≡ []) × (is_vex c ≡ true) × (e ≡ vex_refusal p)

abbrev pub OpcodeBetween : ℕ → List ℕ → Type 0
OpcodeBetween c q = (map : Map) × (back : List ℕ) × (escape_bytes map ≡ (c ∷ q) ++ back)

pub vex_final : (p : Prefixes) → vex_refusal p ≢ ExhaustedInput
vex_final p e = grind (arith, nat_tests)

module _ (p : Prefixes) (c : ℕ) where
  abbrev AfterOpcode : List ℕ → List ℕ → Result (Map × ℕ) DecodeError → Type 0
  AfterOpcode q l r = OpcodeYields p c (q ++ l) r

  abbrev Between : List ℕ → List ℕ → Type 0
  Between q l = OpcodeBetween c (q ++ l)

  third : (map : Map) (d : ℕ) (q : List ℕ) → escape_bytes map ≡ c ∷ d ∷ [] → q ≡ d ∷ [] → ((b : ℕ) → is_opcode map b ≡ true) →
      EndsWell (AfterOpcode q) (Between q) (next_byte >>= λ b. pure (map, b))
  third map d q e h every = ends_then IsByte IsEmpty (AfterOpcode q) (Between q) next_byte (λ b. pure (map, b)) ends_byte (λ l k. (map, [], rw (h, k) e))
      (λ l b k. ends_pure (λ m r. AfterOpcode q (l ++ m) r) (λ m. Between q (l ++ m)) (map, b) (rw (h, k, e) refl, every b))

  escaped : (d : ℕ) (q : List ℕ) → c ≡ 0x0f → q ≡ d ∷ [] → EndsWell (AfterOpcode q) (Between q) (read_escaped d)
  escaped d q z h = cond_both (d == 0x38) (next_byte >>= λ b. pure (Of38, b))
      (if d == 0x3a then (next_byte >>= λ b. pure (Of3a, b)) else pure (Of, d)) (EndsWell (AfterOpcode q) (Between q))
      (λ e. third Of38 d q (let k = eqb-true d 0x38 e in cc) h (λ b. refl))
      (λ e. cond_both (d == 0x3a) (next_byte >>= λ b. pure (Of3a, b)) (pure (Of, d)) (EndsWell (AfterOpcode q) (Between q))
      (λ f. third Of3a d q (let k = eqb-true d 0x3a f in cc) h (λ b. refl))
      (λ f. ends_pure (AfterOpcode q) (Between q) (Of, d) (rw (h, z) refl, rw (e, f) refl)))

  pub ends_opcode : is_prefix c ≡ false → EndsWell (OpcodeYields p c) (OpcodeBetween c) (opcode_step p c)
  unfolding opcode_step
  ends_opcode plain = cond_both (is_vex c) (refuse (vex_refusal p))
      (if c == 0x0f then (next_byte >>= λ d. read_escaped d) else pure (One, c)) (EndsWell (OpcodeYields p c) (OpcodeBetween c))
      (λ e. ends_refuse (OpcodeYields p c) (OpcodeBetween c) (vex_refusal p) (vex_final p) (refl, e, refl))
      (λ e. cond_both (c == 0x0f) (next_byte >>= λ d. read_escaped d) (pure (One, c)) (EndsWell (OpcodeYields p c) (OpcodeBetween c))
      (λ f. ends_then IsByte IsEmpty (OpcodeYields p c) (OpcodeBetween c) next_byte (λ d. read_escaped d) ends_byte
      (λ q k. (Of, [], rw (eqb-true c 0x0f f, k) refl)) (λ q d k. escaped d q (eqb-true c 0x0f f) k))
      (λ f. ends_pure (OpcodeYields p c) (OpcodeBetween c) (One, c) (refl, rw (plain, f, e) refl)))

-- the first byte after the run, and those up to the opcode
abbrev pub entry_byte : Map → ℕ → ℕ
entry_byte One b = b
entry_byte map b = 0x0f

abbrev pub entry_rest : Map → ℕ → List ℕ
entry_rest One b = []
entry_rest Of b = b ∷ []
entry_rest Of38 b = 0x38 ∷ b ∷ []
entry_rest Of3a b = 0x3a ∷ b ∷ []

pub entry_is : (map : Map) (b : ℕ) (tail : List ℕ) → escape_bytes map ++ b ∷ tail ≡ entry_byte map b ∷ (entry_rest map b ++ tail)
entry_is map b tail = search rules

pub entry_plain : (map : Map) (b : ℕ) → is_opcode map b ≡ true → is_prefix (entry_byte map b) ≡ false
entry_plain map b h = grind (arith, nat_tests)

pub takes_opcode : (p : Prefixes) (map : Map) (b : ℕ) → is_opcode map b ≡ true → Takes (opcode_step p (entry_byte map b)) (entry_rest map b) (Ok (map, b))
unfolding opcode_step
takes_opcode p One b h =
    let parts = or_parts (b == 0x0f) (is_vex b) (or_parts (is_prefix b) ((b == 0x0f) || is_vex b) (not-true _ h)).1 in
    rw (parts.1, parts.0) (takes_pure (Ok (One, b)))
takes_opcode p Of b h =
    let parts = or_parts (b == 0x38) (b == 0x3a) (not-true _ h) in
    takes_bind next_byte (λ d. read_escaped d) (b ∷ []) [] b (Ok (Of, b)) (takes_byte b) (rw (parts.0, parts.1) (takes_pure (Ok (Of, b))))
takes_opcode p Of38 b h = takes_bind next_byte (λ d. read_escaped d) (0x38 ∷ []) (b ∷ []) 0x38 (Ok (Of38, b)) (takes_byte 0x38)
    (takes_map next_byte (λ x. (Of38, x)) (b ∷ []) b (takes_byte b))
takes_opcode p Of3a b h = takes_bind next_byte (λ d. read_escaped d) (0x3a ∷ []) (b ∷ []) 0x3a (Ok (Of3a, b)) (takes_byte 0x3a)
    (takes_map next_byte (λ x. (Of3a, x)) (b ∷ []) b (takes_byte b))

pub takes_vex : (p : Prefixes) (c : ℕ) → is_vex c ≡ true → Takes (opcode_step p c) [] (Err (vex_refusal p))
unfolding opcode_step
takes_vex p c h = rw h (takes_pure (Err (vex_refusal p)))

pub vex_plain : (c : ℕ) → is_vex c ≡ true → is_prefix c ≡ false
vex_plain c h = grind (arith, nat_tests)

-- ---- the beginning of an escape

pub data EscapeBeginning (beginning : List ℕ) : Type 0 where
  none : beginning ≡ [] → EscapeBeginning beginning
  escape : (q : List ℕ) → beginning ≡ 0x0f ∷ q → ((p : Prefixes) → Out (opcode_step p 0x0f) q) → EscapeBeginning beginning

beginning_at : (q beginning back : List ℕ) → 0x0f ∷ q ≡ beginning ++ back → length q ≤ 1 → ((p : Prefixes) → Out (opcode_step p 0x0f) q) →
    EscapeBeginning beginning
unfolding opcode_step
beginning_at q [] back e few u = none refl
beginning_at q (x ∷ []) back e few u = escape [] (cc) (λ p. out_bind next_byte (λ d. read_escaped d) [] out_byte)
beginning_at (d ∷ []) (x ∷ y ∷ l) back e few u = escape (d ∷ []) (let none = no_beginning l back (cc) in cc) u
beginning_at _ (x ∷ y ∷ l) back e few u = absurd (omega (arith, ap length e))

pub escape_beginning : (map : Map) (beginning back : List ℕ) → escape_bytes map ≡ beginning ++ back → EscapeBeginning beginning
unfolding opcode_step
escape_beginning One beginning back e = none (no_beginning beginning back e)
escape_beginning Of beginning back e = beginning_at [] beginning back e (omega arith) (λ p. out_bind next_byte (λ d. read_escaped d) [] out_byte)
escape_beginning Of38 beginning back e = beginning_at (0x38 ∷ []) beginning back e (omega arith)
    (λ p. out_after next_byte (λ d. read_escaped d) (0x38 ∷ []) [] 0x38 (takes_byte 0x38) (out_bind next_byte (λ b. pure (Of38, b)) [] out_byte))
escape_beginning Of3a beginning back e = beginning_at (0x3a ∷ []) beginning back e (omega arith)
    (λ p. out_after next_byte (λ d. read_escaped d) (0x3a ∷ []) [] 0x3a (takes_byte 0x3a) (out_bind next_byte (λ b. pure (Of3a, b)) [] out_byte))
