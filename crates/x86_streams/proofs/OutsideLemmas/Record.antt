-- What a record says of a chain of calls.
use Rattle.std.proofs.Common.{◌≡◌, ℕ, zero, suc, List, [], ◌∷◌, ◌++◌, Result, Ok, Err, refl, ap, ◌∙◌, sym, append_assoc, append-nil, arith, length, ◌+◌, ◌≤◌}
use Rattle.std.specs.Prelude.{◌↔◌, Bool, false, true, replicate, IsOk, OnOk, ⊤}
use Rattle.std.specs.declared.io.Error.{Error}
use Rattle.std.specs.declared.io.ErrorKind.TheVariants.{Interrupted}
use Rattle.std.specs.IoError.{error_kind}
use Rattle.x86_streams.specs.Outside.Chain.{Call, Read, Write, Flush, Calls, Interruptions, Uninterrupted, received, sent, taken_by}
use Rattle.x86_streams.specs.Outside.Record.{Adds, AreEvents, IsRecordOf, Records, RecordsFlush, RecordsRead, RecordsWrite, event_of, interrupted}
use Rattle.x86_streams.specs.declared.outside.recorder.Event.{Event}
use Rattle.x86_streams.specs.declared.outside.recorder.Record.{Record}

-- what an append says where there is room
pub appended : {A F P : Type 0} (answer : Result A F) (len room capacity : ℕ) (bytes : List ℕ) → IsOk answer ↔ (len + length bytes ≤ capacity) →
    room + len ≡ capacity → length bytes ≤ room → OnOk answer P → P
appended (Ok x) len room capacity bytes fits is inside holds = holds
appended (Err e) len room capacity bytes fits is inside holds =
    let fitted : false ≡ true = fits.1 (omega arith) in
    absurd (cc)

replicate_last : (n : ℕ) (e : Event) → replicate n e ++ e ∷ [] ≡ e ∷ replicate n e
replicate_last zero e = refl
replicate_last (suc n) e = ap (λ es. e ∷ es) (replicate_last n e)

module _ {E : Type 0} {CALLS BYTES : ℕ} where
  nothing : (s : Record E CALLS BYTES) → s.is_full ≡ false → Adds [] [] [] s s
  nothing s free = (free, sym (append-nil s.events.items), sym (append-nil s.read.items), sym (append-nil s.written.items))

  joined : (es fs : List Event) (rs qs ws vs : List ℕ) (s t u : Record E CALLS BYTES) → Adds es rs ws s t → Adds fs qs vs t u →
      Adds (es ++ fs) (rs ++ qs) (ws ++ vs) s u
  joined es fs rs qs ws vs s t u a b = (
    a.0,
    b.1 ∙ ap (λ x. x ++ fs) a.1 ∙ append_assoc s.events.items es fs,
    b.2 ∙ ap (λ x. x ++ qs) a.2 ∙ append_assoc s.read.items rs qs,
    b.3 ∙ ap (λ x. x ++ vs) a.3 ∙ append_assoc s.written.items ws vs,
  )

  -- a call, after some tries of it that were interrupted
  module _ {A : Type 0} (c : Call) (tries : Record E CALLS BYTES → Error → Record E CALLS BYTES → Type 0)
      (call : Record E CALLS BYTES → Result A Error → Record E CALLS BYTES → Type 0)
      (tried : (u : Record E CALLS BYTES) (e : Error) (v : Record E CALLS BYTES) → tries u e v → error_kind e ≡ Interrupted →
      v.is_full ≡ false → Adds (interrupted c ∷ []) [] [] u v) where
    repeated : (n : ℕ) (s t : Record E CALLS BYTES) → Interruptions tries n s t → t.is_full ≡ false → Adds (replicate n (interrupted c)) [] [] s t
    repeated zero s t is free = rw is (nothing s (rw is at free))
    repeated (suc n) s t h free =
        let last = tried h.0 h.2.0 t h.2.1 h.2.2 free in
        rw replicate_last at (joined (replicate n (interrupted c)) (interrupted c ∷ []) [] [] [] [] s h.0 t (repeated n s h.0 h.1 last.0) last)

    once : (answer : Result A Error) (s t : Record E CALLS BYTES) →
        ((u v : Record E CALLS BYTES) → call u answer v → v.is_full ≡ false → Adds (event_of c ∷ []) (received (c ∷ [])) (sent (c ∷ [])) u v) →
        Uninterrupted tries call answer s t → t.is_full ≡ false → (n : ℕ)
        × Adds (replicate n (interrupted c) ++ event_of c ∷ []) (received (c ∷ [])) (sent (c ∷ [])) s t
    once answer s t called h free =
        let last = called h.before t h.answered free in (
          h.count,
          joined (replicate h.count (interrupted c)) (event_of c ∷ []) [] (received (c ∷ [])) [] (sent (c ∷ [])) s h.before t
              (repeated h.count s h.before h.interrupted last.0) last,
        )

  -- what was made and recorded
  recorded : {A : Type 0} (c : Call) (answer : Result A Error) (made : Type 0) (u v : Record E CALLS BYTES) → Records c answer made u v →
      v.is_full ≡ false → Adds (event_of c ∷ []) (received (c ∷ [])) (sent (c ∷ [])) u v
  recorded c (Ok x) made u v h free = h.1
  recorded c (Err e) made u v h free = (h free).1

  -- one call more
  more : (c : Call) (cs : List Call) (s t u : Record E CALLS BYTES) → IsRecordOf cs s t →
      (u.is_full ≡ false → (n : ℕ) × Adds (replicate n (interrupted c) ++ event_of c ∷ []) (received (c ∷ [])) (sent (c ∷ [])) t u) →
      received (c ∷ cs) ≡ received cs ++ received (c ∷ []) → sent (c ∷ cs) ≡ sent cs ++ sent (c ∷ []) → IsRecordOf (c ∷ cs) s u
  more c cs s t u before last got gone free =
      let l = last free in
      let b = before l.1.0 in
      let all = b.0 ++ replicate l.0 (interrupted c) ++ event_of c ∷ [] in
      let is : b.0 ++ (replicate l.0 (interrupted c) ++ event_of c ∷ []) ≡ all = sym (append_assoc b.0 (replicate l.0 (interrupted c)) (event_of c ∷ [])) in
      (all, (b.0, l.0, b.1, refl), rw (got, gone, ← is) (joined b.0 _ (received cs) _ (sent cs) _ s t u b.2 l.1))

  module _ (reads writes : E → List ℕ → Result ℕ Error → E → Type 0) (flushes : E → Result ⊤ Error → E → Type 0) where
    pub records : (cs : List Call) (s t : Record E CALLS BYTES) →
        Calls (RecordsRead reads) (RecordsWrite writes) (RecordsFlush flushes) cs s t → IsRecordOf cs s t
    records [] s t is = λ free. ([], refl, rw is (nothing s (rw is at free)))
    records (Read buffer answer ∷ cs) s t did = more (Read buffer answer) cs s did.0 t (records cs s did.0 did.1)
        (once (Read buffer answer) _ _ (λ u e v h is free. rw is at (h.1 free).1) answer did.0 t
        (λ u v h free. recorded (Read buffer answer) answer _ u v h free) did.2) refl (sym (append-nil (sent cs)))
    records (Write bytes answer ∷ cs) s t did = more (Write bytes answer) cs s did.0 t (records cs s did.0 did.1)
        (once (Write bytes answer) _ _ (λ u e v h is free. rw is at (h free).1) answer did.0 t
        (λ u v h free. recorded (Write bytes answer) answer _ u v h free) did.2) (sym (append-nil (received cs))) refl
    records (Flush answer ∷ cs) s t did = more (Flush answer) cs s did.0 t (records cs s did.0 did.1)
        (once (Flush answer) _ _ (λ u e v h is free. rw is at (h free).1) answer did.0 t
        (λ u v h free. recorded (Flush answer) answer _ u v h free) did.2) (sym (append-nil (received cs))) (sym (append-nil (sent cs)))
