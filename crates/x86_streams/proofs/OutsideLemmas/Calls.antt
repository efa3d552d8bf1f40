-- Calls of a reader and a writer, one after the other.
use Rattle.std.proofs.Common.{◌≡◌, ◌<◌, ◌≤◌, ℕ, zero, suc, ◌+◌, List, [], ◌∷◌, ◌++◌, take, drop, IfErr, IsTrue, ◌↔◌, take-append-drop}
use Rattle.std.proofs.Common.{length, length-append, length-take, Option, Result, Ok, Err, refl, ap, ◌∙◌, subst, sym, append_assoc, append-nil, arith}
use Rattle.std.specs.Prelude.{Bool, OnErr, OnOk, false, true, ⊤}
use Rattle.std.specs.declared.io.Error.{Error}
use Rattle.std.specs.declared.io.ErrorKind.TheVariants.{Interrupted}
use Rattle.std.specs.IoError.{error_kind}
use Rattle.std.specs.Io.{StartsWith}
use Rattle.std.proofs.lemmas.List.{append_cancel_right, drop-append-le, take-append-le}
use Rattle.std.specs.Io.KnownBytes.{Keeps, Appends, ReadConsumes, WriteAppends, prepend_known}
use Rattle.std.proofs.Math.Seq.{take-append_seam}
use Rattle.std.proofs.KnownBytes.{Keeps-refl, Keeps-trans, Appends-nil, Appends-kept, prepend_known-nil}
use Rattle.x86_streams.specs.declared.outside.sink.SinkFailed.{SinkFailed}
use Rattle.x86_streams.specs.declared.outside.source.Got.{Got}
use Rattle.x86_streams.specs.Outside.Sink.{CountsPut, ReportsPut}
use Rattle.x86_streams.specs.Outside.Source.{CountsFailed, ReportsGot, ReturnsNext}
use Rattle.x86_streams.specs.declared.outside.joined.Joined.{Joined}
use Rattle.x86_streams.specs.declared.outside.sending.WriteFailed.{WriteFailed}
use Rattle.x86_streams.specs.Outside.Joined.{FlushesWriter, ReadsReader, WritesWriter}
use Rattle.x86_streams.specs.Outside.Chain.{Call, Read, Write, Flush, pieces, received, sent, stop_of, taken_by, not_taken, AllContinue}
use Rattle.x86_streams.specs.Outside.Chain.{Cause, EndsIn, IsGone, Interruptions, Uninterrupted, ReadsOnce, WritesOnce, FlushesOnce, Calls}
use Rattle.x86_streams.specs.Outside.Chain.{NoRead, WriterCalls, Puts, PutsByWrites, Sends, SendsAll}

pub interrupted_more : {O : Type 0} (tries : O → Error → O → Type 0) (n : ℕ) (e : Error) (a b d : O) →
    Interruptions tries n a b → tries b e d → error_kind e ≡ Interrupted → Interruptions tries (n + 1) a d
interrupted_more tries n e a b d before try is = let more : n + 1 ≡ suc n = omega arith in rw more (b, before, (e, try, is))

pub starts_more : (bytes more next : List ℕ) → StartsWith bytes next → StartsWith (bytes ++ more) next
starts_more bytes more next h = let fits = length-take (length next) bytes in grind (arith, ap length h, fits, take-append-le (length next) bytes more)

pub sent_joined : (cs ds : List Call) → sent (cs ++ ds) ≡ sent ds ++ sent cs
sent_joined [] ds = sym (append-nil (sent ds))
sent_joined (c ∷ cs) ds = grind (arith, sent_joined cs ds, append_assoc {A = ℕ})

pub pieces_joined : (cs ds : List Call) → pieces (cs ++ ds) ≡ pieces ds ++ pieces cs
pieces_joined [] ds = sym (append-nil (pieces ds))
pieces_joined (c ∷ cs) ds = grind (arith, pieces_joined cs ds, append_assoc {A = List ℕ})

pub all_continue_joined : (cs ds : List Call) → AllContinue cs → AllContinue ds → AllContinue (cs ++ ds)
all_continue_joined [] ds c d = d
all_continue_joined (x ∷ cs) ds c d = (c.0, all_continue_joined cs ds c.1 d)

pub ends_joined : (Is : Call → Type 0) (cs ds : List Call) → EndsIn Is cs → EndsIn Is (cs ++ ds)
ends_joined Is [] ds e = absurd e
ends_joined Is (c ∷ cs) ds e = e

on_ok_by : (a b c : List ℕ) (answer : Result ⊤ WriteFailed) → b ≡ c → OnOk answer (a ≡ b) → OnOk answer (a ≡ c)
on_ok_by a b c (Ok x) e f = f ∙ e
on_ok_by a b c (Err x) e f = tt

-- What the last call says of a failure.
abbrev Failed : Result ⊤ WriteFailed → List ℕ → List Call → Type 0
Failed answer held cs = Cause answer cs × IfErr answer (λ f. StartsWith held (not_taken cs) × (IsTrue f.gone ↔ EndsIn IsGone cs))

pub failed_joined : (answer : Result ⊤ WriteFailed) (held : List ℕ) (cs ds : List Call) → AllContinue ds →
    Failed answer held cs → Failed answer held (cs ++ ds)
failed_joined answer held cs ds before h = grind (arith, all_continue_joined)

module _ {W : Type 0} (writes : W → List ℕ → Result ℕ Error → W → Type 0) (flushes : W → Result ⊤ Error → W → Type 0) where
  pub received_joined : (cs ds : List Call) (w w' : W) → WriterCalls writes flushes cs w w' → received (cs ++ ds) ≡ received ds
  received_joined [] ds w w' did = refl
  received_joined (Read buffer answer ∷ cs) ds w w' did = absurd did.2.answered
  received_joined (Write bytes answer ∷ cs) ds w w' did = received_joined cs ds w did.0 did.1
  received_joined (Flush answer ∷ cs) ds w w' did = received_joined cs ds w did.0 did.1

  pub stop_joined : (cs ds : List Call) (w w' : W) → WriterCalls writes flushes cs w w' → stop_of (cs ++ ds) ≡ stop_of ds
  stop_joined [] ds w w' did = refl
  stop_joined (Read buffer answer ∷ cs) ds w w' did = absurd did.2.answered
  stop_joined (Write bytes answer ∷ cs) ds w w' did = stop_joined cs ds w did.0 did.1
  stop_joined (Flush answer ∷ cs) ds w w' did = stop_joined cs ds w did.0 did.1

  pub calls_joined : (reads : W → List ℕ → Result ℕ Error → W → Type 0) (cs ds : List Call) (a b d : W) →
      Calls reads writes flushes ds a b → WriterCalls writes flushes cs b d → Calls reads writes flushes (cs ++ ds) a d
  calls_joined reads [] ds a b d before after = subst (λ u. Calls reads writes flushes ds a u) (sym after) before
  calls_joined reads (Read buffer answer ∷ cs) ds a b d before after = absurd after.2.answered
  calls_joined reads (Write bytes answer ∷ cs) ds a b d before after = (after.0, calls_joined reads cs ds a b after.0 before after.1, after.2)
  calls_joined reads (Flush answer ∷ cs) ds a b d before after = (after.0, calls_joined reads cs ds a b after.0 before after.1, after.2)

  -- ---- what a buffer sends

  abbrev pub sends_none : (new held held' : List ℕ) (w : W) → held' ≡ held ++ new → Sends writes flushes (Ok tt) new held held' w w
  sends_none new held held' w is = record { calls = []; did = refl; cause = tt; order = is; failed = tt }

  -- a write after these calls
  abbrev pub sends_write : (answer : Result ⊤ WriteFailed) (x : Result ℕ Error) (new held held' held'' : List ℕ) (a b d : W) →
      Sends writes flushes (Ok tt) new held held' a b → WritesOnce writes held' x b d → taken_by x held' ++ held'' ≡ held' →
      Failed answer held'' (Write held' x ∷ []) → Sends writes flushes answer new held held'' a d
  sends_write answer x new held held' held'' a b d s wrote left failed = record {
    calls = Write held' x ∷ s.calls;
    did = (b, s.did, wrote);
    cause = (failed_joined answer held'' (Write held' x ∷ []) s.calls s.cause failed).0;
    order = rw (append_assoc, left) s.order;
    failed = (failed_joined answer held'' (Write held' x ∷ []) s.calls s.cause failed).1;
  }

  -- what was held was sent, and then a flush was made
  pub sends_all : (answer : Result ⊤ WriteFailed) (held : List ℕ) (a b d : W) → Sends writes flushes (Ok tt) [] held [] a b → (held ≡ [] → ⊥) →
      SendsAll writes flushes answer [] [] b d → SendsAll writes flushes answer held [] a d
  sends_all answer held a b d f some g =
      let ends = g.1 in
      let failed = failed_joined answer [] g.0.calls f.calls f.cause (g.0.cause, g.0.failed) in
      let did = calls_joined NoRead g.0.calls f.calls a b d f.did g.0.did in
      let order : sent (g.0.calls ++ f.calls) ++ [] ≡ held ++ [] = rw sent_joined (grind (arith, f.order, g.0.order, append-nil {A = ℕ})) in (
        record { calls = g.0.calls ++ f.calls; did = did; cause = failed.0; order = order; failed = failed.1 },
        grind (arith, ends_joined),
        λ none. absurd (some none),
      )

  -- what is held, and then a piece
  pub puts_new : (gathers : Bool) (answer : Result ⊤ WriteFailed) (piece held held' new : List ℕ) (w w' : W) → gathers ≡ true →
      Sends writes flushes answer [] held held' w w' → OnOk answer (new ≡ held' ++ piece) → OnErr answer (new ≡ held') → (65536 < length held + length piece) →
      Puts writes flushes gathers answer piece held new w w'
  puts_new gathers answer piece held held' new w w' on s is left full = record {
    rest = held' ++ piece;
    sends = let failed = s.failed in record {
      calls = s.calls;
      did = s.did;
      cause = s.cause;
      order = rw (← append_assoc, s.order, append-nil) refl;
      failed = grind (arith, starts_more);
    };
    held = is;
    kept = grind (arith, left);
    waits = λ on fits. absurd (omega (arith, full, fits));
    once = λ off. let never : true ≡ false = sym on ∙ off in absurd (cc);
  }

  -- the first k bytes are held, and the others are the piece; of those that are held some were sent
  pub puts_before : (gathers : Bool) (answer : Result ⊤ WriteFailed) (bytes new : List ℕ) (k n : ℕ) (w w' : W) → gathers ≡ true →
      Sends writes flushes answer [] (take k bytes) (drop n (take k bytes)) w w' → n ≤ length (take k bytes) → OnOk answer (new ≡ drop n bytes) →
      OnErr answer (new ≡ drop n (take k bytes)) → 65536 < length bytes → Puts writes flushes gathers answer (drop k bytes) (take k bytes) new w w'
  puts_before gathers answer bytes new k n w w' on s le is left full =
      let whole : take k bytes ++ drop k bytes ≡ bytes = take-append-drop k bytes in
      let cut : drop n bytes ≡ drop n (take k bytes) ++ drop k bytes = ap (drop n) (sym whole) ∙ drop-append-le n (take k bytes) (drop k bytes) le in
      let after = on_ok_by new (drop n bytes) (drop n (take k bytes) ++ drop k bytes) answer cut is in
      puts_new gathers answer (drop k bytes) (take k bytes) (drop n (take k bytes)) new w w' on s after left
      (omega (arith, full, ap length whole, length-append (take k bytes) (drop k bytes)))

  -- a piece that fits
  abbrev pub puts_fitting : (gathers : Bool) (piece held new : List ℕ) (w : W) → gathers ≡ true → new ≡ held ++ piece →
      Puts writes flushes gathers (Ok tt) piece held new w w
  puts_fitting gathers piece held new w on is = record {
    rest = new;
    sends = sends_none piece held new w is;
    held = refl;
    kept = tt;
    waits = λ on fits. refl;
    once = λ off. let never : true ≡ false = sym on ∙ off in absurd (cc);
  }

-- ---- calls as they are seen of a part

-- what is seen of one part, which is called, and of another, which is left
module _ {O P Q A : Type 0} (seen : O → P) (other : O → Q) (tries : O → Error → O → Type 0) (call : O → Result A Error → O → Type 0)
    (tries' : P → Error → P → Type 0) (call' : P → Result A Error → P → Type 0)
    (tried : (u : O) (e : Error) (v : O) → tries u e v → tries' (seen u) e (seen v) × (other v ≡ other u))
    (called : (u : O) (a : Result A Error) (v : O) → call u a v → call' (seen u) a (seen v) × (other v ≡ other u)) where
  interruptions_seen : (n : ℕ) (a b : O) → Interruptions tries n a b → Interruptions tries' n (seen a) (seen b) × (other b ≡ other a)
  interruptions_seen zero a b is = (ap seen is, ap other is)
  interruptions_seen (suc n) a b h =
      let before = interruptions_seen n a h.0 h.1 in
      let one = tried h.0 h.2.0 b h.2.1 in ((seen h.0, before.0, (h.2.0, one.0, h.2.2)), one.1 ∙ before.1)

  call_seen : (answer : Result A Error) (o o' : O) → Uninterrupted tries call answer o o' →
      Uninterrupted tries' call' answer (seen o) (seen o') × (other o' ≡ other o)
  call_seen answer o o' h =
      let before = interruptions_seen h.count o h.before h.interrupted in
      let last = called h.before answer o' h.answered in
      (record { count = h.count; before = seen h.before; interrupted = before.0; answered = last.0; final = h.final }, last.1 ∙ before.1)

module _ {R W : Type 0} where
  pub reads_reader : (reads : R → List ℕ → Result ℕ Error → R → Type 0) (buffer : List ℕ) (answer : Result ℕ Error) (s t : Joined R W) →
      ReadsOnce (ReadsReader reads) buffer answer s t →
      ReadsOnce reads buffer answer s.reader t.reader × (t.writer ≡ s.writer)
  reads_reader reads buffer = call_seen (λ s. s.reader) (λ s. s.writer) _ _ _ _ (λ u e v h. ((h.0, h.1.0), h.1.1)) (λ u a v h. h)

  pub writes_writer : (writes : W → List ℕ → Result ℕ Error → W → Type 0) (bytes : List ℕ) (answer : Result ℕ Error) (s t : Joined R W) →
      WritesOnce (WritesWriter writes) bytes answer s t →
      WritesOnce writes bytes answer s.writer t.writer × (t.reader ≡ s.reader)
  writes_writer writes bytes = call_seen (λ s. s.writer) (λ s. s.reader) _ _ _ _ (λ u e v h. h) (λ u a v h. h)

  pub flushes_writer : (flushes : W → Result ⊤ Error → W → Type 0) (answer : Result ⊤ Error) (s t : Joined R W) →
      FlushesOnce (FlushesWriter flushes) answer s t →
      FlushesOnce flushes answer s.writer t.writer × (t.reader ≡ s.reader)
  flushes_writer flushes = call_seen (λ s. s.writer) (λ s. s.reader) _ _ _ _ (λ u e v h. h) (λ u a v h. h)

-- what is seen of a chain of calls, and what all of them leave
module _ {O P Q : Type 0} (seen : O → P) (other : O → Q) (reads writes : O → List ℕ → Result ℕ Error → O → Type 0) (flushes : O → Result ⊤ Error → O → Type 0)
    (reads' writes' : P → List ℕ → Result ℕ Error → P → Type 0) (flushes' : P → Result ⊤ Error → P → Type 0)
    (read : (u : O) (buffer : List ℕ) (answer : Result ℕ Error) (v : O) → reads u buffer answer v → reads' (seen u) buffer answer (seen v)
    × (other v ≡ other u))
    (write : (u : O) (bytes : List ℕ) (answer : Result ℕ Error) (v : O) → writes u bytes answer v → writes' (seen u) bytes answer (seen v)
    × (other v ≡ other u))
    (flush : (u : O) (answer : Result ⊤ Error) (v : O) → flushes u answer v → flushes' (seen u) answer (seen v) × (other v ≡ other u)) where
  pub calls_seen : (cs : List Call) (o o' : O) → Calls reads writes flushes cs o o' → Calls reads' writes' flushes' cs (seen o) (seen o') × (other o' ≡ other o)
  calls_seen [] o o' is = (ap seen is, ap other is)
  calls_seen (Read buffer answer ∷ cs) o o' did =
      let before = calls_seen cs o did.0 did.1 in
      let one = call_seen seen other _ _ _ _ (λ u e v h. let is = read u h.0 (Err e) v h.1 in ((h.0, is.0), is.1))
      (λ u a v h. read u buffer a v h) answer did.0 o' did.2 in
      ((seen did.0, before.0, one.0), one.1 ∙ before.1)
  calls_seen (Write bytes answer ∷ cs) o o' did =
      let before = calls_seen cs o did.0 did.1 in
      let one = call_seen seen other _ _ _ _ (λ u e v h. write u bytes (Err e) v h) (λ u a v h. write u bytes a v h) answer did.0 o' did.2 in
      ((seen did.0, before.0, one.0), one.1 ∙ before.1)
  calls_seen (Flush answer ∷ cs) o o' did =
      let before = calls_seen cs o did.0 did.1 in
      let one = call_seen seen other _ _ _ _ (λ u e v h. flush u (Err e) v h) (λ u a v h. flush u a v h) answer did.0 o' did.2 in
      ((seen did.0, before.0, one.0), one.1 ∙ before.1)

-- Writes and flushes leave the reader.
pub writers_leave_the_reader : {R W : Type 0} (writes : W → List ℕ → Result ℕ Error → W → Type 0)
    (flushes : W → Result ⊤ Error → W → Type 0) (cs : List Call) (s t : Joined R W) →
    WriterCalls (WritesWriter writes) (FlushesWriter flushes) cs s t → t.reader ≡ s.reader
writers_leave_the_reader writes flushes cs s t did =
    (calls_seen (λ s. s) (λ s. s.reader) NoRead (WritesWriter writes) (FlushesWriter flushes) NoRead (WritesWriter writes) (FlushesWriter flushes)
    (λ u b a v h. absurd h) (λ u b a v h. (h, h.1)) (λ u a v h. (h, h.1)) cs s t did).1

-- ---- what std says of its readers and writers

module _ {O : Type 0} (view : O → Option (List ℕ)) (tries : O → Error → O → Type 0)
    (keeps : (u : O) (e : Error) (v : O) → tries u e v → Keeps (view u) (view v)) where
  interruptions_keep : (n : ℕ) (a b : O) → Interruptions tries n a b → Keeps (view a) (view b)
  interruptions_keep zero a b is = rw is (Keeps-refl (view a))
  interruptions_keep (suc n) a b h = Keeps-trans (view a) (view h.0) (view b) (interruptions_keep n a h.0 h.1) (keeps h.0 h.2.0 b h.2.1)

pub read_consumes : {R : Type 0} (left : R → Option (List ℕ)) (buffer : List ℕ) (answer : Result ℕ Error) (r r' : R) →
    ReadsOnce (λ s b a t. ReadConsumes (left s) (left t) a b) buffer answer r r' → ReadConsumes (left r) (left r') answer buffer
read_consumes left buffer answer r r' h =
    let kept = interruptions_keep left _ (λ u e v tried. tried.1) h.count r h.before h.interrupted in
    let answered = h.answered in grind arith

module _ {W : Type 0} (contents : W → Option (List ℕ)) where
  abbrev pub StdWrites : W → List ℕ → Result ℕ Error → W → Type 0
  StdWrites w bytes answer v = WriteAppends (contents w) (contents v) answer bytes

  abbrev pub StdFlushes : W → Result ⊤ Error → W → Type 0
  StdFlushes w answer v = Keeps (contents w) (contents v)

  pub write_appends : (bytes : List ℕ) (answer : Result ℕ Error) (w w' : W) → WritesOnce StdWrites bytes answer w w' →
      WriteAppends (contents w) (contents w') answer bytes
  write_appends bytes answer w w' h =
      let kept = interruptions_keep contents _ (λ u e v tried. tried) h.count w h.before h.interrupted in
      let answered = h.answered in grind arith

  pub flush_keeps : (answer : Result ⊤ Error) (w w' : W) → FlushesOnce StdFlushes answer w w' → Keeps (contents w) (contents w')
  flush_keeps answer w w' h =
      Keeps-trans (contents w) (contents h.before) (contents w')
      (interruptions_keep contents _ (λ u e v tried. tried) h.count w h.before h.interrupted) h.answered

  -- Calls of the writer append what it took.
  calls_append : (cs : List Call) (w w' : W) → WriterCalls StdWrites StdFlushes cs w w' → Appends (contents w) (contents w') (sent cs)
  calls_append [] w w' is = rw is (Appends-nil (contents w))
  calls_append (Read buffer answer ∷ cs) w w' did = absurd did.2.answered
  calls_append (Write bytes answer ∷ cs) w w' did =
      let before = calls_append cs w did.0 did.1 in
      let wrote = write_appends bytes answer did.0 w' did.2 in grind (arith, append_assoc {A = ℕ}, append-nil {A = ℕ})
  calls_append (Flush answer ∷ cs) w w' did = Appends-kept (contents w) (contents did.0) (contents w') (sent cs)
      (calls_append cs w did.0 did.1) (flush_keeps answer did.0 w' did.2)

  -- A put by writes appends what they took.
  pub put_reports : (r : Result ⊤ SinkFailed) (piece : List ℕ) (w w' : W) (old new : ℕ) → PutsByWrites StdWrites StdFlushes r piece w w' →
      CountsPut r old new → ReportsPut r piece (contents w) (contents w') old new
  put_reports (Ok done) piece w w' old new (Ok all, rest, s, none, same) count =
      let whole : sent s.calls ≡ piece = sym (append-nil (sent s.calls)) ∙ (rw none at s.order) ∙ append-nil piece in
      (rw whole at (calls_append s.calls w w' s.did), count)
  put_reports (Ok done) piece w w' old new (Err e, rest, s, none, same) count = let never = same.1 refl in cc
  put_reports (Err e) piece w w' old new (answer, rest, s, none, same) count =
      let part : take (length (sent s.calls)) piece ≡ sent s.calls = rw (← append-nil piece, ← s.order) (take-append_seam (sent s.calls) rest) in
      ((length (sent s.calls), rw part (calls_append s.calls w w' s.did)), count)

-- What is returned of what is held, and else of a read, is the next of the bytes that are left.
module _ {R : Type 0} (left : R → Option (List ℕ)) where
  pub next_reports : (held : List ℕ) (g : Got) (held' : List ℕ) (r r' : R) (old new : ℕ) →
      ReturnsNext (λ s b a t. ReadConsumes (left s) (left t) a b) held g held' r r' → CountsFailed g old new →
      ReportsGot g (prepend_known held (left r)) (prepend_known held' (left r')) old new
  next_reports (b ∷ bs) g held' r r' old new h count = grind arith
  next_reports [] (Got.Byte b) held' r r' old new (buffer, block, Ok n, read, says) count = let told =
      read_consumes left buffer (Ok n) r r' read in grind (arith, prepend_known-nil)
  next_reports [] Got.End held' r r' old new (buffer, block, Ok n, read, says) count = let told = read_consumes left buffer (Ok n) r r' read
      in grind (arith, prepend_known-nil)
  next_reports [] Got.Failed held' r r' old new (buffer, block, Err e, read, says) count = let told =
      read_consumes left buffer (Err e) r r' read in grind (arith, prepend_known-nil)
  next_reports [] (Got.Byte b) held' r r' old new (buffer, block, Err e, read, says) count = absurd says
  next_reports [] Got.End held' r r' old new (buffer, block, Err e, read, says) count = absurd says
  next_reports [] Got.Failed held' r r' old new (buffer, block, Ok n, read, says) count = absurd says
