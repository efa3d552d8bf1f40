-- What a program says where the bytes that its reader has left and those that its writer has are known.
use Rattle.std.proofs.Common.{◌≡◌, ◌≢◌, ℕ, List, [], ◌∷◌, ◌<◌, ◌++◌, length, take, drop, Option, Some, None, Result, Ok, Err, refl, ap, ◌∙◌}
use Rattle.std.proofs.Common.{sym, append_assoc, append-nil, take-append-drop, arith}
use Rattle.x86_cli.proofs.ListingLemmas.Vocabulary.{Bool, IfSome, ⊤, Error, Command, Finished, Status, Call, Read, Write, Flush, Calls}
use Rattle.x86_cli.proofs.ListingLemmas.Vocabulary.{EndsIn, Fails, FlushesOnce}
use Rattle.x86_cli.proofs.ListingLemmas.Vocabulary.{IsFlush, ReadsOnce, WritesOnce, received, not_taken, sent, stop_of, Stop, End, Failed}
use Rattle.x86_cli.proofs.ListingLemmas.Vocabulary.{Text, text_of, Has, HasOfAll}
use Rattle.x86_cli.proofs.ListingLemmas.Vocabulary.{taken_listing, task_of, Listing, ByRule, IsPrinted, Performs, Task}
use Rattle.std.specs.Io.KnownBytes.{Keeps, Consumes, Appends, IsAtEnd}
use Rattle.std.proofs.KnownBytes.{Consumes-nil, Appends-nil, starts_with_rest}
use Rattle.x86_streams.specs.declared.outside.joined.Joined.{Joined}
use Rattle.x86_streams.specs.Outside.Joined.{FlushesWriter, ReadsReader, WritesWriter}
use Rattle.x86_streams.proofs.OutsideLemmas.Calls.{flushes_writer, reads_reader, writes_writer}
use Rattle.x86_cli.specs.declared.commands.request.Request.{Request}
use Rattle.x86_streams.specs.Text.Reading.{MayCome}

not_both : (cs : List Call) → EndsIn Fails cs → EndsIn IsFlush cs → ⊥
not_both cs e f = grind arith

some_left : (a b : Option (List ℕ)) (bytes : List ℕ) (P : List ℕ → Type 0) → Consumes a b bytes → ((xs : List ℕ) → P (bytes ++ xs)) → IfSome a P
some_left a b bytes P c h = grind arith

end_left : (a b : Option (List ℕ)) (bytes : List ℕ) (P : List ℕ → Type 0) → Consumes a b bytes → IfSome a (λ xs. IsAtEnd b) → P bytes → IfSome a P
end_left a b bytes P c none h = grind (arith, append-nil {A = ℕ})

-- bytes of a listing, and the beginning of the next ones
printed_more : (status : Status) (bytes next : List ℕ) (l : Listing) (n : ℕ) → IsPrinted status bytes next l → IsPrinted status (bytes ++ take n next) [] l
printed_more status bytes next l n p =
    let split = starts_with_rest p.unsent next p.next in
    record {
      unsent = drop n next ++ drop (length next) p.unsent;
      whole = grind (arith, p.whole, split, take-append-drop n next, append_assoc {A = ℕ});
      next = refl;
      all = λ ne. let h = p.all ne in grind (arith, h.0, h.1, split);
    }

-- Rises: how a count of faults changes where a call failed
module _ (Rises : ℕ → ℕ → Type 0) where
  -- What a read takes. One that returns no byte comes only at the end, where the bytes are known.
  abbrev pub Takes : Option (List ℕ) → Option (List ℕ) → ℕ → ℕ → Result ℕ Error → List ℕ → Type 0
  Takes old new faults faults' (Ok n) buffer = Consumes old new (take n buffer)
      × (n ≡ 0 → 0 < length buffer → IfSome old (λ xs. IsAtEnd new)) × (faults' ≡ faults)
  Takes old new faults faults' (Err e) buffer = Keeps old new × Rises faults faults'

  -- What a write appends: the bytes that it took, or where it answered an error the beginning of its bytes.
  abbrev pub Adds : Option (List ℕ) → Option (List ℕ) → ℕ → ℕ → Result ℕ Error → List ℕ → Type 0
  Adds old new faults faults' (Ok n) bytes = Appends old new (take n bytes) × (faults' ≡ faults) × (n ≡ 0 → 0 < length bytes → Rises faults faults')
  Adds old new faults faults' (Err e) bytes = ((n : ℕ) × Appends old new (take n bytes)) × Rises faults faults'

  abbrev pub Sends : Option (List ℕ) → Option (List ℕ) → ℕ → ℕ → Result ⊤ Error → Type 0
  Sends old new faults faults' (Ok done) = Keeps old new × (faults' ≡ faults)
  Sends old new faults faults' (Err e) = Keeps old new × Rises faults faults'

module _ {R W : Type 0} (reads : R → List ℕ → Result ℕ Error → R → Type 0) (writes : W → List ℕ → Result ℕ Error → W → Type 0)
    (flushes : W → Result ⊤ Error → W → Type 0)
    (left : R → Option (List ℕ)) (faults : R → ℕ) (written : W → Option (List ℕ)) (others : W → ℕ) (Rises : ℕ → ℕ → Type 0)
    (read : (buffer : List ℕ) (answer : Result ℕ Error) (r r' : R) → ReadsOnce reads buffer answer r r' →
    Takes Rises (left r) (left r') (faults r) (faults r') answer buffer)
    (write : (bytes : List ℕ) (answer : Result ℕ Error) (w w' : W) → WritesOnce writes bytes answer w w' →
    Adds Rises (written w) (written w') (others w) (others w') answer bytes)
    (flush : (answer : Result ⊤ Error) (w w' : W) → FlushesOnce flushes answer w w' → Sends Rises (written w) (written w') (others w) (others w') answer) where
  abbrev Did : List Call → Joined R W → Joined R W → Type 0
  Did = Calls (ReadsReader reads) (WritesWriter writes) (FlushesWriter flushes)

  abbrev Acts : Bool → Task → Finished → Joined R W → Joined R W → Type 0
  Acts = Performs (ReadsReader reads) (WritesWriter writes) (FlushesWriter flushes)

  -- the count and the bytes that are left, by what stopped the reads
  abbrev pub Stopped : Option Stop → R → R → Type 0
  Stopped None r r' = faults r' ≡ faults r
  Stopped (Some End) r r' = (faults r' ≡ faults r) × IfSome (left r) (λ xs. IsAtEnd (left r'))
  Stopped (Some Failed) r r' = Rises (faults r) (faults r')

  -- the writer's count, by the status
  abbrev pub Counts : Status → W → W → Type 0
  Counts Status.WriteFault w w' = Rises (others w) (others w')
  Counts status w w' = others w' ≡ others w

  module _ (known : Text → Listing) (text : List ℕ → Stop → Text) where
    read_all : (cs : List Call) (s s' : Joined R W) → Did cs s s' → ByRule known text cs →
        Consumes (left s.reader) (left s'.reader) (received cs) × Stopped (stop_of cs) s.reader s'.reader
    read_all [] s s' d rule = (rw d (Consumes-nil (left s.reader)), ap (λ s. faults s.reader) d)
    read_all (Read buffer answer ∷ cs) s s' d rule =
        let before = rw rule.2 at (read_all cs s d.0 d.1 rule.0) in
        let told = read buffer answer d.0.reader s'.reader (reads_reader reads buffer answer d.0 s' d.2).0 in
        let some = rule.1 in grind (arith, append_assoc {A = ℕ}, append-nil {A = ℕ})
    read_all (Write bytes answer ∷ cs) s s' d rule = rw (writes_writer writes bytes answer d.0 s' d.2).1 (read_all cs s d.0 d.1 rule.0)
    read_all (Flush answer ∷ cs) s s' d rule = rw (flushes_writer flushes answer d.0 s' d.2).1 (read_all cs s d.0 d.1 rule.0)

    -- by the rule, only the last call may have failed
    sent_all : (cs : List Call) (s s' : Joined R W) → Did cs s s' → ByRule known text cs → (EndsIn Fails cs → ⊥) →
        Appends (written s.writer) (written s'.writer) (sent cs) × (others s'.writer ≡ others s.writer)
    sent_all [] s s' d rule ok = (rw d (Appends-nil (written s.writer)), ap (λ s. others s.writer) d)
    sent_all (Read buffer answer ∷ cs) s s' d rule ok =
        rw (reads_reader reads buffer answer d.0 s' d.2).1 (sent_all cs s d.0 d.1 rule.0 (λ e. not_both cs e rule.3))
    sent_all (Write bytes answer ∷ cs) s s' d rule ok =
        let before = sent_all cs s d.0 d.1 rule.0 rule.1 in
        let told = write bytes answer d.0.writer s'.writer (writes_writer writes bytes answer d.0 s' d.2).0 in grind (arith, append_assoc {A = ℕ})
    sent_all (Flush answer ∷ cs) s s' d rule ok =
        let before = sent_all cs s d.0 d.1 rule.0 rule.1 in
        let told = flush answer d.0.writer s'.writer (flushes_writer flushes answer d.0 s' d.2).0 in grind (arith, append_assoc {A = ℕ})

    sent_failed : (cs : List Call) (s s' : Joined R W) → Did cs s s' → ByRule known text cs → EndsIn Fails cs →
        ((n : ℕ) × Appends (written s.writer) (written s'.writer) (sent cs ++ take n (not_taken cs))) × Rises (others s.writer) (others s'.writer)
    sent_failed (Write bytes (Ok n) ∷ cs) s s' d rule fails =
        let before = sent_all cs s d.0 d.1 rule.0 rule.1 in
        let told = write bytes (Ok n) d.0.writer s'.writer (writes_writer writes bytes (Ok n) d.0 s' d.2).0 in
        ((0, grind (arith, append_assoc {A = ℕ}, append-nil {A = ℕ})), grind (arith, told.2 fails.0 fails.1))
    sent_failed (Write bytes (Err e) ∷ cs) s s' d rule fails =
        let before = sent_all cs s d.0 d.1 rule.0 rule.1 in
        let told = write bytes (Err e) d.0.writer s'.writer (writes_writer writes bytes (Err e) d.0 s' d.2).0 in
        ((told.0.0, grind (arith, append_assoc {A = ℕ}, append-nil {A = ℕ})), grind arith)
    sent_failed (Flush (Err e) ∷ cs) s s' d rule fails =
        let before = sent_all cs s d.0 d.1 rule.0 rule.1 in
        let told = flush (Err e) d.0.writer s'.writer (flushes_writer flushes (Err e) d.0 s' d.2).0 in ((0, grind (arith, append-nil {A = ℕ})), grind arith)
    sent_failed cs s s' d rule fails = absurd fails

  module _ (gathers : Bool) (task : Task) (outcome : Finished) (s s' : Joined R W) (h : Acts gathers task outcome s s') where
    pub was_read : Consumes (left s.reader) (left s'.reader) (received h.calls) × Stopped (stop_of h.calls) s.reader s'.reader
    was_read = read_all task.known (text_of task.max) h.calls s s' h.did h.rule

    pub was_sent : (status : Status) → outcome.status ≡ status →
        ((n : ℕ) × Appends (written s.writer) (written s'.writer) (sent h.calls ++ take n (not_taken h.calls))) × Counts status s.writer s'.writer
    was_sent Status.WriteFault is = sent_failed task.known (text_of task.max) h.calls s s' h.did h.rule (h.failed is)
    was_sent status is =
        let all = sent_all task.known (text_of task.max) h.calls s s' h.did h.rule
        (λ e. not_both h.calls e (h.flushed (λ f. let same : status ≡ Status.WriteFault = sym is ∙ f in cc))) in
        ((0, rw append-nil all.0), all.1)

    -- of the listing of every text that begins with what was read
    pub has_listing : (xs : List ℕ) (stop : Stop) → MayCome (stop_of h.calls) xs stop →
        Has outcome.status (task.lists (text_of task.max (received h.calls ++ xs) stop)) (written s.writer) (written s'.writer)
    has_listing xs stop may =
        let more = (was_sent outcome.status refl).0 in
        (sent h.calls ++ take more.0 (not_taken h.calls), printed_more outcome.status (sent h.calls) (not_taken h.calls) _ more.0 (h.lists xs stop may), more.1)

  -- of the listing of all the bytes that the reader had left, or of those that were read before a fault
  module _ (gathers : Bool) (c : Command) (outcome : Finished) (s s' : Joined R W) (h : Acts gathers (task_of (Request.Reads c)) outcome s s') where
    pub of_all : (stop : Option Stop) → stop_of h.calls ≡ stop → stop ≢ Some Failed →
        HasOfAll outcome.status c (left s.reader) (written s.writer) (written s'.writer)
    of_all None is ne = some_left (left s.reader) (left s'.reader) (received h.calls) _
        (was_read gathers (task_of (Request.Reads c)) outcome s s' h).0 (λ xs. has_listing gathers (task_of (Request.Reads c)) outcome s s' h xs End (rw is tt))
    of_all (Some End) is ne =
        let read = rw is at (was_read gathers (task_of (Request.Reads c)) outcome s s' h) in
        let has = rw append-nil at (has_listing gathers (task_of (Request.Reads c)) outcome s s' h [] End (rw is (refl, refl))) in
        end_left (left s.reader) (left s'.reader) (received h.calls) _ read.0 read.1.1 has
    of_all (Some Failed) is ne = absurd (ne refl)

    pub of_taken : stop_of h.calls ≡ Some Failed → Has outcome.status (taken_listing c (received h.calls)) (written s.writer) (written s'.writer)
    of_taken is = rw append-nil at (has_listing gathers (task_of (Request.Reads c)) outcome s s' h [] Failed (rw is (refl, refl)))
