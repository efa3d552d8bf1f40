-- What a run says of a source and of a sink whose bytes are known.
use Rattle.std.proofs.Common.{◌≡◌, ◌≢◌, ℕ, zero, suc, Bool, List, [], ◌++◌, Option, Some, Result, Ok, Err, refl, ap, ◌∙◌, sym, append-nil, arith}
use Rattle.std.proofs.Math.Seq.{take-length}
use Rattle.std.proofs.lemmas.Option.{IfSome_then}
use Rattle.x86_cli.proofs.ListingLemmas.Vocabulary.{IfSome, false, ⊤, Error, Uninterrupted, FlushesOnce, Interruptions, ReadsOnce}
use Rattle.x86_cli.proofs.ListingLemmas.Vocabulary.{WritesOnce, received, stop_of, Stop}
use Rattle.x86_cli.proofs.ListingLemmas.Vocabulary.{End, Failed, text_of, Command, Finished, Status, DecoderLaws, EndsAt, Has, full_listing}
use Rattle.x86_cli.proofs.ListingLemmas.Vocabulary.{max_of, task_of, Listing}
use Rattle.x86_cli.proofs.ListingLemmas.Vocabulary.{Performs, Task}
use Rattle.std.specs.List.{concat}
use Rattle.std.specs.Io.KnownBytes.{Appends, Consumes}
use Rattle.std.proofs.KnownBytes.{Keeps-refl}
use Rattle.std.specs.declared.io.ErrorKind.TheVariants.{Interrupted, Other}
use Rattle.std.specs.IoError.{error_kind}
use Rattle.x86_streams.specs.declared.outside.source.Got.{Got}
use Rattle.x86_streams.specs.declared.outside.sink.SinkFailed.{SinkFailed}
use Rattle.x86_streams.specs.Outside.FaultCounts.{Rose}
use Rattle.x86_streams.specs.declared.outside.joined.Joined.{Joined}
use Rattle.x86_streams.specs.Outside.Joined.{FlushesWriter, ReadsReader, WritesWriter}
use Rattle.x86_streams.specs.Outside.OneByOne.{HoldsNothing, PutsPiece, ReadsByte}
use Rattle.x86_streams.specs.Outside.Sink.{ReportsPut}
use Rattle.x86_streams.specs.Outside.Source.{ReportsGot}
use Rattle.x86_cli.specs.declared.commands.request.Request.TheVariants as request
use Rattle.x86_cli.specs.Commands.Follows.{IsSound, IsExact, HasReadFault, Completes}
use Rattle.x86_cli.specs.Commands.Says.{Streams, streams_of, OfAll, OfTaken, Makes, Says}
use Rattle.x86_cli.proofs.CommandLemmas.Causes.{some_stop, text_done}
use Rattle.x86_cli.proofs.CommandLemmas.Ends.{ends_at}
use Rattle.x86_cli.proofs.CommandLemmas.Known.{Adds, Counts, Sends, Stopped, Takes, has_listing, of_all, of_taken, was_read, was_sent}

other_is_not_interrupted : (e : Error) → error_kind e ≡ Other → error_kind e ≢ Interrupted
other_is_not_interrupted e is interrupted = let never : Other ≡ Interrupted = sym is ∙ interrupted in absurd (cc)

-- a call of a source or of a sink is never interrupted
never_again : {O A : Type 0} (tries : O → Error → O → Type 0) (call : O → Result A Error → O → Type 0) (answer : Result A Error) (o o' : O) →
    ((u : O) (e : Error) (v : O) → tries u e v → error_kind e ≢ Interrupted) → Uninterrupted tries call answer o o' → call o answer o'
never_again tries call answer o o' never h = at h.count h.before h.interrupted h.answered
  where
    at : (n : ℕ) (u : _) → Interruptions tries n o u → call u answer o' → call o answer o'
    at zero u is answered = rw is at answered
    at (suc n) u is answered = absurd (never is.0 is.2.0 u is.2.1 is.2.2)

module _ {S K : Type 0} (gives : S → Got → S → Type 0) (takes : K → List ℕ → Result ⊤ SinkFailed → K → Type 0)
    (left : S → Option (List ℕ)) (faults : S → ℕ) (written : K → Option (List ℕ)) (others : K → ℕ)
    (source : (s : S) (g : Got) (t : S) → gives s g t → ReportsGot g (left s) (left t) (faults s) (faults t))
    (sink : (s : K) (piece : List ℕ) (r : Result ⊤ SinkFailed) (t : K) → takes s piece r t →
    ReportsPut r piece (written s) (written t) (others s) (others t)) where
  one_read : (buffer : List ℕ) (answer : Result ℕ Error) (s t : S) → ReadsOnce (ReadsByte gives) buffer answer s t → ReadsByte gives s buffer answer t
  one_read buffer answer s t = never_again _ _ answer s t (λ u e v h. other_is_not_interrupted e h.1.1)

  one_write : (bytes : List ℕ) (answer : Result ℕ Error) (k l : K) → WritesOnce (PutsPiece takes) bytes answer k l → PutsPiece takes k bytes answer l
  one_write bytes answer k l = never_again _ _ answer k l (λ u e v h. other_is_not_interrupted e h.1)

  read_reports : (buffer : List ℕ) (answer : Result ℕ Error) (s t : S) → ReadsOnce (ReadsByte gives) buffer answer s t →
      Takes Rose (left s) (left t) (faults s) (faults t) answer buffer
  read_reports buffer (Ok zero) s t h = let told = source s Got.End t (one_read buffer (Ok zero) s t h) in grind (arith, told)
  read_reports buffer (Ok (suc n)) s t h = let is = one_read buffer (Ok (suc n)) s t h in let told = source s (Got.Byte is.0) t is.3 in
      grind (arith, told, is.1, is.2)
  read_reports buffer (Err e) s t h = let told = source s Got.Failed t (one_read buffer (Err e) s t h).0 in grind (arith, told)

  write_reports : (bytes : List ℕ) (answer : Result ℕ Error) (k l : K) → WritesOnce (PutsPiece takes) bytes answer k l →
      Adds Rose (written k) (written l) (others k) (others l) answer bytes
  write_reports bytes (Ok n) k l h = let is = one_write bytes (Ok n) k l h in let told = sink k bytes (Ok tt) l is.1 in
      grind (arith, told, is.0, take-length bytes)
  write_reports bytes (Err e) k l h = let is = one_write bytes (Err e) k l h in sink k bytes (Err is.0.0) l is.0.1

  flush_reports : (answer : Result ⊤ Error) (k l : K) → FlushesOnce HoldsNothing answer k l → Sends Rose (written k) (written l) (others k) (others l) answer
  flush_reports answer k l h =
      let is : (answer ≡ Ok tt) × (l ≡ k) = never_again _ _ answer k l (λ u e v h. λ is. cc) h in rw (is.0, is.1) (Keeps-refl (written k), refl)

  abbrev Acts : Task → Finished → Joined S K → Joined S K → Type 0
  Acts = Performs (ReadsReader (ReadsByte gives)) (WritesWriter (PutsPiece takes)) (FlushesWriter HoldsNothing) false

  -- `make`

  module _ (n : ℕ) (outcome : Finished) (s t : Joined S K) (h : Acts (task_of (request.Makes n)) outcome s t) where
    pub made_says : Makes n outcome.status (written s.writer) (written t.writer) (others s.writer) (others t.writer)
    made_says =
        let one = some_stop (stop_of h.calls) in
        let has = has_listing (ReadsByte gives) (PutsPiece takes) HoldsNothing left faults written others Rose read_reports write_reports
        flush_reports false (task_of (request.Makes n)) outcome s t h [] one.0 one.1 in
        let count = (was_sent (ReadsByte gives) (PutsPiece takes) HoldsNothing left faults written others Rose read_reports write_reports
        flush_reports false (task_of (request.Makes n)) outcome s t h outcome.status refl).1 in grind arith

  -- a command

  module _ (c : Command) (outcome : Finished) (s t : Joined S K) (h : Acts (task_of (request.Reads c)) outcome s t) where
    abbrev old : Streams
    old = streams_of left faults written others s

    abbrev new : Streams
    new = streams_of left faults written others t

    read : Consumes (left s.reader) (left t.reader) (received h.calls)
        × Stopped (ReadsByte gives) (PutsPiece takes) HoldsNothing left faults written others Rose read_reports write_reports flush_reports
        (stop_of h.calls) s.reader t.reader
    read = was_read (ReadsByte gives) (PutsPiece takes) HoldsNothing left faults written others Rose read_reports write_reports
        flush_reports false (task_of (request.Reads c)) outcome s t h

    count : Counts (ReadsByte gives) (PutsPiece takes) HoldsNothing left faults written others Rose read_reports write_reports flush_reports
        outcome.status s.writer t.writer
    count = (was_sent (ReadsByte gives) (PutsPiece takes) HoldsNothing left faults written others Rose read_reports write_reports
        flush_reports false (task_of (request.Reads c)) outcome s t h outcome.status refl).1

    -- of all the bytes that the source has, and of those that it returned
    all_of : (stop : Option Stop) → stop_of h.calls ≡ stop → stop ≢ Some Failed → OfAll outcome.status c old new
    all_of = of_all (ReadsByte gives) (PutsPiece takes) HoldsNothing left faults written others Rose read_reports write_reports
        flush_reports false c outcome s t h

    part_of : stop_of h.calls ≡ Some Failed → OfTaken outcome.status c old new
    part_of is =
        let has = of_taken (ReadsByte gives) (PutsPiece takes) HoldsNothing left faults written others Rose read_reports write_reports
        flush_reports false c outcome s t h is in
        record { taken = received h.calls; takes = read.0; holds = has; cause = rw is at read.1 }

    by_status : (status : Status) → outcome.status ≡ status → EndsAt status (stop_of h.calls) → Says status c old new
    by_status Status.Usage same ends = absurd ends
    by_status Status.Done same ends = let told = rw ends at read in
        (rw same at (all_of (Some End) ends (λ e. cc)), told.1.0, rw same at count, grind (arith, told.0, told.1.1))
    by_status Status.ReadFault same ends = (rw same at (part_of ends), rw same at count)
    by_status Status.WriteFault same ends = let all = all_of (stop_of h.calls) refl in let part = part_of in (rw same at count, grind arith)
    by_status status same ends = let told = read.1 in (rw same at (all_of (stop_of h.calls) refl ends), grind arith, rw same at count)

    pub says : Says outcome.status c old new
    says = by_status outcome.status refl (ends_at (ReadsReader (ReadsByte gives)) (WritesWriter (PutsPiece takes))
        (FlushesWriter HoldsNothing) false c outcome s t h)

-- what follows

all_written : (status : Status) (l : Listing) (old new : Option (List ℕ)) → status ≢ Status.WriteFault → Has status l old new →
    (status ≡ l.status) × Appends old new (concat l.lines)
all_written status l old new ne has = let all = has.1.all ne in (all.1, rw (has.1.whole ∙ ap (λ b. has.0 ++ b) all.0 ∙ append-nil has.0) has.2)

module _ (c : Command) (old new : Streams) where
  -- the whole listing, where neither count rose
  writes_all : (result : Status) → Says result c old new →
      IfSome old.left (λ b. IsSound old new → (result ≡ (full_listing c b).status) × Appends old.written new.written (concat (full_listing c b).lines))
  writes_all Status.ReadFault says = let rose = says.0.cause in grind arith
  writes_all status says = grind (arith, all_written status)

  pub exact : (result : Status) → Says result c old new → IsExact result c old new
  exact result says = IfSome_then old.left (writes_all result says) (λ b w sound status. let e = (w sound).0 in (λ h. sym e ∙ h, λ h. e ∙ h))

  pub has_read_fault : (result : Status) → Says result c old new → HasReadFault result c old new
  has_read_fault result says e =
      let h : Says Status.ReadFault c old new = rw e at says in
      (h.0.cause, (h.0.taken, h.0.takes, sym (h.0.holds.1.all (λ e. cc)).1))

  pub completes : ((strict : Bool) → DecoderLaws strict) → (result : Status) → Says result c old new → Completes result c old new
  completes laws result says =
      IfSome_then old.left (writes_all result says)
      (λ b w clean through sound. let h = w sound in (h.0 ∙ text_done laws c (text_of (max_of c) b End) clean through, h.1))
