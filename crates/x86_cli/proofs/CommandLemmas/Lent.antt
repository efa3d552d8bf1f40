-- Runs over a source and a sink that are lent.
use Rattle.std.proofs.Common.{◌≡◌, ℕ, zero, suc, List, Result, Ok, Err, ap, MutBor}
use Rattle.x86_cli.proofs.ListingLemmas.Vocabulary.{⊤, Error, Status}
use Rattle.x86_streams.specs.declared.outside.joined.Joined.{Joined}
use Rattle.x86_streams.specs.declared.outside.source.Got.{Got}
use Rattle.x86_streams.specs.declared.outside.sink.SinkFailed.{SinkFailed}
use Rattle.x86_streams.specs.Outside.Joined.{FlushesWriter, ReadsReader, WritesWriter}
use Rattle.x86_streams.specs.Outside.OneByOne.{HoldsNothing, PutsPiece, ReadsByte}
use Rattle.x86_streams.proofs.OutsideLemmas.Calls.{calls_seen}
use Rattle.x86_cli.specs.declared.commands.request.Request.{Request}
use Rattle.x86_cli.specs.Commands.Request.{Runs}

module _ {S K : Type 0} (gives : S → Got → S → Type 0) (takes : K → List ℕ → Result ⊤ SinkFailed → K → Type 0) where
  abbrev pub Lent : Type 0
  Lent = Joined (MutBor S) (MutBor K)

  abbrev pub gives_lent : MutBor S → Got → MutBor S → Type 0
  gives_lent s g t = gives s.now g t.now × (t.ghost_name ≡ s.ghost_name)

  abbrev pub takes_lent : MutBor K → List ℕ → Result ⊤ SinkFailed → MutBor K → Type 0
  takes_lent k piece r l = takes k.now piece r l.now × (l.ghost_name ≡ k.ghost_name)

  abbrev pub seen : Lent → Joined S K
  seen s = record { reader = s.reader.now; writer = s.writer.now }

  abbrev pub SameLoans : Lent → Lent → Type 0
  SameLoans s t = (t.reader.ghost_name ≡ s.reader.ghost_name) × (t.writer.ghost_name ≡ s.writer.ghost_name)

  read : (u : Lent) (buffer : List ℕ) (answer : Result ℕ Error) (v : Lent) → ReadsReader (ReadsByte gives_lent) u buffer answer v →
      ReadsReader (ReadsByte gives) (seen u) buffer answer (seen v) × SameLoans u v
  read u buffer (Ok zero) v h = ((h.0.0, ap (λ w. w.now) h.1), (h.0.1, ap (λ w. w.ghost_name) h.1))
  read u buffer (Ok (suc n)) v h = (((h.0.0, h.0.1, h.0.2, h.0.3.0), ap (λ w. w.now) h.1), (h.0.3.1, ap (λ w. w.ghost_name) h.1))
  read u buffer (Err e) v h = (((h.0.0.0, h.0.1), ap (λ w. w.now) h.1), (h.0.0.1, ap (λ w. w.ghost_name) h.1))

  write : (u : Lent) (bytes : List ℕ) (answer : Result ℕ Error) (v : Lent) → WritesWriter (PutsPiece takes_lent) u bytes answer v →
      WritesWriter (PutsPiece takes) (seen u) bytes answer (seen v) × SameLoans u v
  write u bytes (Ok n) v h = (((h.0.0, h.0.1.0), ap (λ r. r.now) h.1), (ap (λ r. r.ghost_name) h.1, h.0.1.1))
  write u bytes (Err e) v h = ((((h.0.0.0, h.0.0.1.0), h.0.1), ap (λ r. r.now) h.1), (ap (λ r. r.ghost_name) h.1, h.0.0.1.1))

  flush : (u : Lent) (answer : Result ⊤ Error) (v : Lent) → FlushesWriter HoldsNothing u answer v →
      FlushesWriter HoldsNothing (seen u) answer (seen v) × SameLoans u v
  flush u answer v h = (((h.0.0, ap (λ w. w.now) h.0.1), ap (λ r. r.now) h.1), (ap (λ r. r.ghost_name) h.1, ap (λ w. w.ghost_name) h.0.1))

  pub runs_lent : (request : Request) (status : Status) (s t : Lent) → Runs gives_lent takes_lent request status s t →
      Runs gives takes request status (seen s) (seen t) × SameLoans s t
  runs_lent request status s t h =
      let calls = h.1.calls in
      let by_reader = calls_seen seen (λ s. s.reader.ghost_name) _ _ _ (ReadsReader (ReadsByte gives)) (WritesWriter (PutsPiece takes))
      (FlushesWriter HoldsNothing)
      (λ u b a v h. let r = read u b a v h in (r.0, r.1.0)) (λ u b a v h. let r = write u b a v h in (r.0, r.1.0))
      (λ u a v h. let r = flush u a v h in (r.0, r.1.0)) calls s t h.1.did in
      let by_writer = calls_seen seen (λ s. s.writer.ghost_name) _ _ _ (ReadsReader (ReadsByte gives)) (WritesWriter (PutsPiece takes))
      (FlushesWriter HoldsNothing)
      (λ u b a v h. let r = read u b a v h in (r.0, r.1.1)) (λ u b a v h. let r = write u b a v h in (r.0, r.1.1))
      (λ u a v h. let r = flush u a v h in (r.0, r.1.1)) calls s t h.1.did in (
        (
          h.0,
          record {
            calls = calls;
            did = by_reader.0;
            rule = h.1.rule;
            flushed = h.1.flushed;
            failed = h.1.failed;
            gone = h.1.gone;
            lists = h.1.lists;
            each = h.1.each;
          },
        ),
        (by_reader.1, by_writer.1),
      )
