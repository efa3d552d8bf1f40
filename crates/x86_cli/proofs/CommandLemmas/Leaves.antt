-- What the program leaves of a reader and a writer of std.
use Rattle.std.proofs.Common.{◌≡◌, ℕ, List, [], Option, Some, Result, refl, arith}
use Rattle.std.proofs.Math.Seq.{take-append_seam}
use Rattle.x86_cli.proofs.ListingLemmas.Vocabulary.{true, ⊤, Error, Command, Finished, FlushesOnce, ReadsOnce, WritesOnce, received}
use Rattle.x86_cli.proofs.ListingLemmas.Vocabulary.{stop_of, Failed, made_listing, Has}
use Rattle.x86_cli.proofs.ListingLemmas.Vocabulary.{HasOfTaken, Leaves, task_of, Performs, Task}
use Rattle.x86_streams.specs.declared.outside.joined.Joined.{Joined}
use Rattle.x86_streams.specs.Outside.Joined.{FlushesWriter, ReadsReader, WritesWriter}
use Rattle.std.specs.Io.KnownBytes.{Keeps, ReadConsumes, WriteAppends}
use Rattle.std.proofs.KnownBytes.{Appends-nil, Appends-kept}
use Rattle.x86_cli.specs.declared.commands.request.Request.TheVariants.{Reads, Makes}
use Rattle.x86_streams.proofs.OutsideLemmas.Calls.{read_consumes, write_appends, flush_keeps}
use Rattle.x86_cli.proofs.CommandLemmas.Causes.{some_stop}
use Rattle.x86_cli.proofs.CommandLemmas.Ends.{ends_at}
use Rattle.x86_cli.proofs.CommandLemmas.Known.{Adds, Sends, Takes, has_listing, of_all, of_taken, was_read}

module _ {R W : Type 0} (left : R → Option (List ℕ)) (written : W → Option (List ℕ)) where
  abbrev reads : R → List ℕ → Result ℕ Error → R → Type 0
  reads s buffer r t = ReadConsumes (left s) (left t) r buffer

  abbrev writes : W → List ℕ → Result ℕ Error → W → Type 0
  writes s bytes r t = WriteAppends (written s) (written t) r bytes

  abbrev keeps : W → Result ⊤ Error → W → Type 0
  keeps s r t = Keeps (written s) (written t)

  -- no faults are counted
  abbrev any : ℕ → ℕ → Type 0
  any old new = ⊤

  takes : (buffer : List ℕ) (answer : Result ℕ Error) (r r' : R) → ReadsOnce reads buffer answer r r' → Takes any (left r) (left r') 0 0 answer buffer
  takes buffer answer r r' h = let told = read_consumes left buffer answer r r' h in grind (arith, told)

  adds : (bytes : List ℕ) (answer : Result ℕ Error) (w w' : W) → WritesOnce writes bytes answer w w' → Adds any (written w) (written w') 0 0 answer bytes
  adds bytes answer w w' h = let told = write_appends written bytes answer w w' h in
      grind (arith, Appends-kept (written w) (written w) (written w') [] (Appends-nil (written w)))

  sends : (answer : Result ⊤ Error) (w w' : W) → FlushesOnce keeps answer w w' → Sends any (written w) (written w') 0 0 answer
  sends answer w w' h = let told = flush_keeps written answer w w' h in grind (arith, told)

  abbrev Acts : Task → Finished → Joined R W → Joined R W → Type 0
  Acts = Performs (ReadsReader reads) (WritesWriter writes) (FlushesWriter keeps) true

  pub make_leaves : (n : ℕ) (outcome : Finished) (s s' : Joined R W) → Acts (task_of (Makes n)) outcome s s' →
      Has outcome.status (made_listing n) (written s.writer) (written s'.writer)
  make_leaves n outcome s s' h =
      let one = some_stop (stop_of h.calls) in has_listing reads writes keeps left (λ _. 0) written (λ _. 0) any takes adds sends true
      (task_of (Makes n)) outcome s s' h [] one.0 one.1

  module _ (c : Command) (outcome : Finished) (s s' : Joined R W) (h : Acts (task_of (Reads c)) outcome s s') where
    of_a_part : stop_of h.calls ≡ Some Failed → HasOfTaken outcome.status c (left s.reader) (written s.writer) (written s'.writer)
    of_a_part is =
        let read = was_read reads writes keeps left (λ _. 0) written (λ _. 0) any takes adds sends true (task_of (Reads c)) outcome s s' h in (
          received h.calls,
          grind (arith, read.0, take-append_seam {A = ℕ}),
          of_taken reads writes keeps left (λ _. 0) written (λ _. 0) any takes adds sends true c outcome s s' h is,
        )

    pub leaves : Leaves outcome.status c (left s.reader) (written s.writer) (written s'.writer)
    leaves =
        let ends = ends_at (ReadsReader reads) (WritesWriter writes) (FlushesWriter keeps) true c outcome s s' h in
        let all = of_all reads writes keeps left (λ _. 0) written (λ _. 0) any takes adds sends true c outcome s s' h (stop_of h.calls) refl in
        let part = of_a_part in grind arith
