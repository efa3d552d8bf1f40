-- How the reads of a program ended, by its status.
use Rattle.std.proofs.Common.{◌≡◌, ◌≢◌, ℕ, List, [], ◌∷◌, ◌++◌, Option, Some, Result, arith, ap, ◌∙◌, sym, append-nil}
use Rattle.x86_cli.proofs.ListingLemmas.Vocabulary.{Bool, IsTrue, ⊤, Error, Command, Finished, Status, Call, Calls, WriterCalls, Read}
use Rattle.x86_cli.proofs.ListingLemmas.Vocabulary.{Write, Flush, Listing, made_listing, received, stop_of, Stop, End, Failed}
use Rattle.x86_cli.proofs.ListingLemmas.Vocabulary.{Text, text_of, EndsAt, task_of, listing_for, known_for, max_of, taken_listing, ByRule}
use Rattle.x86_cli.proofs.ListingLemmas.Vocabulary.{IsEnd, Performs, Task}
use Rattle.x86_cli.specs.declared.commands.request.Request.{Request}
use Rattle.x86_streams.specs.Text.Reading.{MayCome}
use Rattle.x86_cli.specs.Commands.Command.{goes_past_refusals}
use Rattle.x86_cli.proofs.CommandLemmas.Causes.{some_stop, command_read, command_status, end_stop}

-- Where a read failed, the listing of the bytes read before ends in a read fault.
pub fault_listed : (c : Command) (cs : List Call) → ByRule (known_for c) (text_of (max_of c)) cs → stop_of cs ≡ Some Failed →
    (taken_listing c (received cs)).status ≡ Status.ReadFault
fault_listed c [] rule e = cc
fault_listed c (Read buffer answer ∷ cs) rule e = grind (arith, rule.4.1, append-nil {A = ℕ})
fault_listed c (Write bytes answer ∷ cs) rule e = fault_listed c cs rule.0 e
fault_listed c (Flush answer ∷ cs) rule e = fault_listed c cs rule.0 e

-- of every text that begins with these bytes, the listing ends so
module _ (c : Command) (bytes : List ℕ) (stop : Option Stop) (failed : stop ≡ Some Failed → (taken_listing c bytes).status ≡ Status.ReadFault) where
  run_ends : (status : Status) → ((xs : List ℕ) (s : Stop) → MayCome stop xs s → status ≢ Status.WriteFault →
      (listing_for c (text_of (max_of c) (bytes ++ xs) s)).status ≡ status) → EndsAt status stop
  run_ends Status.Done ends = end_stop c (max_of c) bytes stop (λ xs s may. ends xs s may (λ e. cc))
  run_ends Status.ReadFault ends = let is = ends [] End in let read = command_read c (max_of c) (bytes ++ []) in grind arith
  run_ends status ends = let one = some_stop stop in let is = ends [] one.0 one.1 in let used =
      (command_status c (text_of (max_of c) (bytes ++ []) one.0)).0 in grind (arith, append-nil {A = ℕ})

module _ {O : Type 0} (reads : O → List ℕ → Result ℕ Error → O → Type 0) (writes : O → List ℕ → Result ℕ Error → O → Type 0)
    (flushes : O → Result ⊤ Error → O → Type 0)
    (gathers : Bool) (c : Command) (outcome : Finished) (o o' : O) (h : Performs reads writes flushes gathers (task_of (Request.Reads c)) outcome o o') where
  pub ends_at : EndsAt outcome.status (stop_of h.calls)
  ends_at = run_ends c (received h.calls) (stop_of h.calls) (fault_listed c h.calls h.rule) outcome.status (λ xs s may ne. sym ((h.lists xs s may).all ne).1)

  -- Commands that continue after refusals are never refused.
  pub unrefused : IsTrue (goes_past_refusals c) → outcome.status ≢ Status.Refused
  unrefused goes e =
      let one = some_stop (stop_of h.calls) in
      let ends = sym ((h.lists [] one.0 one.1).all (λ f. let g : Status.Refused ≡ Status.WriteFault = sym e ∙ f in cc)).1 ∙ e in grind arith

-- What ends with a listing's status is no mistake of usage.
pub performs_used : {O : Type 0} (reads : O → List ℕ → Result ℕ Error → O → Type 0) (writes : O → List ℕ → Result ℕ Error → O → Type 0)
    (flushes : O → Result ⊤ Error → O → Type 0) (gathers : Bool) (task : Task) (outcome : Finished) (o o' : O) →
    ((text : Text) → IsEnd (task.lists text).status) → Performs reads writes flushes gathers task outcome o o' → outcome.status ≢ Status.Usage
performs_used reads writes flushes gathers task outcome o o' ends h e =
    let one = some_stop (stop_of h.calls) in
    let same = ((h.lists [] one.0 one.1).all (λ f. let g : Status.Usage ≡ Status.WriteFault = sym e ∙ f in absurd (cc))).1 in
    (ends _).0 (sym same ∙ e)

pub task_ends : (request : Request) (t : Text) → IsEnd ((task_of request).lists t).status
task_ends (Request.Reads c) t = command_status c t
task_ends (Request.Makes n) t = (λ e. cc, λ e. cc)

-- What lists the same whatever is read, and no read fault, reads nothing.
module _ {O : Type 0} (reads writes : O → List ℕ → Result ℕ Error → O → Type 0) (flushes : O → Result ⊤ Error → O → Type 0) where
  unread : (l : Listing) → l.status ≢ Status.ReadFault → (text : List ℕ → Stop → Text) (cs : List Call) (o o' : O) →
      Calls reads writes flushes cs o o' → ByRule (λ t. l) text cs → WriterCalls writes flushes cs o o'
  unread l sound text [] o o' did rule = did
  unread l sound text (Read buffer answer ∷ cs) o o' did rule = absurd (sound (ap (λ l. l.status) rule.4.1))
  unread l sound text (Write bytes answer ∷ cs) o o' did rule = (did.0, unread l sound text cs o did.0 did.1 rule.0, did.2)
  unread l sound text (Flush answer ∷ cs) o o' did rule = (did.0, unread l sound text cs o did.0 did.1 rule.0, did.2)

  pub make_unread : (gathers : Bool) (n : ℕ) (outcome : Finished) (o o' : O) →
      (h : Performs reads writes flushes gathers (task_of (Request.Makes n)) outcome o o') → WriterCalls writes flushes h.calls o o'
  make_unread gathers n outcome o o' h = unread (made_listing n) (λ e. cc) (text_of 0) h.calls o o' h.did h.rule
