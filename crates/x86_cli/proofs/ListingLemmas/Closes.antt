-- How a listing is closed: its last line, and the flush.
use Rattle.std.proofs.Common.{◌≡◌, ◌≢◌, ℕ, Bool, false, List, [], ◌∷◌, ◌++◌, Result, Ok, refl, arith, append_assoc, append-nil}
use Rattle.x86_cli.proofs.ListingLemmas.Vocabulary.{⊤, Error, Call, Puts, SendsAll, Finished, Status}
use Rattle.x86_streams.specs.declared.outside.sending.WriteFailed.{WriteFailed}
use Rattle.x86_streams.proofs.OutsideLemmas.Calls.{all_continue_joined, calls_joined, pieces_joined, sent_joined}
use Rattle.x86_streams.specs.Outside.Chain.{NoRead}
use Rattle.x86_cli.specs.Listings.Closes.{Closes}
use Rattle.x86_cli.proofs.ListingLemmas.Live.{follow_of, not_taken_first}

module _ {W : Type 0} (writes : W → List ℕ → Result ℕ Error → W → Type 0) (flushes : W → Result ⊤ Error → W → Type 0) (gathers : Bool)
    (held : List ℕ) (outcome : Finished) where
  -- all was sent
  pub closes_flush : (held' : List ℕ) (w w' : W) → outcome.status ≢ Status.WriteFault → outcome.gone ≡ false →
      (gathers ≡ false → held ≡ []) → SendsAll writes flushes (Ok tt) held held' w w' →
      Closes writes flushes gathers held (record { lines = []; status = outcome.status }) outcome w w'
  closes_flush held' w w' ne gone empty q = record {
    calls = q.0.calls;
    did = q.0.did;
    follow = follow_of {A = ⊤} {E = WriteFailed} (Ok tt) q.0.calls q.0.cause;
    ends = grind (arith, q.1.1);
    gone = grind (arith, q.1.1, gone);
    unsent = [];
    whole = grind (arith, q.0.order, q.1.0);
    next = grind (arith, q.1.1);
    all = λ _. (refl, refl);
    each = λ e. q.2 (empty e);
  }

  -- a line was put before
  pub closes_put : (x held' : List ℕ) (status : Status) (u v w : W) → Puts writes flushes gathers (Ok tt) x held held' u v →
      Closes writes flushes gathers held' (record { lines = []; status = status }) outcome v w →
      Closes writes flushes gathers held (record { lines = x ∷ []; status = status }) outcome u w
  closes_put x held' status u v w p q = after q.calls refl
    where
      after : (cs : List Call) → q.calls ≡ cs → Closes writes flushes gathers held (record { lines = x ∷ []; status = status }) outcome u w
      after [] is = absurd (rw is at q.ends)
      after (c ∷ cs) is = record {
        calls = c ∷ (cs ++ p.sends.calls);
        did = calls_joined writes flushes NoRead (c ∷ cs) p.sends.calls u v w p.sends.did (rw is at q.did);
        follow = all_continue_joined cs p.sends.calls (rw is at q.follow) p.sends.cause;
        ends = rw is at q.ends;
        gone = rw is at q.gone;
        unsent = q.unsent;
        whole = grind (arith, p.sends.order, p.held, rw is at q.whole, sent_joined (c ∷ cs) p.sends.calls, append_assoc {A = ℕ}, append-nil {A = ℕ});
        next = rw (not_taken_first c (cs ++ p.sends.calls) cs) (rw is at q.next);
        all = q.all;
        each = λ e. grind (arith, pieces_joined (c ∷ cs) p.sends.calls, (p.once e).0, rw is at (q.each e));
      }
