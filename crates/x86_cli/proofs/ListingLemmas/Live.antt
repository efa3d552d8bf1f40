-- The state of a listing, between two of its calls.
use Rattle.std.proofs.Common.{◌≡◌, ◌≢◌, ℕ, ◌+◌, List, [], ◌∷◌, ◌++◌, drop, take, Option, None, Result, Ok, Err, refl, arith, ap, ◌∙◌, sym}
use Rattle.std.proofs.Common.{append_assoc, append-nil, take-append-drop}
use Rattle.std.proofs.lemmas.List.Folds.{concat-append}
use Rattle.std.specs.Prelude.{⊤, ◌↔◌, IsTrue, Bool, false}
use Rattle.std.specs.List.{concat}
use Rattle.std.specs.Io.{StartsWith}
use Rattle.std.specs.declared.io.Error.{Error}
use Rattle.x86_streams.specs.declared.outside.sending.WriteFailed.{WriteFailed}
use Rattle.x86_streams.specs.declared.text.reader.Ending.{Ending}
use Rattle.x86_streams.specs.declared.text.reader.Ending.TheVariants.{Fault}
use Rattle.x86_streams.specs.Outside.Chain.{Call, Read, Write, Flush, AllContinue, Calls, Cause, EndsIn, Fails, Follow, IsFlush, IsGone}
use Rattle.x86_streams.specs.Outside.Chain.{Puts, Sends, SendsAll, WriterCalls, pieces, received, not_taken, sent, stop_of, taken_by}
use Rattle.x86_streams.specs.Outside.Stop.{Stop, Failed}
use Rattle.x86_streams.specs.Text.{Text, text_at, text_of}
use Rattle.x86_streams.specs.Text.Beginning.{IsOpenText}
use Rattle.x86_streams.specs.Text.Reader.{TextPosition}
use Rattle.x86_streams.specs.Text.Reading.{MayCome, NeedsMore, with_bytes}
use Rattle.x86_streams.specs.Text.Window.{Fills, LeavesRest, TakesBytes, rest_after, rest_of}
use Rattle.x86_streams.proofs.OutsideLemmas.Calls.{all_continue_joined, calls_joined, ends_joined, pieces_joined, received_joined}
use Rattle.x86_streams.proofs.OutsideLemmas.Calls.{sent_joined, starts_more, stop_joined}
use Rattle.x86_cli.specs.declared.listings.status.Finished.{Finished}
use Rattle.x86_cli.specs.declared.listings.status.Status.TheVariants.{WriteFault}
use Rattle.x86_cli.specs.Listings.Closes.{Closes, IsLastAt}
use Rattle.x86_cli.specs.Listings.Entry.{IsLine}
use Rattle.x86_cli.specs.Listings.Line.{line}
use Rattle.x86_cli.specs.Listings.Listing.{Listing, with_lines, at_end}
use Rattle.x86_cli.specs.Listings.Performs.{ByRule, Performs}

pub with-with : (a b : List (List ℕ)) (l : Listing) → with_lines a (with_lines b l) ≡ with_lines (a ++ b) l
with-with a b l = ap (λ ls. record { lines = ls; status = l.status }) (sym (append_assoc a b l.lines))

pub follow_of : {A E : Type 0} (answer : Result A E) (cs : List Call) → Cause answer cs → Follow cs
follow_of answer cs h = grind arith

pub fails_last : (f : WriteFailed) (cs : List Call) → Cause {A = ⊤} (Err f) cs → EndsIn Fails cs
fails_last f cs h = grind arith

module _ {W : Type 0} (writes : W → List ℕ → Result ℕ Error → W → Type 0) (flushes : W → Result ⊤ Error → W → Type 0) where
  -- the same calls, where new bytes are known by another name
  abbrev pub sends_as : (answer : Result ⊤ WriteFailed) (new new' held held' : List ℕ) (w w' : W) → new ≡ new' →
      Sends writes flushes answer new held held' w w' → Sends writes flushes answer new' held held' w w'
  sends_as answer new new' held held' w w' same s =
      record { calls = s.calls; did = s.did; cause = s.cause; order = s.order ∙ ap (λ b. held ++ b) same; failed = s.failed }

  -- calls of the writer, of which none follows one that failed, are by the rule
  pub by_rule_joined : (known : Text → Listing) (text : List ℕ → Stop → Text) (cs ds : List Call) (w w' : W) →
      WriterCalls writes flushes cs w w' → Follow cs → ByRule known text ds → AllContinue ds →
      ByRule known text (cs ++ ds)
  by_rule_joined known text [] ds w w' did f rule d = rule
  by_rule_joined known text (Read buffer answer ∷ cs) ds w w' did f rule d = absurd did.2.answered
  by_rule_joined known text (Write bytes answer ∷ cs) ds w w' did f rule d = (
    by_rule_joined known text cs ds w did.0 did.1 (follow_of {A = ⊤} {E = WriteFailed} (Ok tt) cs f) rule d,
    λ e.
        (let all = all_continue_joined cs ds f d in grind arith),
  )
  by_rule_joined known text (Flush answer ∷ cs) ds w w' did f rule d = (
    by_rule_joined known text cs ds w did.0 did.1 (follow_of {A = ⊤} {E = WriteFailed} (Ok tt) cs f) rule d,
    λ e.
        (let all = all_continue_joined cs ds f d in grind arith),
  )

pub fresh : (text : TextPosition) (max : ℕ) → text.position ≡ 0 → text.room ≡ max → text.unread ≡ [] → text ≡ record { position = 0; room = max; unread = [] }
fresh text max position room unread = grind (arith, position, room, unread)

pub read_stop : (buffer : List ℕ) (answer : Result ℕ Error) (cs : List Call) → stop_of (Read buffer answer ∷ cs) ≡ stop_of (Read buffer answer ∷ [])
read_stop buffer answer cs = grind arith

pub not_taken_first : (c : Call) (cs ds : List Call) → not_taken (c ∷ cs) ≡ not_taken (c ∷ ds)
not_taken_first c cs ds = grind arith

module _ {O : Type 0} (reads : O → List ℕ → Result ℕ Error → O → Type 0) (writes : O → List ℕ → Result ℕ Error → O → Type 0)
    (flushes : O → Result ⊤ Error → O → Type 0)
    (gathers : Bool) (at knows : ℕ → Text → Listing) (max : ℕ) (o : O) where
  -- at place text: what is listed of a text from a place on; knows place text: what is listed of it whatever follows
  -- The image so far is listed up to a place, and the rest of the text is what the window has.
  pub record Live (image : List ℕ) (n : ℕ) (ended : Option Ending) (w : List ℕ) (text : TextPosition) (held : List ℕ) (o' : O) : Type 0 where
    pub calls : List Call
    pub did : Calls reads writes flushes calls o o'
    pub rule : ByRule (knows 0) (text_of max) calls
    pub unfailed : AllContinue calls
    pub unstopped : ended ≡ None → stop_of calls ≡ None
    pub lines : List (List ℕ)
    pub put : sent calls ++ held ≡ concat lines
    pub each : gathers ≡ false → (held ≡ []) × (pieces calls ≡ lines)
    pub whole : (xs : List ℕ) (stop : Stop) → MayCome (stop_of calls) xs stop →
        text_of max (received calls ++ xs) stop ≡ with_bytes image (rest_after ended w text xs stop)
    pub lists : (xs : List ℕ) (stop : Stop) → MayCome (stop_of calls) xs stop →
        at 0 (text_of max (received calls ++ xs) stop) ≡ with_lines lines (at n (rest_after ended w text xs stop))
    pub decided : ended ≡ None → (xs : List ℕ) (stop : Stop) →
        knows 0 (text_of max (received calls ++ xs) stop) ≡ with_lines lines (knows n (rest_after ended w text xs stop))

  abbrev pub live_new : (text : TextPosition) → text ≡ record { position = 0; room = max; unread = [] } → Live [] 0 None [] text [] o
  live_new text is = record {
    calls = [];
    did = refl;
    rule = tt;
    unfailed = tt;
    unstopped = λ _. refl;
    lines = [];
    put = refl;
    each = λ _. (refl, refl);
    whole = λ xs s _. rw is refl;
    lists = λ xs s _. rw is refl;
    decided = λ _ xs s. rw is refl;
  }

  module _ (image : List ℕ) (n : ℕ) (ended : Option Ending) (w : List ℕ) (text : TextPosition) (held : List ℕ) (o' : O)
      (s : Live image n ended w text held o') where
    -- the same text is left
    abbrev pub live_rest : (ended' : Option Ending) (w' : List ℕ) (text' : TextPosition) → LeavesRest ended w text ended' w' text' →
        (ended' ≡ None → ended ≡ None) → Live image n ended' w' text' held o'
    live_rest ended' w' text' rest was = record {
      calls = s.calls;
      did = s.did;
      rule = s.rule;
      unfailed = s.unfailed;
      unstopped = λ e. s.unstopped (was e);
      lines = s.lines;
      put = s.put;
      each = s.each;
      whole = λ xs stop may. s.whole xs stop may ∙ ap (with_bytes image) (rest xs stop);
      lists = λ xs stop may. s.lists xs stop may ∙ ap (λ t. with_lines s.lines (at n t)) (rest xs stop);
      decided = λ e xs stop. s.decided (was e) xs stop ∙ ap (λ t. with_lines s.lines (knows n t)) (rest xs stop);
    }

    -- bytes that were read came into the window
    pub live_take : (ended' : Option Ending) (w' : List ℕ) (text' : TextPosition) → ended' ≡ ended → TakesBytes ended w text w' text' →
        Live image n ended' w' text' held o'
    live_take ended' w' text' same took = rw same (live_rest ended w' text' took.rest (λ e. e))

    pub split : (len : ℕ) (xs : List ℕ) (stop : Stop) →
        with_bytes image (rest_after ended w text xs stop) ≡ with_bytes (image ++ take len w) (rest_after ended (drop len w) text xs stop)
    split len xs stop = grind (arith, take-append-drop len w, append_assoc {A = ℕ})

    -- lines were put, of bytes that leave the window
    abbrev pub live_put : (ls : List (List ℕ)) (n' len : ℕ) (held' : List ℕ) (o'' : O) →
        ((xs : List ℕ) (stop : Stop) → at n (rest_after ended w text xs stop) ≡ with_lines ls (at n' (rest_after ended (drop len w) text xs stop))) →
        (ended ≡ None → (xs : List ℕ) (stop : Stop) →
        knows n (rest_after ended w text xs stop) ≡ with_lines ls (knows n' (rest_after ended (drop len w) text xs stop))) →
        (q : Sends writes flushes (Ok tt) (concat ls) held held' o' o'') → (gathers ≡ false → (held' ≡ []) × (pieces q.calls ≡ ls)) →
        Live (image ++ take len w) n' ended (drop len w) text held' o''
    live_put ls n' len held' o'' step known q once =
        let stop_is = stop_joined writes flushes q.calls s.calls o' o'' q.did in
        let received_is = received_joined writes flushes q.calls s.calls o' o'' q.did in
        record {
          calls = q.calls ++ s.calls;
          did = calls_joined writes flushes reads q.calls s.calls o o' o'' s.did q.did;
          rule = by_rule_joined writes flushes (knows 0) (text_of max) q.calls s.calls o' o'' q.did
              (follow_of {A = ⊤} {E = WriteFailed} (Ok tt) q.calls q.cause) s.rule s.unfailed;
          unfailed = all_continue_joined q.calls s.calls q.cause s.unfailed;
          unstopped = λ e. stop_is ∙ s.unstopped e;
          lines = s.lines ++ ls;
          put = rw (sent_joined q.calls s.calls, append_assoc, q.order, ← append_assoc, s.put) (sym (concat-append s.lines ls));
          each = λ e. ((once e).0, pieces_joined q.calls s.calls ∙ ap (λ ps. ps ++ pieces q.calls) (s.each e).1 ∙ ap (λ ps. s.lines ++ ps) (once e).1);
          whole = λ xs stop may. rw received_is (s.whole xs stop (rw stop_is at may) ∙ split len xs stop);
          lists = λ xs stop may. rw received_is (s.lists xs stop (rw stop_is at may) ∙ ap (with_lines s.lines) (step xs stop)
              ∙ with-with s.lines ls (at n' (rest_after ended (drop len w) text xs stop)));
          decided = λ e xs stop. rw received_is (s.decided e xs stop ∙ ap (with_lines s.lines) (known e xs stop)
              ∙ with-with s.lines ls (knows n' (rest_after ended (drop len w) text xs stop)));
        }

    pub live_line : (x : List ℕ) (len : ℕ) (held' : List ℕ) (o'' : O) → IsLine at len n x ended w text.position text.room →
        (ended ≡ None → IsLine knows len n x ended w text.position text.room) →
        Puts writes flushes gathers (Ok tt) (line x) held held' o' o'' → Live (image ++ take len w) (n + len) ended (drop len w) text held' o''
    live_line x len held' o'' step known p =
        rw p.held (live_put (line x ∷ []) (n + len) len p.rest o'' (λ xs stop. step (text.unread ++ xs) stop)
        (λ e xs stop. known e (text.unread ++ xs) stop)
        (sends_as writes flushes (Ok tt) (line x) (line x ++ []) held p.rest o' o'' (sym (append-nil (line x))) p.sends)
        (λ e. ((p.once e).1, (p.once e).0)))

    -- ---- ends

    -- The last calls, after which the writer has taken these lines of the rest, or the beginning of them.
    ends_in : (outcome : Finished) (o'' : O) (cs : List Call) (ls : List (List ℕ)) (after : List ℕ → Stop → Listing) (unsent : List ℕ) →
        WriterCalls writes flushes cs o' o'' → Follow cs →
        EndsIn (IsLastAt outcome.status) cs → (IsTrue outcome.gone ↔ EndsIn IsGone cs) →
        ((xs : List ℕ) (stop : Stop) → at n (rest_after ended w text xs stop) ≡ with_lines ls (after xs stop)) →
        held ++ concat ls ≡ sent cs ++ unsent → StartsWith unsent (not_taken cs) →
        (outcome.status ≢ WriteFault → (unsent ≡ []) ×
        ((xs : List ℕ) (stop : Stop) → record { lines = []; status = outcome.status } ≡ after xs stop)) → (gathers ≡ false → pieces cs ≡ ls) →
        Performs reads writes flushes gathers (record { max = max; known = knows 0; lists = at 0 }) outcome o o''
    ends_in outcome o'' [] ls after unsent did follow last gone step part next all once = absurd last
    ends_in outcome o'' (c ∷ cs) ls after unsent did follow last gone step part next all once =
        let stop_is = stop_joined writes flushes (c ∷ cs) s.calls o' o'' did in
        let received_is = received_joined writes flushes (c ∷ cs) s.calls o' o'' did in
        record {
          calls = c ∷ (cs ++ s.calls);
          did = calls_joined writes flushes reads (c ∷ cs) s.calls o o' o'' s.did did;
          rule = by_rule_joined writes flushes (knows 0) (text_of max) (c ∷ cs) s.calls o' o'' did follow s.rule s.unfailed;
          flushed = λ ne. let status = outcome.status in grind arith;
          failed = λ is. rw is at last;
          gone = gone;
          lists = λ xs stop may.
              let more = concat (after xs stop).lines in
              let is = s.lists xs stop (rw stop_is at may) ∙ ap (with_lines s.lines) (step xs stop) in
              rw received_is (record {
                unsent = unsent ++ more;
                whole = rw (
                  is,
                  sent_joined (c ∷ cs) s.calls,
                  concat-append s.lines,
                  concat-append ls,
                  ← s.put,
                  append_assoc,
                  append_assoc,
                  ← append_assoc held,
                  part,
                  append_assoc,
                ) refl;
                next = rw (not_taken_first c (cs ++ s.calls) cs) (starts_more unsent more (not_taken (c ∷ cs)) next);
                all = λ ne. rw (is, (all ne).0, ← (all ne).1 xs stop) (refl, refl);
              });
          each = λ e xs stop may.
              rw (received_is, pieces_joined (c ∷ cs) s.calls, (s.each e).1, once e) (
                (after xs stop).lines,
                ap (λ l. l.lines) (s.lists xs stop (rw stop_is at may) ∙ ap (with_lines s.lines) (step xs stop))
                    ∙ sym (append_assoc s.lines ls (after xs stop).lines),
              );
        }

    pub live_closes : (outcome : Finished) (o'' : O) (last : Listing) →
        ((xs : List ℕ) (stop : Stop) → at n (rest_of ended w text.position text.room xs stop) ≡ last) → Closes writes flushes gathers held last outcome o' o'' →
        Performs reads writes flushes gathers (record { max = max; known = knows 0; lists = at 0 }) outcome o o''
    live_closes outcome o'' last is q =
        ends_in outcome o'' q.calls last.lines (λ xs stop.
        record { lines = []; status = last.status }) q.unsent q.did q.follow q.ends q.gone (λ xs stop. rw append-nil (is (text.unread ++ xs) stop))
        q.whole q.next (λ ne. ((q.all ne).0, λ xs stop. rw (q.all ne).1 refl)) q.each

    -- a call failed, at these lines of what is left
    pub live_fails : (outcome : Finished) (f : WriteFailed) (ls : List (List ℕ)) (after : List ℕ → Stop → Listing) (rest : List ℕ)
        (o'' : O) → outcome.status ≡ WriteFault → outcome.gone ≡ f.gone →
        ((xs : List ℕ) (stop : Stop) → at n (rest_after ended w text xs stop) ≡ with_lines ls (after xs stop)) →
        (q : Sends writes flushes (Err f) (concat ls) held rest o' o'') → (gathers ≡ false → pieces q.calls ≡ ls) →
        Performs reads writes flushes gathers (record { max = max; known = knows 0; lists = at 0 }) outcome o o''
    live_fails outcome f ls after rest o'' status gone step q once =
        ends_in outcome o'' q.calls ls after rest q.did (follow_of {A = ⊤} {E = WriteFailed} (Err f) q.calls q.cause)
        (rw status (fails_last f q.calls q.cause)) (rw gone q.failed.1) step (sym q.order) q.failed.0
        (λ ne. absurd (ne status)) once

    pub live_unput : (outcome : Finished) (f : WriteFailed) (x : List ℕ) (len : ℕ) (held' : List ℕ) (o'' : O) →
        outcome.status ≡ WriteFault → outcome.gone ≡ f.gone → IsLine at len n x ended w text.position text.room →
        Puts writes flushes gathers (Err f) (line x) held held' o' o'' →
        Performs reads writes flushes gathers (record { max = max; known = knows 0; lists = at 0 }) outcome o o''
    live_unput outcome f x len held' o'' status gone step p =
        live_fails outcome f (line x ∷ []) (λ xs stop. at (n + len) (rest_after ended (drop len w) text xs stop)) p.rest o'' status gone
        (λ xs stop. step (text.unread ++ xs) stop)
        (sends_as writes flushes (Err f) (line x) (line x ++ []) held p.rest o' o'' (sym (append-nil (line x))) p.sends) (λ e. (p.once e).0)

    pub live_unsent : (outcome : Finished) (f : WriteFailed) (held' : List ℕ) (o'' : O) → outcome.status ≡ WriteFault →
        outcome.gone ≡ f.gone → SendsAll writes flushes (Err f) held held' o' o'' →
        Performs reads writes flushes gathers (record { max = max; known = knows 0; lists = at 0 }) outcome o o''
    live_unsent outcome f held' o'' status gone q =
        live_fails outcome f [] (λ xs stop. at n (rest_after ended w text xs stop)) held' o'' status gone (λ xs stop. refl) q.0 (λ e. q.2 (s.each e).0)

  -- All that was gathered was sent, and a read was made, where the window decides no more.
  module _ (image : List ℕ) (n : ℕ) (w : List ℕ) (text : TextPosition) (held : List ℕ) (o' : O) (s : Live image n None w text held o') where
    abbrev pub live_fill : (held' : List ℕ) (o'' : O) (ended' : Option Ending) (text' : TextPosition) (o''' : O) →
        SendsAll writes flushes (Ok tt) held held' o' o'' → IsOpenText text.unread text.room →
        ((t : Text) → NeedsMore 1 t → knows n (with_bytes w t) ≡ at_end Fault) → Fills reads w text ended' text' o'' o''' →
        Live image n ended' w text' held' o'''
    live_fill held' o'' ended' text' o''' q half more f =
        let t = live_put image n None w text held o' s [] n 0 held' o'' (λ xs stop. refl) (λ _ xs stop. refl) q.0 (λ e. (q.1.0, q.2 (s.each e).0)) in
        let needs : NeedsMore 1 (text_at text.position text.room (text.unread ++ []) Failed) = rw (append-nil, half.failed text.position) (refl, omega arith) in
        let known = rw append-nil at (t.decided refl [] Failed)
        ∙ ap (with_lines t.lines) (more (text_at text.position text.room (text.unread ++ []) Failed) needs) in
        record {
          calls = Read f.buffer f.answer ∷ t.calls;
          did = (o'', t.did, f.answered);
          rule = (t.rule, f.block, t.unstopped refl, ends_joined IsFlush q.0.calls s.calls q.1.1, (t.lines, known, sym t.put ∙ rw (q.1.0, append-nil) refl));
          unfailed = ((λ e. e), t.unfailed);
          unstopped = λ e. read_stop f.buffer f.answer t.calls ∙ f.stop e;
          lines = t.lines;
          put = t.put;
          each = t.each;
          whole = λ xs stop may. rw append_assoc (rw append-nil at (t.whole (taken_by f.answer f.buffer ++ xs) stop
              (rw (t.unstopped refl) tt)) ∙ ap (with_bytes image) (f.rest xs stop (rw (read_stop f.buffer f.answer t.calls) at may)));
          lists = λ xs stop may. rw append_assoc (t.lists (taken_by f.answer f.buffer ++ xs) stop (rw (t.unstopped refl) tt)
              ∙ ap (λ u. with_lines t.lines (at n u)) (f.rest xs stop (rw (read_stop f.buffer f.answer t.calls) at may)));
          decided = λ e xs stop. rw append_assoc (t.decided refl (taken_by f.answer f.buffer ++ xs) stop
              ∙ ap (λ u. with_lines t.lines (knows n u)) (f.rest xs stop (rw (f.stop e) tt)));
        }
