-- A text that is read to its end before anything is written.
use Rattle.std.proofs.Common.{◌≡◌, ℕ, Bool, List, [], ◌∷◌, ◌++◌, length, take, drop, Option, Some, None, Result, Ok, Err, refl, ap, ◌∙◌}
use Rattle.std.proofs.Common.{arith, append-nil, length-append}
use Rattle.std.proofs.lemmas.List.{drop_all}
use Rattle.std.proofs.Math.Seq.{take-length}
use Rattle.std.specs.Prelude.{⊤}
use Rattle.std.specs.List.{concat}
use Rattle.std.specs.declared.io.Error.{Error}
use Rattle.x86_streams.specs.declared.outside.sending.WriteFailed.{WriteFailed}
use Rattle.x86_streams.specs.declared.text.reader.Ending.{Ending}
use Rattle.x86_streams.specs.Outside.Chain.{Call, Read, Write, Flush, Fails, SendsAll, pieces, received, sent}
use Rattle.x86_streams.specs.Text.{Text, text_of}
use Rattle.x86_streams.specs.Text.Reader.{TextPosition}
use Rattle.x86_streams.specs.Text.Beginning.{IsOpenText}
use Rattle.x86_streams.specs.Text.Window.{Fills, LeavesRest}
use Rattle.x86_streams.proofs.OutsideLemmas.Calls.{calls_joined, ends_joined, failed_joined, pieces_joined}
use Rattle.x86_cli.specs.declared.listings.status.Finished.{Finished}
use Rattle.x86_cli.specs.declared.listings.status.Status.TheVariants.{WriteFault}
use Rattle.x86_cli.specs.declared.listings.targets.WholeText.{WholeText}
use Rattle.x86_cli.specs.Listings.Listing.{Listing, at_end}
use Rattle.x86_cli.specs.Listings.Performs.{Performs}
use Rattle.x86_cli.specs.Listings.Targets.{ReadsWhole}
use Rattle.x86_cli.proofs.ListingLemmas.Live.{Live, by_rule_joined, fails_last, follow_of, live_fill, live_put, live_rest}

-- what is known of a text that isn't read to its end: how it ends
abbrev pub ends_of : ℕ → Text → Listing
ends_of n t = at_end t.ending

-- where no piece was written, no byte was
pub none_sent : (cs : List Call) → pieces cs ≡ [] → sent cs ≡ []
none_sent [] h = refl
none_sent (Read buffer answer ∷ cs) h = none_sent cs h
none_sent (Write bytes answer ∷ cs) h = absurd (omega (arith, ap length h, length-append (pieces cs) (bytes ∷ [])))
none_sent (Flush answer ∷ cs) h = none_sent cs h

module _ {O : Type 0} (reads : O → List ℕ → Result ℕ Error → O → Type 0) (writes : O → List ℕ → Result ℕ Error → O → Type 0)
    (flushes : O → Result ⊤ Error → O → Type 0)
    (gathers : Bool) (max : ℕ) (o : O) where
  abbrev pub Whole : List ℕ → Option Ending → List ℕ → TextPosition → O → Type 0
  Whole image ended w text o' = (s : Live reads writes flushes gathers ends_of ends_of max o image 0 ended w text [] o') × (pieces s.calls ≡ [])

  module _ (image : List ℕ) (ended : Option Ending) (w : List ℕ) (text : TextPosition) (o' : O) (h : Whole image ended w text o') where
    -- the same text is left
    pub whole_left : (ended' : Option Ending) (w' : List ℕ) (text' : TextPosition) → LeavesRest ended w text ended' w' text' →
        (ended' ≡ None → ended ≡ None) → Whole image ended' w' text' o'
    whole_left ended' w' text' rest was = (
      live_rest reads writes flushes gathers ends_of ends_of max o image 0 ended w text [] o' h.0
          ended' w' text' rest was,
      h.1,
    )

    -- the bytes of the window came into the image
    pub whole_taken : (image' w' : List ℕ) → image' ≡ image ++ w → w' ≡ [] → Whole image' ended w' text o'
    whole_taken image' w' is none =
        let taken : Whole (image ++ take (length w) w) ended (drop (length w) w) text o' = (
          live_put reads writes flushes gathers ends_of ends_of max o image 0 ended w text [] o' h.0 [] 0 (length w) [] o'
              (λ xs stop. grind arith) (λ _ xs stop. grind arith)
              (record { calls = []; did = refl; cause = tt; order = refl; failed = tt }) (λ e. (refl, refl)),
          h.1,
        ) in
        rw (is, none) (rw (take-length, drop_all (length w) w (omega arith)) at taken)

    -- a flush failed
    pub whole_unsent : (f : WriteFailed) (held' : List ℕ) (o'' : O) → SendsAll writes flushes (Err f) [] held' o' o'' →
        ReadsWhole reads writes flushes max (Err f) o o''
    whole_unsent f held' o'' q =
        let s = h.0 in
        let cs = q.0.calls in
        let joined = failed_joined (Err f) held' cs s.calls s.unfailed (q.0.cause, q.0.failed) in
        let failed = rw (rw (none_sent cs (q.2 refl)) at q.0.order) at joined.1 in
        let next = failed.0 in
        record {
          calls = cs ++ s.calls;
          did = calls_joined writes flushes reads cs s.calls o o' o'' s.did q.0.did;
          rule = by_rule_joined writes flushes (ends_of 0) (text_of max) cs s.calls o' o'' q.0.did
              (follow_of {A = ⊤} {E = WriteFailed} (Err f) cs q.0.cause) s.rule s.unfailed;
          none = rw (pieces_joined, h.1) (q.2 refl);
          ends = (ends_joined Fails cs s.calls (fails_last f cs q.0.cause), grind arith, failed.1);
        }

  -- the writer was flushed, and a read was made
  pub whole_filled : (image w : List ℕ) (text : TextPosition) (o' : O) → Whole image None w text o' →
      (held' : List ℕ) (o'' : O) (ended' : Option Ending) (text' : TextPosition) (o''' : O) → SendsAll writes flushes (Ok tt) [] held' o' o'' →
      IsOpenText text.unread text.room → Fills reads w text ended' text' o'' o''' → held' ≡ [] → Whole image ended' w text' o'''
  whole_filled image w text o' h held' o'' ended' text' o''' q half f none =
      let q' : SendsAll writes flushes (Ok tt) [] [] o' o'' = rw none at q in (
        live_fill reads writes flushes gathers ends_of ends_of max o image 0 w text [] o' h.0 [] o'' ended' text' o''' q' half (λ t needs. ap at_end needs.0) f,
        pieces_joined q'.0.calls h.0.calls ∙ ap (λ ps. ps ++ pieces q'.0.calls) h.1 ∙ q'.2 refl,
      )

  -- the text has ended
  pub whole_read : (image : List ℕ) (e : Ending) (w : List ℕ) (text : TextPosition) (o' : O) (result : WholeText) →
      Whole image (Some e) w text o' → w ≡ [] → result.image.items ≡ image → result.ending ≡ e →
      ReadsWhole reads writes flushes max (Ok result) o o'
  whole_read image e w text o' result h none same ending = record {
    calls = h.0.calls;
    did = h.0.did;
    rule = h.0.rule;
    none = h.1;
    ends = (
      h.0.unfailed,
      λ xs stop may. rw (same, ending)
          (h.0.whole xs stop may ∙ ap (λ i. record { image = i; ending = e }) (ap (λ b. image ++ b) none ∙ append-nil image)),
    );
  }

  -- the listing of a text that was read
  pub whole_lists : (at : ℕ → Text → Listing) (text : WholeText) (o' : O) → ReadsWhole reads writes flushes max (Ok text) o o' →
      Live reads writes flushes gathers at ends_of max o [] 0 (Some text.ending) text.image.items (record { position = 0; room = 0; unread = [] }) [] o'
  whole_lists at text o' h = record {
    calls = h.calls;
    did = h.did;
    rule = h.rule;
    unfailed = h.ends.0;
    unstopped = λ e. cc;
    lines = [];
    put = append-nil (sent h.calls) ∙ none_sent h.calls h.none;
    each = λ _. (refl, h.none);
    whole = λ xs stop may. h.ends.1 xs stop may;
    lists = λ xs stop may. ap (at 0) (h.ends.1 xs stop may);
    decided = λ e. cc;
  }

  pub whole_fails : (at : ℕ → Text → Listing) (f : WriteFailed) (outcome : Finished) (o' : O) → outcome.status ≡ WriteFault →
      outcome.gone ≡ f.gone → ReadsWhole reads writes flushes max (Err f) o o' →
      Performs reads writes flushes gathers (record { max = max; known = ends_of 0; lists = at 0 }) outcome o o'
  whole_fails at f outcome o' status gone h = record {
    calls = h.calls;
    did = h.did;
    rule = h.rule;
    flushed = λ ne. absurd (ne status);
    failed = λ _. h.ends.0;
    gone = rw gone h.ends.2;
    lists = λ xs stop may.
        let l = at 0 (text_of max (received h.calls ++ xs) stop) in
        record { unsent = concat l.lines; whole = rw (none_sent h.calls h.none) refl; next = rw (h.ends.1) refl; all = λ ne. absurd (ne status) };
    each = λ _ xs stop may. let l = at 0 (text_of max (received h.calls ++ xs) stop) in rw h.none (l.lines, refl);
  }
