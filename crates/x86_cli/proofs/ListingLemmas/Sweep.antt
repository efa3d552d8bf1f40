-- The sweep by its cuts.
use Rattle.std.proofs.Common.{Bool, ◌≡◌, ◌≢◌, ℕ, ◌+◌, ◌<◌, ◌≤◌, List, [], ◌∷◌, map, length, drop, Option, Some, None, Result, Err, refl}
use Rattle.std.proofs.Common.{append-nil, arith, ap, ◌∙◌, sym, length-append}
use Rattle.std.proofs.lemmas.List.{drop-append-le}
use Rattle.x86_cli.proofs.ListingLemmas.Vocabulary.{Instruction, DecodeError, answer_of, DecoderLaws, Ending, Stop, text_at, line}
use Rattle.x86_cli.proofs.ListingLemmas.Vocabulary.{with_lines, at_end, rest_of, Text, Listing}
use Rattle.x86_layout.specs.declared.sweeps.cuts.Cut.{Cut}
use Rattle.x86_layout.specs.Sweeps.Cuts.{cut_length, cut_at, cuts_from}
use Rattle.x86_layout.proofs.SweepLemmas.Place.{first_and_rest, none_left}
use Rattle.x86_cli.specs.Listings.Entry.{IsEntry}
use Rattle.x86_cli.specs.Text.Window.{IsAtCut}
use Rattle.x86_cli.specs.declared.text.window.AtRefusal.TheVariants as refusal
use Rattle.x86_cli.specs.declared.listings.listing.Entry.{Entry}
use Rattle.x86_cli.specs.Listings.Sweep.{cut_text, sweep_at, before_open, decided, known_sweep_at}
use Rattle.x86_cli.proofs.ListingLemmas.NextEntry.{no_bytes, few_undecided}
use Rattle.x86_cli.proofs.ListingLemmas.Live.{with-with}

module _ (strict : Bool) where
  -- a cut that more bytes don't change
  pub before_sure : (a : Result Instruction DecodeError) (lines : List (List ℕ)) → a ≢ Err DecodeError.ExhaustedInput → before_open a lines ≡ lines
  before_sure a lines ne = grind arith

  -- what is listed of a text from a place on, by the lines of its cuts
  abbrev at : (List Cut → List (List ℕ)) → ℕ → Text → Listing
  at lines_of n t = with_lines (lines_of (cuts_from strict n t.image)) (at_end t.ending)

  -- One cut of the rest, where the lines of cuts that begin with it are its line and those of the others.
  rest_cut : (lines_of : List Cut → List (List ℕ)) (ended : Option Ending) (n : ℕ) (w : List ℕ) (p r : ℕ) (a : Result Instruction DecodeError) →
      ((c : Cut) (cs : List Cut) → c.answer ≡ a → lines_of (c ∷ cs) ≡ line (cut_text c.place c.answer) ∷ lines_of cs) → 0 < cut_length a →
      cut_length a ≤ length w → (xs : List ℕ) (stop : Stop) →
      answer_of strict (rest_of ended w p r xs stop).image ≡ a →
      at lines_of n (rest_of ended w p r xs stop) ≡ with_lines (line (cut_text n a) ∷ [])
      (at lines_of (n + cut_length a) (rest_of ended (drop (cut_length a) w) p r xs stop))
  rest_cut lines_of ended n w p r a first some fits xs stop answers =
      grind (
        arith,
        first (cut_at strict n (rest_of ended w p r xs stop).image),
        first_and_rest strict (cut_length a) n (rest_of ended w p r xs stop).image,
        drop-append-le (cut_length a) w,
        length-append {A = ℕ},
        with-with (line (cut_text n a) ∷ []),
      )

  -- Where the first cut is open, nothing is known but that a failure is next.
  open_cut : (n : ℕ) (w : List ℕ) → answer_of strict w ≡ Err DecodeError.ExhaustedInput →
      with_lines (decided (cuts_from strict n w)) (at_end Ending.Fault) ≡ at_end Ending.Fault
  open_cut n w h = grind (arith, none_left strict n w, first_and_rest strict 1 n w)

  pub sweep_end : (ended : Option Ending) (n : ℕ) (text w : List ℕ) (p r : ℕ) (e : Ending) → ended ≡ Some e → length w ≡ 0 →
      IsEntry (sweep_at strict) (known_sweep_at strict) (Entry.Ended e) n text ended w p r
  sweep_end ended n text w p r e is none xs stop =
      rw is (ap (λ cs. with_lines (map (λ c. line (cut_text c.place c.answer)) cs) (at_end e)) (none_left strict n w none))

-- what a window that isn't empty shows
module _ (strict : Bool) (laws : DecoderLaws strict) where
  pub answer_shows : (a : Result Instruction DecodeError) (w : List ℕ) → answer_of strict w ≡ a → 0 < length w → (0 < cut_length a) × (cut_length a ≤ length w)
  answer_shows a w h some = let l = laws.lengths w in grind arith

  -- a window whose answer stays, or after which nothing comes
  pub same_answer : (ended : Option Ending) (w : List ℕ) (p r : ℕ) → (ended ≡ None → answer_of strict w ≢ Err DecodeError.ExhaustedInput) →
      (xs : List ℕ) (stop : Stop) →
      answer_of strict (rest_of ended w p r xs stop).image ≡ answer_of strict w
  same_answer None w p r sure xs stop = laws.stay w (text_at p r xs stop).image (sure refl)
  same_answer (Some e) w p r sure xs stop = refl

  pub sweep_line : (ended : Option Ending) (n : ℕ) (w s : List ℕ) (p r : ℕ) (a : Result Instruction DecodeError) →
      (ended ≡ None → a ≢ Err DecodeError.ExhaustedInput) → 0 < length w →
      a ≡ answer_of strict s → s ≡ w → (e : Entry) (text : List ℕ) → e ≡ Entry.Line (cut_length a) → text ≡ cut_text n a →
      IsEntry (sweep_at strict) (known_sweep_at strict) e n text ended w p r
  sweep_line ended n w s p r a sure some answer same e text entry is =
      let here : answer_of strict w ≡ a = sym (answer ∙ ap (answer_of strict) same) in
      let h = answer_shows a w here some in
      let stays : (xs : List ℕ) (stop : Stop) → answer_of strict (rest_of ended w p r xs stop).image ≡ a = λ xs stop.
      same_answer ended w p r (λ o f. sure o (sym here ∙ f)) xs stop ∙ here in
      rw (entry, is) (
        h.0,
        h.1,
        (λ xs stop. rest_cut strict (map (λ c. line (cut_text c.place c.answer))) ended n w p r a (λ c cs is. refl) h.0 h.1 xs stop (stays xs stop)),
        λ o xs stop. rest_cut strict decided ended n w p r a
            (λ c cs is. before_sure strict c.answer _ (λ f. sure o (sym is ∙ f))) h.0 h.1 xs stop (stays xs stop),
      )

  pub some_bytes : (w s : List ℕ) (a : Result Instruction DecodeError) → a ≢ Err DecodeError.ExhaustedInput → a ≡ answer_of strict s → s ≡ w → 0 < length w
  some_bytes [] s a sure answer same = absurd (sure (answer ∙ ap (answer_of strict) same ∙ laws.empty))
  some_bytes (x ∷ w) s a sure answer same = omega arith

  pub some_refused : (w s : List ℕ) (error : DecodeError) (ended : Option Ending) → Err error ≡ answer_of strict s → s ≡ w →
      IsAtCut refusal.Refused error ended w → 0 < length w
  some_refused w s error ended answer same h = grind (arith, some_bytes w s (Err error))

  pub sweep_undecided : (ended : Option Ending) (n : ℕ) (text w s : List ℕ) (p r : ℕ) (a : Result Instruction DecodeError) → ended ≡ None →
      a ≡ Err DecodeError.ExhaustedInput → a ≡ answer_of strict s → s ≡ w →
      IsEntry (sweep_at strict) (known_sweep_at strict) Entry.Undecided n text ended w p r
  sweep_undecided ended n text w s p r a is more answer same =
      let here : answer_of strict w ≡ Err DecodeError.ExhaustedInput = sym (answer ∙ ap (answer_of strict) same) ∙ more in
      (is, few_undecided strict laws w here, λ t needs. rw (no_bytes t.image needs.1, needs.0, append-nil) (open_cut strict n w here))
