-- The targets place by place.
use Rattle.std.proofs.Common.{Bool, true, false, Some, Result, Ok, Err, append-nil, ◌≡◌, ℕ, suc, ◌+◌, ◌-◌, ◌<◌, List, [], ◌∷◌, ◌++◌, length, refl, arith, sym}
use Rattle.x86_cli.proofs.ListingLemmas.Vocabulary.{decimal, ⊤, Error, Ending, Puts, Sends, Text, Finished, Performs, with_lines, at_end, line}
use Rattle.x86_layout.specs.Sweeps.Marks.{is_marked}
use Rattle.x86_streams.specs.declared.outside.sending.WriteFailed.{WriteFailed}
use Rattle.x86_streams.specs.Text.Reader.{TextPosition}
use Rattle.x86_cli.specs.declared.listings.status.Status.TheVariants.{WriteFault}
use Rattle.x86_cli.specs.Listings.Targets.{targets_at}
use Rattle.x86_cli.proofs.ListingLemmas.Live.{Live, live_fails, live_put, sends_as}
use Rattle.x86_cli.proofs.ListingLemmas.Whole.{ends_of}

abbrev place_line : ℕ → List ℕ
place_line place = line (decimal place)

module _ (strict : Bool) where
  -- one place further, where it is marked and where it isn't
  place_marked : (n : ℕ) (t : Text) → n < length t.image → is_marked strict t.image n ≡ true →
      targets_at strict n t ≡ with_lines (place_line n ∷ []) (targets_at strict (n + 1) t)
  place_marked n t lt is = let more : length t.image - n ≡ suc (length t.image - (n + 1)) = omega arith in grind arith

  place_unmarked : (n : ℕ) (t : Text) → n < length t.image → is_marked strict t.image n ≡ false →
      targets_at strict n t ≡ with_lines [] (targets_at strict (n + 1) t)
  place_unmarked n t lt is = let more : length t.image - n ≡ suc (length t.image - (n + 1)) = omega arith in grind arith

  -- after the last place
  pub targets-end : (n : ℕ) (image : List ℕ) (e : Ending) → n ≡ length image → targets_at strict n (record { image = image; ending = e }) ≡ at_end e
  targets-end n image e is = grind arith

-- a place of the image, whose line is put where it is marked
module _ {O : Type 0} (reads : O → List ℕ → Result ℕ Error → O → Type 0) (writes : O → List ℕ → Result ℕ Error → O → Type 0)
    (flushes : O → Result ⊤ Error → O → Type 0)
    (gathers strict : Bool) (max : ℕ) (o : O) (image : List ℕ) (e : Ending) (text : TextPosition) (n : ℕ) (inside : n < length image) (held : List ℕ) (o' : O)
    (s : Live reads writes flushes gathers (targets_at strict) ends_of max o [] n (Some e) image text held o') where
  abbrev t : Text
  t = record { image = image; ending = e }

  pub place_put : is_marked strict image n ≡ true → (held' : List ℕ) (o'' : O) → Puts writes flushes gathers (Ok tt) (place_line n) held held' o' o'' →
      Live reads writes flushes gathers (targets_at strict) ends_of max o [] (n + 1) (Some e) image text held' o''
  place_put is held' o'' p =
      rw p.held (live_put reads writes flushes gathers (targets_at strict) ends_of max o [] n (Some e) image text held o' s
      (place_line n ∷ []) (n + 1) 0 p.rest o'' (λ xs stop. place_marked strict n t inside is) (λ some. cc)
      (sends_as writes flushes (Ok tt) (place_line n) (place_line n ++ []) held p.rest o' o'' (sym (append-nil (place_line n))) p.sends)
      (λ e. ((p.once e).1, (p.once e).0)))

  pub place_passed : is_marked strict image n ≡ false →
      Live reads writes flushes gathers (targets_at strict) ends_of max o [] (n + 1) (Some e) image text held o'
  place_passed is =
      let none : Sends writes flushes (Ok tt) [] held held o' o' = record { calls = []; did = refl; cause = tt; order = sym (append-nil held); failed = tt } in
      live_put reads writes flushes gathers (targets_at strict) ends_of max o [] n (Some e) image text held o' s [] (n + 1) 0 held o'
      (λ xs stop. place_unmarked strict n t inside is) (λ some. cc) none (λ e. ((s.each e).0, refl))

  pub place_failed : is_marked strict image n ≡ true → (f : WriteFailed) (outcome : Finished) (held' : List ℕ) (o'' : O) →
      outcome.status ≡ WriteFault → outcome.gone ≡ f.gone →
      Puts writes flushes gathers (Err f) (place_line n) held held' o' o'' →
      Performs reads writes flushes gathers (record { max = max; known = ends_of 0; lists = targets_at strict 0 }) outcome o o''
  place_failed is f outcome held' o'' status gone p =
      live_fails reads writes flushes gathers (targets_at strict) ends_of max o [] n (Some e) image text held o' s outcome f
      (place_line n ∷ []) (λ xs stop. targets_at strict (n + 1) t) p.rest o'' status gone (λ xs stop. place_marked strict n t inside is)
      (sends_as writes flushes (Err f) (place_line n) (place_line n ++ []) held p.rest o' o'' (sym (append-nil (place_line n))) p.sends) (λ e. (p.once e).0)
