-- What the status of a listing says of its text.
use Rattle.std.proofs.Common.{◌≡◌, ◌≢◌, ℕ, suc, zero, false, ◌+◌, Bool, List, [], ◌∷◌, ◌++◌, length, Option, Some, None, Ok, Err, refl}
use Rattle.std.proofs.Common.{arith, ap, ◌∙◌, sym, length-append}
use Rattle.std.proofs.Math.Seq.{drop-append_seam}
use Rattle.std.specs.List.{concat}
use Rattle.x86_streams.specs.Text.{text_at}
use Rattle.x86_cli.proofs.ListingLemmas.Vocabulary.{Instruction, Ending, Stop, End, Failed, Command, listing_for, Text, text_of, DecoderLaws}
use Rattle.x86_fields.specs.declared.errors.DecodeError.TheVariants.{ExhaustedInput}
use Rattle.x86_cli.specs.declared.listings.status.Status.TheVariants as outcome
use Rattle.x86_streams.specs.Text.Reading.{MayCome}
use Rattle.x86_cli.specs.Listings.Listing.{at_end, decoded_of, decoded_before_end, listing_from}
use Rattle.x86_cli.specs.Commands.Complete.{AreSentences, CompletesTexts}
use Rattle.x86_cli.proofs.TextLemmas.Decoded.{decoded-stays}
use Rattle.x86_cli.proofs.ListingLemmas.Listing.{listing-whole}

-- a listing that isn't refused ends as its text

module _ (strict : Bool) (text : ℕ → Instruction → List ℕ → List ℕ) (e : Ending) where
  pub listing_end : (n k : ℕ) (xs : List ℕ) → (listing_from strict text n k xs e).status ≢ outcome.Refused →
      (listing_from strict text n k xs e).status ≡ (at_end e).status
  unfolding listing_from decoded_of
  listing_end n k [] = λ _. refl
  listing_end n zero (x ∷ xs) = let h = λ (k : ℕ). listing_end (n + 1) k xs in grind arith
  listing_end n (suc k) (x ∷ xs) = listing_end (n + 1) k xs

pub command_end : (c : Command) (t : Text) → (listing_for c t).status ≢ outcome.Refused → (listing_for c t).status ≡ (at_end t.ending).status
command_end c t = grind (arith, listing_end)

pub command_status : (c : Command) (t : Text) → ((listing_for c t).status ≢ outcome.Usage) × ((listing_for c t).status ≢ outcome.WriteFault)
command_status c t = let h = command_end c t in (grind arith, grind arith)

-- the bytes up to the end are no fault
pub command_read : (c : Command) (max : ℕ) (bytes : List ℕ) → (listing_for c (text_of max bytes End)).status ≢ outcome.ReadFault
unfolding text_at
command_read c max bytes = let h = command_end c (text_of max bytes End) in grind arith

-- a stop that may come after the bytes that were returned
pub some_stop : (stop : Option Stop) → (s : Stop) × MayCome stop [] s
some_stop None = (End, tt)
some_stop (Some given) = (given, (refl, refl))

pub end_stop : (c : Command) (max : ℕ) (bytes : List ℕ) (stop : Option Stop) →
    ((xs : List ℕ) (s : Stop) → MayCome stop xs s → (listing_for c (text_of max (bytes ++ xs) s)).status ≡ outcome.Done) → stop ≡ Some End
unfolding text_at
end_stop c max bytes stop done = let h = command_end c (text_of max (bytes ++ []) Failed) in grind (arith, done [] Failed)

-- sequences of sentences

module _ (strict : Bool) (laws : DecoderLaws strict) (text : ℕ → Instruction → List ℕ → List ℕ) where
  pub sentences_done : (n : ℕ) (ss : List (List ℕ)) → AreSentences strict ss → (listing_from strict text n 0 (concat ss) Ending.Clean).status ≡ outcome.Done
  unfolding listing_from
  sentences_done n [] each = refl
  sentences_done n (s ∷ ss) (is, each) =
      let some = laws.lengths s is.instruction is.answer in
      let first = decoded-stays strict laws s (concat ss) Ending.Clean
      (λ e. let f : Ok is.instruction ≡ Err ExhaustedInput = sym is.answer ∙ e in cc) ∙ ap decoded_before_end is.answer in
      let after = sentences_done (n + length s) ss each in
      grind (
        arith,
        is.whole,
        listing-whole strict text n (s ++ concat ss) Ending.Clean is.instruction first,
        drop-append_seam s (concat ss),
        length-append s (concat ss),
      )

-- the listing of a clean text whose image a command goes through
pub text_done : ((strict : Bool) → DecoderLaws strict) → CompletesTexts
text_done laws (Command.List strict) t clean sequence = rw (clean, sequence.whole) (sentences_done strict (laws strict) _ 0 sequence.sentences sequence.each)
text_done laws Command.Sweep t clean any = rw clean refl
text_done laws Command.Targets t clean any = rw clean refl
text_done laws _ t clean sequence = rw (clean, sequence.whole) (sentences_done false (laws false) _ 0 sequence.sentences sequence.each)
