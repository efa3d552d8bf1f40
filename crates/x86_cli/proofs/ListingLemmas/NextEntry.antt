-- The next entry of a listing that ends at a refusal.
use Rattle.std.proofs.Common.{◌≡◌, Bool, ℕ, ◌+◌, ◌<◌, ◌≤◌, List, [], ◌∷◌, length, take, drop, Option, None, Err, refl, arith, append-nil, length-append}
use Rattle.std.proofs.lemmas.List.{drop-append-le, take-append-le}
use Rattle.x86_cli.proofs.ListingLemmas.Vocabulary.{Instruction, answer_of, DecodeError, Ending, Stop, Text, line, DecoderLaws, rest_of}
use Rattle.x86_cli.specs.declared.text.window.Decoded.{Decoded}
use Rattle.x86_cli.specs.declared.listings.listing.Entry.TheVariants as entry
use Rattle.x86_cli.specs.Listings.Listing.{Listing, with_lines, decoded_of, listing_at}
use Rattle.x86_cli.specs.Listings.Entry.{IsEntry}
use Rattle.x86_cli.proofs.ListingLemmas.Listing.{listing-whole, listing-refused, listing-ended}

module _ (strict : Bool) (text : ℕ → Instruction → List ℕ → List ℕ) where
  abbrev at : ℕ → Text → Listing
  at = listing_at strict text

  rest_line : (ended : Option Ending) (n : ℕ) (w : List ℕ) (i : Instruction) (p r : ℕ) (xs : List ℕ) (stop : Stop) →
      decoded_of strict (rest_of ended w p r xs stop).image (rest_of ended w p r xs stop).ending ≡ Decoded.Whole i → 0 < i.length → i.length ≤ length w →
      at n (rest_of ended w p r xs stop) ≡ with_lines (line (text n i (take i.length w)) ∷ []) (at (n + i.length) (rest_of ended (drop i.length w) p r xs stop))
  rest_line ended n w i p r xs stop h some le =
      let whole = listing-whole strict text n (rest_of ended w p r xs stop).image (rest_of ended w p r xs stop).ending i h some in
      grind (arith, le, drop-append-le i.length w, take-append-le i.length w, length-append {A = ℕ})

  -- the next entry, by what is decoded
  module _ (ended : Option Ending) (n : ℕ) (w : List ℕ) (p r : ℕ) where
    abbrev pub DecodedIs : Decoded Instruction → Type 0
    DecodedIs beginning = (xs : List ℕ) (stop : Stop) → decoded_of strict (rest_of ended w p r xs stop).image (rest_of ended w p r xs stop).ending ≡ beginning

    pub entry_line : (i : Instruction) → DecodedIs (Decoded.Whole i) → 0 < i.length → i.length ≤ length w → (len : ℕ) (written : List ℕ) →
        len ≡ i.length → written ≡ text n i (take i.length w) →
        IsEntry at at (entry.Line len) n written ended w p r
    entry_line i whole some le len written long is =
        rw (long, is) (
          some,
          le,
          (λ xs stop. rest_line ended n w i p r xs stop (whole xs stop) some le),
          λ _ xs stop.
              rest_line ended n w i p r xs stop (whole xs stop) some le,
        )

    pub entry_refused : (error : DecodeError) (written : List ℕ) → DecodedIs (Decoded.Refused error) → IsEntry at at (entry.Refused error) n written ended w p r
    entry_refused error written refused xs stop = listing-refused strict text n (rest_of ended w p r xs stop).image
        (rest_of ended w p r xs stop).ending error (refused xs stop)

    pub entry_ended : (e : Ending) (written : List ℕ) → DecodedIs (Decoded.Ended e) → IsEntry at at (entry.Ended e) n written ended w p r
    entry_ended e written ends xs stop = listing-ended strict text n (rest_of ended w p r xs stop).image (rest_of ended w p r xs stop).ending e (ends xs stop)

pub no_bytes : (xs : List ℕ) → length xs < 1 → xs ≡ []
no_bytes [] h = refl
no_bytes (x ∷ xs) h = absurd (omega (arith, h))

-- a window that decides no more
module _ (strict : Bool) (laws : DecoderLaws strict) where
  pub few_undecided : (w : List ℕ) → answer_of strict w ≡ Err DecodeError.ExhaustedInput → length w < 15
  few_undecided w h = let enough = laws.enough w in grind arith

  decoded_fault : (w : List ℕ) → answer_of strict w ≡ Err DecodeError.ExhaustedInput → decoded_of strict w Ending.Fault ≡ Decoded.Ended Ending.Fault
  unfolding decoded_of
  decoded_fault w h = grind arith

  -- With a failure next, nothing but that is listed.
  pub entry_undecided : (text : ℕ → Instruction → List ℕ → List ℕ) (ended : Option Ending) (n : ℕ) (written w : List ℕ) (p r : ℕ) →
      ended ≡ None → answer_of strict w ≡ Err DecodeError.ExhaustedInput →
      IsEntry (listing_at strict text) (listing_at strict text) entry.Undecided n written ended w p r
  entry_undecided text ended n written w p r is h = (
    is,
    few_undecided w h,
    λ t needs. rw (no_bytes t.image needs.1, needs.0, append-nil)
        (listing-ended strict text n w Ending.Fault Ending.Fault (decoded_fault w h)),
  )
