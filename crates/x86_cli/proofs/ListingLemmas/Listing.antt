-- The listing by what is decoded first.
use Rattle.std.proofs.Common.{Bool, ◌≡◌, ℕ, suc, zero, ◌+◌, ◌-◌, ◌<◌, ◌≤◌, List, [], ◌∷◌, length, take, drop, refl, arith}
use Rattle.x86_cli.proofs.ListingLemmas.Vocabulary.{Instruction, DecodeError, Ending, line}
use Rattle.x86_cli.specs.declared.text.window.Decoded.TheVariants.{Whole, Refused, Ended}
use Rattle.x86_cli.specs.declared.listings.status.Status.TheVariants as status
use Rattle.x86_text.specs.Lines.{refusal_of}
use Rattle.x86_cli.specs.Listings.Listing.{with_lines, at_end, decoded_of, listing_from, LinesLeaveStatus}

module _ (strict : Bool) (text : ℕ → Instruction → List ℕ → List ℕ) where
  -- bytes that belong to an instruction before

  pub listing-skip : (n k : ℕ) (xs : List ℕ) (e : Ending) → k ≤ length xs → listing_from strict text n k xs e ≡ listing_from strict text (n + k) 0 (drop k xs) e
  unfolding listing_from
  listing-skip n zero xs e le = let same : n + 0 ≡ n = omega arith in rw same refl
  listing-skip n (suc k) [] e le = absurd (omega arith)
  listing-skip n (suc k) (x ∷ xs) e le = grind (arith, listing-skip (n + 1) k xs e)

  pub listing-whole : (n : ℕ) (xs : List ℕ) (e : Ending) (i : Instruction) → decoded_of strict xs e ≡ Whole i → 0 < i.length → i.length ≤ length xs →
      listing_from strict text n 0 xs e ≡ with_lines (line (text n i (take i.length xs)) ∷ []) (listing_from strict text (n + i.length) 0 (drop i.length xs) e)
  unfolding listing_from
  listing-whole n [] e i h some le = absurd (omega arith)
  listing-whole n (x ∷ xs) e i h some le =
      let long : i.length ≡ suc (i.length - 1) = omega arith in
      let skip = listing-skip (n + 1) (i.length - 1) xs e (omega arith) in grind arith

  pub listing-refused : (n : ℕ) (xs : List ℕ) (e : Ending) (error : DecodeError) → decoded_of strict xs e ≡ Refused error →
      listing_from strict text n 0 xs e ≡ record { lines = line (refusal_of n error) ∷ []; status = status.Refused }
  unfolding listing_from decoded_of
  listing-refused n xs e error h = grind arith

  pub listing-ended : (n : ℕ) (xs : List ℕ) (e f : Ending) → decoded_of strict xs e ≡ Ended f → listing_from strict text n 0 xs e ≡ at_end f
  unfolding listing_from decoded_of
  listing-ended n xs e f h = grind arith

-- the same status with other lines

module _ (strict : Bool) (text other : ℕ → Instruction → List ℕ → List ℕ) where
  listing-status : (n k : ℕ) (xs : List ℕ) (e : Ending) → (listing_from strict text n k xs e).status ≡ (listing_from strict other n k xs e).status
  unfolding listing_from
  listing-status n k [] e = refl
  listing-status n zero (x ∷ xs) e =
      let h = λ (k : ℕ). listing-status (n + 1) k xs e in
      grind arith
  listing-status n (suc k) (x ∷ xs) e = listing-status (n + 1) k xs e

pub lines_leave_status : LinesLeaveStatus
lines_leave_status strict text other t = listing-status strict text other 0 0 t.image t.ending
