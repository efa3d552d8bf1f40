-- The pieces of an image that is listed in parts.
use Rattle.std.proofs.Common.{◌≡◌, ◌≢◌, ℕ, ◌+◌, ◌<◌, ◌≤◌, Bool, false, List, [], ◌∷◌, ◌++◌, length, drop, refl, ap, ◌∙◌, sym, arith, length-append, drop-drop}
use Rattle.std.proofs.lemmas.List.{drop-append-le}
use Rattle.x86_decode.specs.Answer.{answer_of}
use Rattle.x86_cli.specs.DecoderLaws.{DecoderLaws}
use Rattle.x86_objdump.specs.Vectors.{vector_after}
use Rattle.x86_objdump.specs.Listing.{Piece, piece_length, is_open_by, piece_at, pieces_from}
use Rattle.x86_objdump.specs.Pieces.{length_together, AreClosed, PiecesGoOn, PiecesOfMore, PiecesJoin}
use Rattle.x86_objdump.proofs.ListingLemmas.{none_left, first_and_rest, piece_fits, piece_stays}

abbrev pub size : Bool → List ℕ → ℕ
size strict xs = piece_length (piece_at strict 0 xs)

module _ (strict : Bool) (laws : DecoderLaws strict) where
  pub fit : (xs : List ℕ) → 0 < length xs → (0 < size strict xs) × (size strict xs ≤ length xs)
  fit xs some = piece_fits strict laws xs some

  pub some_bytes : (place : ℕ) (xs : List ℕ) (p : Piece) (ps : List Piece) → pieces_from strict place xs ≡ p ∷ ps → 0 < length xs
  some_bytes place [] p ps e = absurd (cc (none_left strict place [] refl, e))
  some_bytes place (x ∷ xs) p ps e = omega arith

  pub next : (place : ℕ) (xs : List ℕ) → 0 < length xs → pieces_from strict place xs ≡ piece_at strict place xs ∷
      pieces_from strict (place + size strict xs) (drop (size strict xs) xs)
  next place xs some = first_and_rest strict (size strict xs) place xs refl (fit xs some).0 some

  -- the first piece is the head of the list, and the rest its tail
  pub divided : (place : ℕ) (xs : List ℕ) (p : Piece) (ps : List Piece) → pieces_from strict place xs ≡ p ∷ ps →
      (piece_at strict place xs ≡ p) × (pieces_from strict (place + size strict xs) (drop (size strict xs) xs) ≡ ps)
  divided place xs p ps e =
      let both : piece_at strict place xs ∷ pieces_from strict (place + size strict xs) (drop (size strict xs) xs) ≡ p ∷ ps =
      sym (next place xs (some_bytes place xs p ps e)) ∙ e in
      (cc, cc)

  moved : (place n m : ℕ) (xs : List ℕ) → pieces_from strict ((place + n) + m) (drop m (drop n xs)) ≡ pieces_from strict (place + (n + m)) (drop (n + m) xs)
  moved place n m xs =
      let further : (place + n) + m ≡ place + (n + m) = omega arith in
      ap (λ p. pieces_from strict p (drop m (drop n xs))) further ∙ ap (pieces_from strict (place + (n + m))) (drop-drop m n xs)

  pub go_on : PiecesGoOn strict
  go_on place xs [] after e = sym e ∙ ap (λ p. pieces_from strict p xs) (omega arith)
  go_on place xs (p ∷ ps) after e =
      let d = divided place xs p (ps ++ after) e in
      let long : size strict xs ≡ piece_length p = ap piece_length d.0 in
      let rest = go_on (place + size strict xs) (drop (size strict xs) xs) ps after d.1 in
      cc (rest, moved place (size strict xs) (length_together ps) xs, long)

  -- pieces that follow others begin where these end
  begins : (place : ℕ) (xs : List ℕ) (before after : List Piece) (p : Piece) → pieces_from strict place xs ≡ before ++ p ∷ after →
      place + length_together before ≡ p.place
  begins place xs before after p e =
      let n : ℕ = length_together before in
      ap (λ p. p.place) (divided (place + n) (drop n xs) p after (sym (go_on place xs before (p ∷ after) e))).0

  pub of_more : PiecesOfMore strict
  of_more place xs ys [] after e final = ap (λ p. pieces_from strict p (xs ++ ys)) (omega arith)
  of_more place xs ys (p ∷ ps) after e final =
      let d = divided place xs p (ps ++ after) e in
      let n : ℕ = size strict xs in
      let some : 0 < length xs = some_bytes place xs p (ps ++ after) e in
      let closed : is_open_by (answer_of strict xs) (vector_after (answer_of strict xs) xs) ≡ false =
      ap (λ (q : Piece). is_open_by q.answer q.vector) d.0 ∙ final.0 in
      let same : piece_at strict place (xs ++ ys) ≡ piece_at strict place xs = piece_stays strict laws place xs ys closed in
      let more : 0 < length (xs ++ ys) = simp length-append (omega (arith, some)) in
      let first : piece_at strict place (xs ++ ys) ≡ p = same ∙ d.0 in
      let long : size strict (xs ++ ys) ≡ n = ap piece_length same in
      let rest : drop n (xs ++ ys) ≡ drop n xs ++ ys = drop-append-le n xs ys (fit xs some).1 in
      let tail = of_more (place + n) (drop n xs) ys ps after d.1 final.1 in
      cc (next place (xs ++ ys) more, first, long, rest, tail, moved place n (length_together ps) (xs ++ ys), d.0)

  pub join : PiecesJoin strict
  join place skip xs ys before after passed rest c d first final other meet =
      let n : ℕ = length_together passed in
      let one = begins place xs before after c first in
      let two = begins (place + skip) (drop skip (xs ++ ys)) passed rest d other in
      let same : skip + n ≡ length_together before = omega (arith, one, two, meet) in
      let left = go_on (place + skip) (drop skip (xs ++ ys)) passed (d ∷ rest) other in
      of_more place xs ys before (c ∷ after) first final
      ∙ ap (λ m. before ++ pieces_from strict (place + m) (drop m (xs ++ ys))) (sym same)
      ∙ ap (λ l. before ++ l) (sym (left ∙ moved place skip n (xs ++ ys)))
