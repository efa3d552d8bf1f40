-- A text after which the length of its piece varies: the byte c5, which begins VEX encodings.
use Rattle.std.proofs.Common.{◌≡◌, ◌≢◌, ℕ, ◌+◌, ◌<◌, ◌≤◌, true, false, List, [], ◌∷◌, ◌++◌, length, take, drop, Result, Ok, Err, refl, sym, ◌∙◌, arith, ap}
use Rattle.std.proofs.lemmas.List.{nil_from_length, take_all}
use Rattle.std.proofs.Common.{length-drop}
use Rattle.std.specs.Prelude.{codes}
use Rattle.x86_decode.specs.declared.instructions.Instruction.{Instruction}
use Rattle.x86_fields.specs.declared.errors.DecodeError.{DecodeError}
use Rattle.x86_fields.specs.declared.errors.DecodeError.TheVariants.{ExhaustedInput}
use Rattle.x86_decode.specs.Answer.{answer_of}
use Rattle.x86_streams.specs.Outside.Stop.{Stop, End, Failed}
use Rattle.x86_streams.specs.Text.{text_of, text_at, image_of, value_of}
use Rattle.x86_cli.specs.DecoderLaws.{DecoderLaws}
use Rattle.x86_objdump.specs.declared.vectors.Vector.TheVariants.{Absent, Cut, Whole}
use Rattle.x86_objdump.specs.Certain.{LengthVaries}
use Rattle.x86_objdump.specs.Listing.{Piece, length_by, piece_length, is_open_by, piece_at, pieces_from, shown_max}
use Rattle.x86_objdump.specs.Vectors.{after_prefixes, vector_of, vector_after}
use Rattle.x86_objdump.proofs.ListingLemmas.{none_left}
use Rattle.x86_objdump.proofs.PieceLemmas.{size, fit, next}

abbrev beginning_of : List ℕ
beginning_of = 0xc5 ∷ []

abbrev whole : List ℕ
whole = 0xc5 ∷ 0xf8 ∷ 0x77 ∷ []

image_is : (text_of shown_max (codes "c5") Failed).image ≡ beginning_of
unfolding text_at image_of value_of
image_is = ap image_of (take_all shown_max (codes "c5") (omega arith))

whole_is : (text_of shown_max (codes "c5" ++ codes "f877") End).image ≡ whole
unfolding text_at image_of value_of
whole_is = ap image_of (take_all shown_max (codes "c5f877") (omega arith))

cut : vector_of beginning_of ≡ Cut
unfolding vector_of after_prefixes
cut = refl

fits : vector_of whole ≡ Whole 3
unfolding vector_of after_prefixes
fits = refl

module _ (laws : DecoderLaws false) where
  -- The whole is no instruction of one byte: the byte alone would be that one.
  other_length : (a b : Result Instruction DecodeError) → answer_of false beginning_of ≡ a → answer_of false whole ≡ b →
      is_open_by a (vector_after a beginning_of) ≡ true → length_by b (vector_after b whole) ≢ length_by a (vector_after a beginning_of)
  other_length (Ok i) b here there opens same = absurd (cc)
  other_length (Err e) (Err d) here there opens same =
      let short : length_by (Err e) (vector_of beginning_of) ≡ 1 = ap (length_by (Err e)) cut in
      let long : length_by (Err d) (vector_of whole) ≡ 3 = ap (length_by (Err d)) fits in
      omega (arith, same, short, long)
  other_length (Err e) (Ok i) here there opens same =
      let one : i.length ≡ 1 = same ∙ ap (length_by (Err e)) cut in
      let alone : answer_of false beginning_of ≡ Ok i = sym (ap (λ n. answer_of false (take n whole)) one) ∙ laws.alone whole i there in
      let both : Ok i ≡ Err e = sym alone ∙ here in
      absurd (cc)

  one_piece : pieces_from false 0 beginning_of ≡ piece_at false 0 beginning_of ∷ []
  one_piece =
      let n : ℕ = size false beginning_of in
      let all = fit false laws beginning_of (omega arith) in
      let none : length (drop n beginning_of) ≡ 0 = omega (arith, all.0, length-drop n beginning_of) in
      next false laws 0 beginning_of (omega arith) ∙ ap (λ ps. piece_at false 0 beginning_of ∷ ps) (none_left false (0 + n) (drop n beginning_of) none)

  no_other : (before after : List Piece) (b p : Piece) → [] ≢ before ++ p ∷ after
  no_other [] after b p e = absurd (cc)
  no_other (c ∷ before) after b p e = absurd (cc)

  pub varies : LengthVaries (codes "c5")
  varies [] after p is closed opens =
      let same : piece_at false 0 beginning_of ∷ [] ≡ p ∷ after = sym one_piece ∙ ap (pieces_from false 0) (sym image_is) ∙ is in
      let first : piece_at false 0 beginning_of ≡ p = cc in
      let q = piece_at false 0 whole in
      let n : ℕ = size false whole in (
        codes "f877",
        End,
        q,
        pieces_from false (0 + n) (drop n whole),
        ap (pieces_from false 0) whole_is ∙ next false laws 0 whole (omega arith),
        λ e. other_length (answer_of false beginning_of) (answer_of false whole) refl refl
            (ap (λ (c : Piece). is_open_by c.answer c.vector) first ∙ opens) (e ∙ ap piece_length (sym first)),
      )
  varies (b ∷ before) after p is closed opens =
      let same : piece_at false 0 beginning_of ∷ [] ≡ b ∷ (before ++ p ∷ after) = sym one_piece ∙ ap (pieces_from false 0) (sym image_is) ∙ is in
      let rest : [] ≡ before ++ p ∷ after = cc in
      absurd (no_other before after b p rest)
