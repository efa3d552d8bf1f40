use Rattle.std.proofs.Common.{◌≡◌, ℕ, ◌+◌, ◌<◌, List, [], ◌∷◌, ◌++◌, length, take, get_or, refl, sym, ap, ◌∙◌, arith, append_assoc, append-nil}
use Rattle.std.proofs.lemmas.List.{take_more}
use Rattle.hex.specs.Hex.{encode_lower, encode_with}
use Rattle.x86_streams.proofs.lines.digits.put_hex.Goals as goal

encode_append : (xs : List ℕ) (b : ℕ) → encode_lower xs ++ encode_lower (b ∷ []) ≡ encode_lower (xs ++ b ∷ [])
unfolding encode_with
encode_append [] b = refl
encode_append (x ∷ xs) b = let e = encode_append xs b in cc

-- one byte more
more : (start line part pair whole : List ℕ) (i : ℕ) → i < length part → line ≡ start ++ encode_lower (take i part) →
    pair ≡ encode_lower (get_or part i 0 ∷ []) →
    whole ≡ line ++ pair → whole ≡ start ++ encode_lower (take (i + 1) part)
more start line part pair whole i below e p w =
    let step : encode_lower (take i part) ++ pair ≡ encode_lower (take (i + 1) part) =
    ap (λ t. encode_lower (take i part) ++ t) p ∙ encode_append (take i part) (get_or part i 0) ∙ ap encode_lower (sym (take_more part i 0 below)) in
    w ∙ ap (λ t. t ++ pair) e ∙ rw (← step) (simp append_assoc)

pub loop-byte-init : goal.loop-byte-init
unfolding encode_with
loop-byte-init c = record { text = sym (append-nil (take c.args.at c.args.cells.now)); place = omega arith }

pub loop-byte-preserved : goal.loop-byte-preserved
unfolding encode_with
loop-byte-preserved c = record {
  text = more _ _ _ _ _ c.loop-byte.byte-index c.loop-byte-test.true c.loop-byte.invariant.text refl c.put_hex_pair-at.ensures.text;
  place = omega (arith, c.put_hex_pair-at.ensures.place, c.loop-byte.invariant.place);
}
