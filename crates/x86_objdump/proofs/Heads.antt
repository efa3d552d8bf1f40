-- A text that is written in its parts: a head, blanks, operands and a remark.
use Rattle.std.proofs.Common.{◌≡◌, ◌≢◌, ◌≤◌, ◌+◌, ◌-◌, ℕ, List, [], ◌∷◌, ◌++◌, length, take, drop, refl, ap, ◌∙◌, sym, arith, length-append}
use Rattle.std.proofs.Common.{append_assoc, append-nil}
use Rattle.std.specs.Prelude.{replicate}
use Rattle.std.proofs.lemmas.List.{length-take-le, take-take, take_at, nil_from_length}
use Rattle.x86_objdump.specs.Text.Instructions.{in_column, text_with}

-- how far a text goes
grown : (old new text : List ℕ) (at end : ℕ) → at ≤ length old → end ≤ length new → take end new ≡ take at old ++ text → end ≡ at + length text
grown old new text at end before after is =
    omega (arith, length-take-le end new after, length-take-le at old before, ap length is, length-append (take at old) text)

-- a text ends where it begins or after it
pub goes_on : (old new text : List ℕ) (at end : ℕ) → at ≤ length old → end ≤ length new → take end new ≡ take at old ++ text → at ≤ end
goes_on old new text at end before after is = omega (arith, grown old new text at end before after is)

module _ (old h b e head_is ops remark : List ℕ) (at head written blank end : ℕ) (at_in : at ≤ length old) (head_in : head ≤ length h)
    (blank_in : blank ≤ length b) (end_in : end ≤ length e)
    (head_text : take head h ≡ take at old ++ head_is) (written_is : written ≡ head - at)
    (blank_text : take blank b ≡ take head h ++ replicate (6 - written + 1) 32)
    (blank_at : blank ≡ head + (6 - written + 1)) (ops_text : take end e ≡ take blank b ++ ops) where
  width : written ≡ length head_is
  width = omega (arith, written_is, grown old h head_is at head at_in head_in head_text)

  column : take blank b ≡ take at old ++ in_column head_is
  column =
      blank_text ∙ ap (λ xs. xs ++ replicate (6 - written + 1) 32) head_text ∙ append_assoc (take at old) head_is (replicate (6 - written + 1) 32)
      ∙ ap (λ n. take at old ++ (head_is ++ replicate (6 - n + 1) 32)) width

  -- nothing after the blanks: the head alone
  pub alone : end ≡ blank → take head e ≡ take at old ++ text_with head_is ops remark
  alone same =
      let none : ops ≡ [] = nil_from_length ops (omega (arith, same, grown b e ops blank end blank_in end_in ops_text)) in
      let kept : take end e ≡ take head h ++ replicate (6 - written + 1) 32 = ops_text ∙ ap (λ xs. take blank b ++ xs) none
      ∙ append-nil (take blank b) ∙ blank_text in
      let short : length (take head h) ≡ head = length-take-le head h head_in in
      let whole : take head (take end e) ≡ take head h = ap (take head) kept ∙ take_at (take head h) (replicate (6 - written + 1) 32) head short in
      let inner : take head (take end e) ≡ take head e = take-take head end e (omega (arith, same, blank_at)) in
      sym inner ∙ whole ∙ head_text ∙ (λ i. take at old ++ text_with head_is (sym none i) remark)

  -- operands, and a remark after them
  pub with_operands : (new : List ℕ) (last : ℕ) → end ≢ blank → take last new ≡ take end e ++ remark → take last new ≡ take at old
      ++ text_with head_is ops remark
  with_operands new last other is =
      let some : ops ≢ [] = λ none. other (omega (arith, grown b e ops blank end blank_in end_in ops_text, ap length none)) in
      is ∙ ap (λ xs. xs ++ remark) ops_text ∙ append_assoc (take blank b) ops remark ∙ ap (λ xs. xs ++ (ops ++ remark)) column
      ∙ append_assoc (take at old) (in_column head_is) (ops ++ remark)
      ∙ ap (λ xs. take at old ++ xs) (shown ops some)
    where
      shown : (ops : List ℕ) → ops ≢ [] → in_column head_is ++ (ops ++ remark) ≡ text_with head_is ops remark
      shown [] some = absurd (some refl)
      shown (x ∷ xs) some = refl
