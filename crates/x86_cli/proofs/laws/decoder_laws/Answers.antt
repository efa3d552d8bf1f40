use Rattle.std.proofs.Common.{◌≡◌, ◌∙◌, [], length, take, Ok, ap, refl, sym, subst, append-nil}
use Rattle.std.proofs.Math.Seq.{take-append_seam}
use Rattle.x86_forms.specs.Words.{rows_of, packed}
use Rattle.x86_decode.specs.Answer.{answer_of, count_of}
use Rattle.x86_decode.specs.Grammar.{IsAccepted, IsAnswer}
use Rattle.x86_decode.specs.Instruction.{length_of}
use Rattle.x86_cli.proofs.laws.decoder_laws.Goals as goal

pub returns : goal.returns
returns c strict =
    record {
      lengths = c.lengths.ensures.within strict;
      stay = c.answers_of_more.ensures.answer strict;
      enough = c.fifteen_are_enough.ensures strict;
      alone = λ xs i e.
          let a = subst (λ r. IsAnswer (rows_of packed) strict xs r (count_of strict xs)) e (c.answer_is.ensures.there strict xs) in
          let s = a.sentence in
          let same : take (length_of i) xs ≡ s = ap (λ n. take n xs) (ap length_of a.is.yields) ∙ ap (take (length s)) a.begins ∙ take-append_seam s a.rest in
          let whole : IsAccepted (rows_of packed) strict s i (length s) =
          record { sentence = s; rest = []; begins = sym (append-nil s); long = refl; is = a.is } in
          ap (answer_of strict) same ∙ sym (c.answer_is.ensures.only strict s (Ok i) (length s) whole).0;
      empty = c.empty_input.ensures strict;
    }
