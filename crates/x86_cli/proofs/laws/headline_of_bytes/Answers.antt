use Rattle.std.proofs.Common.{◌≡◌, ◌∙◌, ◌++◌, length, Bool, true, Some, ap, refl, sym, subst, arith}
use Rattle.std.proofs.Math.Seq.{take-append_seam}
use mathlib.Core.Path.{fun_ext}
use Rattle.x86_forms.specs.Rows.{printed_row}
use Rattle.x86_forms.specs.Words.{rows_of, packed}
use Rattle.x86_cli.specs.Functions.{functions}
use Rattle.x86_layout.specs.Sweeps.Cuts.{cuts_skipping}
use Rattle.x86_cli.specs.Headline.{Headline}
use Rattle.x86_cli.specs.Listings.Listing.{listing_from}
use Rattle.x86_cli.proofs.HeadlineLemmas.Fields.{R, begins, cut_of, named, operand_form, parts_are, parts_from, parts_to, relative_from}
use Rattle.x86_cli.proofs.HeadlineLemmas.Fields.{is_permitted, permits, relative_to, settled, settles}
use Rattle.x86_cli.proofs.HeadlineLemmas.Sentences.{back, to, whole_in}
use Rattle.x86_cli.proofs.ListingLemmas.Grammar.{GrammarLaws, error_here, sentence_here}
use Rattle.x86_cli.proofs.laws.headline_of_bytes.Goals as goal

laws : (c : goal.After-relatives_are_the_same_instruction) (strict : Bool) → GrammarLaws strict
laws c strict = record {
  there = c.answer_is.ensures.there strict;
  only = λ xs r n h. (c.answer_is.ensures.only strict xs r n h).0;
  lengths = c.lengths.ensures.within strict;
}

-- over the packed rows
packed_headline : (c : goal.After-relatives_are_the_same_instruction) (strict : Bool) → Headline R strict (functions strict)
unfolding listing_from cuts_skipping
packed_headline c strict =
    let l = laws c strict in
    let decided = c.decided_bytes_are_refused.ensures R strict in
    record {
      answers = λ bytes r differs. (settles strict l decided bytes r differs, begins strict l decided bytes r);
      unique = λ s rest t more a b same is other.
          let both = c.one_answer.ensures.once R strict (s ++ rest) a b (length s) (length t)
          (settled strict l decided s rest a is) (rw same (settled strict l decided t more b other)) in
          (grind (arith, take-append_seam s rest, take-append_seam t more, both.1, same), both.0);
      addresses = λ s i f k raw has bytes regs next.
          c.memory_operands_have_their_address.ensures strict s i (back R strict s i f) raw k has.0 (named strict s i f k raw has) bytes regs next
          ∙ ap (λ n. Some n) (c.addresses_are_by_the_bits.ensures raw regs next);
      listed_sentence = λ text place s rest i ending f. sentence_here strict l text place s rest ending i (back R strict s i f);
      listed_error = λ text place x xs e ending h. error_here strict l text place x xs ending e (sym h);
      listed_end = λ text place ending. refl;
      first_cut = λ place piece after a h long. cut_of strict l decided place piece after a h long;
      no_cut = λ place. refl;
      parts = λ s rest i f. parts_are strict s i f _ (c.parts_are_those_of_the_bytes.ensures strict s rest f.reading (whole_in R strict true s i f));
      permitted = λ f. (
        (λ p. parts_to strict f ((c.permitted_fields_are_the_parts_of_sentences.ensures strict f).0 (is_permitted strict f p))),
        (λ x. permits strict f ((c.permitted_fields_are_the_parts_of_sentences.ensures strict f).1 (parts_from strict f x))),
      );
      shortest = λ s i f k raw has differs bytes.
          let t = c.shortest_relatives_have_the_least_length.ensures strict s i (back R strict s i f) bytes (operand_form strict s i f k raw has differs) in
          let b = t.2 in
          (t.0, b.answer, to R strict t.0 b.answer b.sentence, relative_to strict s i f t.0 b.answer b.sentence b.relative, t.1, t.3);
      least = λ s u i j f g k raw has differs bytes u_bytes r.
          let t = c.shortest_relatives_have_the_least_length.ensures strict s i (back R strict s i f) bytes (operand_form strict s i f k raw has differs) in
          omega (arith, t.3, t.2.least u j (back R strict u j g) u_bytes (relative_from strict s i f u j g r));
      same_instruction = λ s t i j f g r.
          c.relatives_are_the_same_instruction.ensures.but_in_memory strict s i (back R strict s i f) t j (back R strict t j g)
          (relative_from strict s i f t j g r);
    }

pub returns : goal.returns
returns c strict =
    let rows = c.printed_words_are_the_printed_rows.ensures.rows in
    let same : rows_of packed ≡ printed_row = fun_ext (λ map. fun_ext (λ column. fun_ext (λ byte. rows map column byte))) in
    subst (λ rows. Headline rows strict (functions strict)) same (packed_headline c strict)
