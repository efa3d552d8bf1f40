use Rattle.std.proofs.Common.{◌≡◌, Bool, ℕ, List, ◌++◌, Result, Ok, Err, refl, ap, sym, ◌∙◌, subst}
use mathlib.Core.Path.{fun_ext}
use Rattle.x86_fields.specs.declared.errors.DecodeError.{DecodeError}
use Rattle.x86_fields.specs.declared.errors.DecodeError.TheVariants.{ExhaustedInput}
use Rattle.x86_forms.specs.Rows.{printed_row}
use Rattle.x86_forms.specs.Words.{rows_of, packed}
use Rattle.x86_decode.specs.declared.instructions.Instruction.{Instruction}
use Rattle.x86_layout.specs.Parts.Fields.{lists_in}
use Rattle.x86_layout.specs.Parts.Split.{joined}
use Rattle.x86_cli.specs.Consequences.{AreSame, Consequences}
use Rattle.x86_cli.specs.Functions.{functions}
use Rattle.x86_cli.specs.Headline.{BeginsWith, Functions, Headline}
use Rattle.x86_cli.proofs.HeadlineLemmas.Consequences.{by_kind, first_bytes, same, stays}
use Rattle.x86_cli.proofs.HeadlineLemmas.Fields.{R, is_permitted, permits, relative_from, settled}
use Rattle.x86_cli.proofs.HeadlineLemmas.Sentences.{back, error_back}
use Rattle.x86_cli.proofs.ListingLemmas.Grammar.{GrammarLaws}
use Rattle.x86_cli.proofs.laws.consequences.Goals as goal

module _ (c : goal.After-relatives_are_the_same_instruction) (strict : Bool) where
  laws : GrammarLaws strict
  laws = record {
    there = c.answer_is.ensures.there strict;
    only = λ xs r n h. (c.answer_is.ensures.only strict xs r n h).0;
    lengths = c.lengths.ensures.within strict;
  }

  -- nothing settles the answer of open bytes
  never : (bytes : List ℕ) → BeginsWith R strict bytes (Err ExhaustedInput) → ⊥
  never bytes (s, rest, begins, h) =
      let is = settled strict laws (c.decided_bytes_are_refused.ensures R strict) s rest (Err ExhaustedInput) h in
      is.undecided s rest ExhaustedInput refl (error_back R strict s ExhaustedInput h.1)

  module _ (does : Functions) (h : Headline R strict does) (own : Headline R strict (functions strict)) where
    both : AreSame R strict does (functions strict)
    both = same R strict does (functions strict) h own

    follow : Consequences R strict does
    follow = record {
      first_bytes = first_bytes R strict does h;
      unsettled = λ bytes. (
        λ is r w. by_kind r ⊥ (λ e. never bytes (subst (BeginsWith R strict bytes) e w)) (λ differs. differs (sym ((h.answers bytes r differs).1 w) ∙ is)),
        λ none. by_kind (does.answer bytes) (does.answer bytes ≡ Err ExhaustedInput) (λ is. is)
            (λ differs. absurd (none (does.answer bytes) ((h.answers bytes (does.answer bytes) differs).0 refl))),
      );
      stays = stays R strict does h;
      listing = λ text place image ending l.
          let is = c.by_grammar.ensures.listing strict text place (record { image = image; ending = ending }) l in
          (λ g. is.0 g ∙ sym (both.lists text place image ending), λ e. is.1 (e ∙ both.lists text place image ending));
      split_again = λ f rest p.
          let t = c.permitted_fields_are_split_again.ensures strict f rest (is_permitted strict f (sym (both.permits f) ∙ p)) in
          let w = (h.permitted f).0 p in
          let spelled : w.0 ≡ joined (lists_in f) = w.2.whole ∙ ap joined w.3 in (
            t.0,
            both.answer (joined (lists_in f) ++ rest) ∙ t.1,
            ap (λ s. does.parts (s ++ rest)) (sym spelled) ∙ h.parts w.0 rest w.1 w.2 ∙ w.3,
          );
      emitted_again = λ bytes i f e parts.
          let w = (h.answers bytes (Ok i) (λ g. absurd (cc (g)))).0 e in
          let t = c.accepted_encodings_are_emitted_again.ensures strict bytes i f (sym (both.answer bytes) ∙ e)
          (parts ∙ ap does.parts w.2 ∙ both.parts w.0 w.1 i w.3 ∙ ap (functions strict).parts (sym w.2)) in
          (both.permits f ∙ permits strict f t.0, t.1);
      same_addresses = λ s t i j f g r s_bytes t_bytes.
          c.relatives_are_the_same_instruction.ensures.address strict s i (back R strict s i f) t j (back R strict t j g)
          (relative_from strict s i f t j g r) s_bytes t_bytes;
    }

pub returns-clause-same : goal.returns-clause-same
returns-clause-same c rows strict does other h k = same rows strict does other h k

pub returns-clause-follow : goal.returns-clause-follow
returns-clause-follow c strict does h =
    let rows = c.printed_words_are_the_printed_rows.ensures.rows in
    let alike : rows_of packed ≡ printed_row = fun_ext (λ map. fun_ext (λ column. fun_ext (λ byte. rows map column byte))) in
    subst (λ rows. Headline rows strict does → Headline rows strict (functions strict) → Consequences rows strict does) alike (follow c strict does)
    h (c.headline_of_bytes.ensures strict)
