use Rattle.std.proofs.Common.{Bool}
use Rattle.x86_cli.proofs.ListingLemmas.Grammar.{GrammarLaws, cuts_exactly, listing_exactly}
use Rattle.x86_cli.proofs.laws.by_grammar.Goals as goal

laws : (c : goal.After-answer_is) (strict : Bool) → GrammarLaws strict
laws c strict =
    record {
      there = c.answer_is.ensures.there strict;
      only = λ xs r n h. (c.answer_is.ensures.only strict xs r n h).0;
      lengths = c.lengths.ensures.within strict;
    }

pub returns-clause-listing : goal.returns-clause-listing
returns-clause-listing c strict text place t l = listing_exactly strict (laws c strict) text place t.image t.ending l

pub returns-clause-cuts : goal.returns-clause-cuts
returns-clause-cuts c strict place bytes cs = cuts_exactly strict (laws c strict) place bytes cs
