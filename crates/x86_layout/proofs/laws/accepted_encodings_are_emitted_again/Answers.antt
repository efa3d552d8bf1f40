use Rattle.std.proofs.Common.{subst}
use Rattle.x86_forms.specs.Words.{rows_of, packed}
use Rattle.x86_decode.specs.Grammar.{IsAnswer}
use Rattle.x86_decode.specs.Answer.{count_of}
use Rattle.x86_layout.proofs.PartLemmas.Emit.{emitted_again}
use Rattle.x86_layout.proofs.laws.accepted_encodings_are_emitted_again.Goals as goal

pub returns : goal.returns
returns c = λ strict bytes i f h e.
    emitted_again strict bytes i f (subst (λ r. IsAnswer (rows_of packed) strict bytes r (count_of strict bytes)) h
    (c.answer_is.ensures.there strict bytes)) (c.lengths.ensures.counted strict bytes i h) e
