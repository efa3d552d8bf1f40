use Rattle.std.proofs.Common.{ap, ◌∙◌, is_ok}
use Rattle.x86_decode.specs.Grammar.{allows_lock}
use Rattle.x86_decode.specs.Walk.{judgement, takes_lock}
use Rattle.x86_decode.proofs.WalkLemmas.{first_is, is_judged}
use Rattle.x86_decode.proofs.walk.allows_lock.Goals as goal

pub returns : goal.returns
returns c =
    let reading = c.args.reading.now in
    c.is_ok.ensures.value ∙ (ap is_ok (c.judgement.ensures
    ∙ ap (λ slot. judgement (takes_lock reading.prefixes reading.opcode slot)) (first_is reading.slots)) ∙ is_judged (allows_lock reading))
