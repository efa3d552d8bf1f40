use Rattle.x86_decode.proofs.PrintedLemmas.{length_bounds}
use Rattle.x86_decode.proofs.laws.lengths.Goals as goal

pub returns : goal.returns
returns c = record {
  within = λ strict xs i e. let h = length_bounds strict xs i e in (h.0, h.2);
  short = λ strict xs i e. (length_bounds strict xs i e).1;
  counted = λ strict xs i e. (length_bounds strict xs i e).3;
}
