use Rattle.std.proofs.Common.{◌≡◌, ◌<◌, ◌≤◌, length, ap, ◌∙◌}
use Rattle.x86_decode.specs.Answer.{answer_of}
use Rattle.x86_decode.specs.Decoder.{is_strict}
use Rattle.x86_layout.specs.Sweeps.Cuts.{cut_length}
use Rattle.x86_layout.proofs.SweepLemmas.Place.{fits}
use Rattle.x86_layout.proofs.sweeps.cuts.first_cut.Goals as goal

long : (c : goal.After-length_by) → c.length_by.result ≡ cut_length (answer_of (is_strict c.args.decoder.now) c.args.rest.now)
long c = c.length_by.ensures ∙ ap cut_length c.decode_slice-answer.ensures.value

long_fits : (c : goal.After-length_by) → (0 < c.length_by.result) × (c.length_by.result ≤ length c.args.rest.now)
long_fits c =
    let strict = is_strict c.args.decoder.now in
    rw (long c) (fits strict (c.lengths.ensures.within strict) c.args.rest.now c.requires)

pub returns-clause-cut : goal.returns-clause-cut
returns-clause-cut c = λ i. record { place = c.args.place; length = long c i; answer = c.decode_slice-answer.ensures.value i }

pub returns-clause-some : goal.returns-clause-some
returns-clause-some c = (long_fits c).0

pub returns-clause-within : goal.returns-clause-within
returns-clause-within c = (long_fits c).1
