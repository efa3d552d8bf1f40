use Rattle.std.proofs.Common.{ap, refl, ◌∙◌}
use Rattle.x86_layout.proofs.PartLemmas.OfBytes.{beginning_of}
use Rattle.x86_layout.proofs.parts.split.encoding_of.Goals as goal

pub returns : goal.returns
returns c =
    let strict = c.args.decoder.now.strict in
    let bytes = c.args.bytes.now in
    beginning_of strict bytes (c.answer_is.ensures.only strict) c.requires.decoded (c.answer_is.ensures.there strict bytes)
    (c.lengths.ensures.counted strict bytes c.args.instruction.now c.requires.decoded) (c.to_const.ensures ∙ ap (λ d. d.amount) c.len.ensures) refl
