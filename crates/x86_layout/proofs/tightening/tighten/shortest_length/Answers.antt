use Rattle.std.proofs.Common.{false, arith}
use Rattle.x86_layout.proofs.TightenLemmas.Tighten.{keeps, least_beginning, least_with}
use Rattle.x86_layout.proofs.TightenLemmas.Relative.{length_is}
use Rattle.x86_layout.proofs.tightening.tighten.shortest_length.Goals as goal

pub addressed_in-requires : goal.addressed_in-requires
addressed_in-requires c = record { strict = c.args.decoder.now.strict; is = c.encoding_of-encoding.ensures.is }

pub overflow_sub-result : goal.overflow_sub-result
overflow_sub-result c =
    let is = c.encoding_of-encoding.ensures.is in
    let long = length_is is.whole c.in-Ok.found.raw (c.in-Ok.ensures c.args.decoder.now.strict is).read in
    omega (arith, long, c.address_length.ensures.value)

pub returns-in-Ok : goal.returns-in-Ok
returns-in-Ok c =
    let is = c.encoding_of-encoding.ensures.is in
    let h = c.in-Ok.ensures c.args.decoder.now.strict is in
    cc (
      c.address_length.ensures.value,
      c.address_length-in-Ok.ensures.value,
      c.shortest.ensures,
      least_with is.whole h.read false h.form,
      least_beginning c.encoding_of-encoding.ensures,
    )

pub returns-in-Err : goal.returns-in-Err
returns-in-Err c =
    let is = c.encoding_of-encoding.ensures.is in
    cc (keeps is.whole c.in-Err.field-0 (c.in-Err.ensures c.args.decoder.now.strict is), least_beginning c.encoding_of-encoding.ensures)
