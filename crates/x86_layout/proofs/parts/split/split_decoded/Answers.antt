use Rattle.x86_layout.proofs.PartLemmas.OfBytes.{parts_are, parts_once, joined_is, lengths_of}
use Rattle.x86_layout.proofs.parts.split.split_decoded.Goals as goal

pub parts_in-requires : goal.parts_in-requires
parts_in-requires c = record { strict = c.args.decoder.now.strict; is = c.encoding_of.ensures.is }

pub returns-clause-pieces : goal.returns-clause-pieces
returns-clause-pieces c =
    let beginning = c.encoding_of.ensures in
    let is = beginning.is in
    let parts = c.parts_in.ensures c.args.decoder.now.strict is in
    record {
      instruction = c.args.instruction.now;
      encoding = c.encoding_of.result.now;
      rest = beginning.rest;
      reading = is.reading;
      accepted = beginning.accepted;
      begins = beginning.begins;
      long = beginning.long;
      whole = is.whole;
      parts = parts;
      together = joined_is parts;
    }

pub returns-clause-value : goal.returns-clause-value
returns-clause-value c =
    let x = returns-clause-pieces c in
    parts_once x.parts (parts_are x.rest x.whole x.begins)

pub returns-clause-lengths : goal.returns-clause-lengths
unfolding returns-clause-pieces
returns-clause-lengths c = lengths_of (returns-clause-pieces c).parts c.encoding_of.ensures.is.short
