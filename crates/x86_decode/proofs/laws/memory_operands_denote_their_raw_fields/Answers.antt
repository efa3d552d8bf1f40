use Rattle.x86_decode.proofs.SentenceLemmas.{sentence_shape, sentence_address}
use Rattle.x86_decode.proofs.laws.memory_operands_denote_their_raw_fields.Goals as goal

pub returns : goal.returns
returns c =
    let here = c.memory_operands_are_shapes.ensures in
    record {
      slot = λ rows strict s a is raw k memory named. (sentence_shape here.shapes rows strict s a is raw k memory named).0;
      operand = λ rows strict s a is raw k memory named. (sentence_shape here.shapes rows strict s a is raw k memory named).1;
      address = λ rows strict s a is raw k memory named.
          sentence_address here.shapes rows strict s a is raw k memory named here.address_size c.shapes_have_the_address.ensures.form;
    }
