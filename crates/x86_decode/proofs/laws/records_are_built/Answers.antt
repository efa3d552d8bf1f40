use Rattle.x86_decode.proofs.RecordLemmas.{left_out_is_8f, left_out_at_8f}
use Rattle.x86_decode.proofs.laws.records_are_built.Goals as goal

pub returns : goal.returns
returns c =
    let built = c.groups_are_built.ensures in let instance = c.plain_forms_are_built.ensures.instance in let passes = c.plain_forms_pass_the_opcode.ensures in
    record {
      form = left_out_is_8f instance passes built.at_opcode built.form;
      byte = left_out_at_8f instance passes built.at_opcode built.form c.printed_words_are_the_printed_rows.ensures.rows;
    }
