use Rattle.x86_decode.proofs.ChoiceLemmas.{same_elsewhere_on, fence_read, fence_locked, fence_strict_answer, printed_elsewhere}
use Rattle.x86_decode.proofs.RecordLemmas.{fence_at_0fae}
use Rattle.x86_decode.proofs.laws.choices_differ_on_fences.Goals as goal

pub returns : goal.returns
returns c =
    let groups = c.choices_differ_on_fences.ensures in
    record {
      elsewhere = same_elsewhere_on groups.elsewhere groups.by_default groups.strictly;
      read = fence_read groups.elsewhere groups.by_default groups.strictly;
      locked = fence_locked groups.elsewhere groups.by_default groups.strictly;
      strictly = fence_strict_answer groups.elsewhere groups.by_default groups.strictly;
      at_0f_ae = λ xs f. fence_at_0fae c.printed_words_are_the_printed_rows.ensures.rows f.fence f.is;
      printed = printed_elsewhere groups.elsewhere groups.by_default groups.strictly;
    }
