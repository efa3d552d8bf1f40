use Rattle.x86_decode.proofs.RecordLemmas.{answer_small, printed_small}
use Rattle.x86_decode.proofs.laws.memory_sizes_are_small.Goals as goal

pub returns : goal.returns
returns c = let plain = c.plain_sizes_are_small.ensures in let group = c.group_sizes_are_small.ensures in
    record { any_table = answer_small plain group; printed = printed_small plain group }
