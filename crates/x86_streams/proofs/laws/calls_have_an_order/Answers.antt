use Rattle.std.proofs.Common.{[], ◌∷◌, Ok, refl}
use Rattle.x86_streams.specs.Outside.Chain.{FlushesOnce, ReadsOnce}
use Rattle.x86_streams.specs.Outside.Order.{ListsFlush, ListsRead}
use Rattle.x86_streams.proofs.laws.calls_have_an_order.Goals as goal

pub returns-clause-flushed_first : goal.returns-clause-flushed_first
returns-clause-flushed_first c =
    let flushed : FlushesOnce ListsFlush (Ok tt) [] (3 ∷ []) = record { count = 0; before = []; interrupted = refl; answered = refl; final = tt } in
    let read : ReadsOnce ListsRead [] (Ok 0) (3 ∷ []) (1 ∷ 3 ∷ []) = record { count = 0; before = 3 ∷ []; interrupted = refl; answered = refl; final = tt } in
    (3 ∷ [], ([], refl, flushed), read)
