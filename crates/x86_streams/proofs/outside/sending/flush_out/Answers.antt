use Rattle.std.proofs.Common.{[], ◌∷◌, Ok, Err, refl}
use Rattle.x86_streams.specs.Outside.Chain.{Flush}
use Rattle.x86_streams.proofs.outside.sending.flush_out.Goals as goal

pub returns-in-Ok : goal.returns-in-Ok
returns-in-Ok g c = (
  record {
    calls = Flush (Ok _) ∷ [];
    did = (_, refl, c.in-Ok.ensures);
    cause = (λ fails. fails, tt);
    order = refl;
    failed = tt;
  },
  (refl, tt),
  λ _. refl,
)

pub returns-in-Err : goal.returns-in-Err
returns-in-Err g c = (
  record {
    calls = Flush (Err _) ∷ [];
    did = (_, refl, c.in-Err.ensures);
    cause = (tt, tt);
    order = refl;
    failed = (refl, c.failed.ensures);
  },
  tt,
  λ _. refl,
)
