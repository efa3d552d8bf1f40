use Rattle.std.proofs.Common.{◌≡◌, [], Ok, Err, Bool, true, false, sym, ◌∙◌, refl, arith, append-nil}
use Rattle.std.proofs.Math.Seq.{take-length}
use Rattle.x86_streams.proofs.OutsideLemmas.Calls.{sends_none, sends_write}
use Rattle.x86_streams.proofs.outside.sending.put_whole.Goals as goal

never : {b : Bool} → b ≡ false → b ≡ true → ⊥
never off on = let is : true ≡ false = sym on ∙ off in absurd (cc)

pub returns-in-Ok : goal.returns-in-Ok
returns-in-Ok g c =
    let off = never c.requires in
    let whole = g.met.O.Output.whole c.requires _ _ _ _ c.in-Ok.ensures.wrote.answered in
    record {
      rest = [];
      sends = sends_write _ _ (Ok tt) (Ok _) _ _ _ [] _ _ _ (sends_none _ _ c.args.piece.now [] c.args.piece.now _ refl) c.in-Ok.ensures.wrote
          (rw (append-nil, whole) (take-length c.args.piece.now)) ((λ fails. absurd (omega (arith, whole, fails.0, fails.1)), tt), tt);
      held = refl;
      kept = tt;
      waits = λ on fits. absurd (off on);
      once = λ _. (refl, refl);
    }

pub returns-in-Err : goal.returns-in-Err
returns-in-Err g c = let off = never c.requires in record {
  rest = c.args.piece.now;
  sends = sends_write _ _ (Err _) (Err _) _ _ _ _ _ _ _ (sends_none _ _ c.args.piece.now [] c.args.piece.now _ refl) c.in-Err.ensures.wrote refl
      ((tt, tt), (take-length c.args.piece.now, c.failed.ensures));
  held = tt;
  kept = refl;
  waits = λ on fits. absurd (off on);
  once = λ _. (refl, tt);
}
