use Rattle.std.proofs.Common.{◌≡◌, ℕ, List, [], Ok, Err, ap, ◌<◌, length, drop, slice_range, refl, arith, length-drop, take-append-drop}
use Rattle.std.proofs.lemmas.List.{take_all, drop-drop}
use Rattle.std.proofs.Math.Seq.{take-length}
use Rattle.x86_streams.proofs.OutsideLemmas.Calls.{sends_write}
use Rattle.x86_streams.proofs.outside.sending.send_out.Goals as goal

rest_of : (bytes : List ℕ) (n : ℕ) → slice_range bytes n (length bytes) ≡ drop n bytes
rest_of bytes n = take_all _ (drop n bytes) (omega (arith, length-drop n bytes))

pub loop-sent-preserved : goal.loop-sent-preserved
loop-sent-preserved g c =
    let rest = rest_of c.args.bytes.now c.loop-sent.sent in
    record {
      within = omega (arith, c.in-Ok.ensures.bound, ap length rest, length-drop c.loop-sent.sent c.args.bytes.now);
      sends = sends_write _ _ (Ok tt) (Ok _) [] _ _ _ _ _ _ c.loop-sent.invariant.sends (rw rest at c.in-Ok.ensures.wrote)
          (rw (← drop-drop, take-append-drop) refl) ((λ none. c.in-Ok.count-test.1 none.0, tt), tt);
    }

pub returns-in-Ok-eq0-clause-sends : goal.returns-in-Ok-eq0-clause-sends
returns-in-Ok-eq0-clause-sends g c =
    let some : 0 < length (drop c.loop-sent.sent c.args.bytes.now) = omega (arith, length-drop c.loop-sent.sent c.args.bytes.now) in
    sends_write _ _ (Err _) (Ok c.in-Ok-eq0.field-0) [] _ _ _ _ _ _ c.loop-sent.invariant.sends (rw rest_of at c.in-Ok-eq0.ensures.wrote)
    (rw c.in-Ok-eq0.field-0-test refl) (((c.in-Ok-eq0.field-0-test, some), tt), grind arith)

pub returns-in-Err-clause-sends : goal.returns-in-Err-clause-sends
returns-in-Err-clause-sends g c =
    sends_write _ _ (Err _) (Err _) [] _ _ _ _ _ _ c.loop-sent.invariant.sends (rw rest_of at c.in-Err.ensures.wrote)
    refl ((tt, tt), (take-length _, c.failed.ensures))
