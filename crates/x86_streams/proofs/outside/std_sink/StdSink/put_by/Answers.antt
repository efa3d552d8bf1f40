use Rattle.std.proofs.Common.{◌≡◌, ℕ, List, [], Result, Ok, Err, arith, length, drop}
use Rattle.std.specs.Prelude.{OnOk, ⊤}
use Rattle.std.proofs.lemmas.List.{drop_all}
use Rattle.x86_streams.proofs.outside.std_sink.StdSink.put_by.Goals as goal

none_left : {E : Type 0} (answer : Result ⊤ E) (n : ℕ) (piece : List ℕ) → OnOk answer (n ≡ length piece) → OnOk answer (drop n piece ≡ [])
none_left (Ok done) n piece all = rw all (drop_all (length piece) piece (omega arith))
none_left (Err e) n piece all = tt

pub returns-clause-calls : goal.returns-clause-calls
returns-clause-calls g c = (
  c.send_out.result.1,
  _,
  c.send_out.ensures.sends,
  none_left c.send_out.result.1 _ c.args.piece.now c.send_out.ensures.all,
  grind arith,
)

pub returns-then-is_err-clause-calls : goal.returns-then-is_err-clause-calls
returns-then-is_err-clause-calls g c = (
  c.send_out.result.1,
  _,
  c.send_out.ensures.sends,
  none_left c.send_out.result.1 _ c.args.piece.now c.send_out.ensures.all,
  grind arith,
)
