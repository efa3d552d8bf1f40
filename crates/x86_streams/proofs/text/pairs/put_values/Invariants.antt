use Rattle.std.proofs.Common.{◌≡◌, ℕ, ◌+◌, ◌*◌, ◌%◌, ◌<◌, take, slice_index_or}
use Rattle.x86_streams.proofs.text.pairs.put_values.Given as goal

abbrev pub invariant-loop-i : goal.invariant-loop-i
invariant-loop-i l = record {
  before : take l.count l.values ≡ take l.count l.fn.values;
  values : (k : ℕ) → k < l.i → slice_index_or l.values (l.count + k) 0 ≡ 16 *
      (slice_index_or l.digits (2 * k) 0 % 16) + slice_index_or l.digits (2 * k + 1) 0 % 16;
}
