use Rattle.std.proofs.Common.{◌≤◌, ◌+◌, ◌*◌, length}
use Rattle.arrayvec.specs.ArrayVec.{array_vec_len}
use Rattle.x86_streams.specs.Text.Window.{turns_left}
use Rattle.x86_cli.proofs.ListingLemmas.Whole.{Whole}
use Rattle.x86_cli.proofs.listings.targets.read_whole.Given as goal

abbrev pub invariant-windows : goal.invariant-windows
invariant-windows g l = record {
  whole : Whole g.O.Input.reads g.O.Output.writes g.O.Output.flushes g.O.Output.gathers l.fn.max l.fn.streams l.image.items l.window.ended
      l.window.bytes.items l.window.text l.streams;
  fits : 2 * array_vec_len l.image + 2 * length l.window.bytes.items + l.window.text.room ≤ l.fn.max;
}

abbrev pub decreases-windows : goal.decreases-windows
decreases-windows g l = turns_left l.window.ended l.window.bytes.items l.window.text
