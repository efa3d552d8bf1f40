use Rattle.std.proofs.Common.{◌≡◌, ◌≤◌, ◌+◌, List, ℕ, length}
use Rattle.x86_streams.specs.Text.Window.{turns_left}
use Rattle.x86_cli.proofs.ListingLemmas.Live.{Live}
use Rattle.x86_cli.proofs.listings.listing.list.Given as goal

abbrev pub invariant-lines : goal.invariant-lines
invariant-lines g l = record {
  image : List ℕ;
  live : Live g.O.Input.reads g.O.Output.writes g.O.Output.flushes g.O.Output.gathers (g.C.LineSource.lists l.line_source l.decoder.strict)
      (g.C.LineSource.knows l.line_source l.decoder.strict) l.fn.max l.fn.streams
      image (g.P.Counter.place l.place) l.window.ended l.window.bytes.items l.window.text l.out.bytes.items l.streams;
  short : length l.out.bytes.items ≤ 65536;
  fits : g.P.Counter.place l.place + length l.window.bytes.items + l.window.text.room ≤ l.fn.max;
  base : g.P.Counter.base l.place ≡ g.C.LineSource.base l.line_source;
}

abbrev pub decreases-lines : goal.decreases-lines
decreases-lines g l = turns_left l.window.ended l.window.bytes.items l.window.text
