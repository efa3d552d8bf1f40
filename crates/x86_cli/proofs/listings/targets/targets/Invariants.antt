use Rattle.std.proofs.Common.{[], Some}
use Rattle.x86_cli.specs.Listings.Targets.{targets_at}
use Rattle.x86_cli.proofs.ListingLemmas.Live.{Live}
use Rattle.x86_cli.proofs.ListingLemmas.Whole.{ends_of}
use Rattle.x86_cli.proofs.listings.targets.targets.Given as goal

abbrev pub invariant-places : goal.invariant-places
invariant-places g l =
    Live g.O.Input.reads g.O.Output.writes g.O.Output.flushes g.O.Output.gathers
    (targets_at l.decoder.strict) ends_of l.fn.max l.fn.streams [] l.place (Some l.text.ending) l.text.image.items
    (record { position = 0; room = 0; unread = [] }) l.out.bytes.items l.streams
