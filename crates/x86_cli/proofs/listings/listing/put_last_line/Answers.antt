use Rattle.x86_cli.proofs.ListingLemmas.Closes.{closes_put}
use Rattle.x86_cli.proofs.listings.listing.put_last_line.Goals as goal

pub returns-in-Ok : goal.returns-in-Ok
returns-in-Ok g c = closes_put _ _ _ _ _ _ _ _ _ _ _ c.in-Ok.ensures c.close.ensures
