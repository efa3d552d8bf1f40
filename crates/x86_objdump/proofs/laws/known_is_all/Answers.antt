use Rattle.std.specs.Prelude.{false}
use Rattle.x86_cli.proofs.ListingLemmas.Certain.{sent_all}
use Rattle.x86_objdump.specs.Certain.{LengthVaries}
use Rattle.x86_objdump.specs.Listing.{showing}
use Rattle.x86_objdump.proofs.Certain.{show_awaits, show_knows}
use Rattle.x86_objdump.proofs.CutText.{varies}
use Rattle.x86_objdump.proofs.laws.known_is_all.Goals as goal

pub returns-clause-known : goal.returns-clause-known
returns-clause-known g c base bytes varies = show_knows (c.decoder_laws.ensures false) base bytes varies

pub returns-clause-holds : goal.returns-clause-holds
returns-clause-holds g c = varies (c.decoder_laws.ensures false)

pub returns-clause-awaits : goal.returns-clause-awaits
returns-clause-awaits g c base outcome s t h = show_awaits base h.calls h.rule

pub returns-clause-shown : goal.returns-clause-shown
returns-clause-shown g c base outcome s t h =
    sent_all (showing base) LengthVaries (show_knows (c.decoder_laws.ensures false) base) h.calls h.rule
