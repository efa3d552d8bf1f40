use Rattle.std.proofs.Common.{◌≡◌}
use Rattle.x86_streams.specs.declared.text.reader.Ending.{Ending}
use Rattle.x86_streams.specs.declared.text.reader.Ending.TheVariants.{Clean, Bad, Large, Fault}
use Rattle.x86_cli.specs.Listings.Performs.{IsEnd}
use Rattle.x86_cli.specs.Listings.Listing.{at_end}
use Rattle.x86_objdump.proofs.listing.ShowAtProgram.run.Goals as goal

end_status : (e : Ending) → IsEnd (at_end e).status
end_status Clean = (λ e. cc, λ e. cc)
end_status (Bad n) = (λ e. cc, λ e. cc)
end_status Large = (λ e. cc, λ e. cc)
end_status Fault = (λ e. cc, λ e. cc)

pub returns-clause-performs : goal.returns-clause-performs
returns-clause-performs g c = rw c.default-decoder.ensures at c.list.ensures

pub returns-clause-ends : goal.returns-clause-ends
returns-clause-ends g c = λ t. end_status t.ending
