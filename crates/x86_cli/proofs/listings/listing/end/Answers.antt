use Rattle.x86_cli.proofs.listings.listing.end.Goals as goal

pub returns-in-Bad : goal.returns-in-Bad
returns-in-Bad g c = rw c.in-Bad.is (rw (c.push_u64.ensures.text, c.extend.ensures.text, c.new-text.ensures) at c.put_last_line.ensures)

pub returns-in-Fault : goal.returns-in-Fault
returns-in-Fault g c = rw c.in-Fault.is (rw (c.extend-in-Fault.ensures.text, c.new-text.ensures) at c.put_last_line-in-Fault.ensures)
