use Rattle.std.proofs.Common.{◌≡◌, ◌++◌, [], ◌∷◌, take, drop}
use Rattle.std.proofs.lemmas.List.{drop-append-le, take-append-le}
use Rattle.x86_cli.proofs.listings.listing.end_line.Goals as goal

pub returns-clause-puts : goal.returns-clause-puts
returns-clause-puts g c =
    let items = c.args.out.now.bytes.items in
    rw (c.push.ensures.text, drop-append-le c.args.held items (10 ∷ []) c.requires.held, take-append-le c.args.held items (10 ∷ []) c.requires.held)
    at c.take_written.ensures.puts
