-- The functions by which the clauses of calls speak, under a choice.
use Rattle.std.specs.Prelude.{Bool, is_none}
use Rattle.x86_decode.specs.Answer.{answer_of}
use Rattle.x86_layout.specs.Parts.OfBytes.{parts_of}
use Rattle.x86_layout.specs.Parts.Permitted.{first_failing}
use Rattle.x86_layout.specs.Sweeps.Cuts.{cuts_from}
use Rattle.x86_layout.specs.Tightening.Least.{least_length}
use Rattle.x86_cli.specs.Listings.Listing.{listing_from}
use Rattle.x86_cli.specs.Headline.{Functions}

abbrev pub functions : Bool → Functions
functions strict = record {
  answer = answer_of strict;
  parts = parts_of strict;
  permits = λ f. is_none (first_failing strict f);
  lists = λ text place image ending. listing_from strict text place 0 image ending;
  cuts = cuts_from strict;
  least = least_length strict;
}
