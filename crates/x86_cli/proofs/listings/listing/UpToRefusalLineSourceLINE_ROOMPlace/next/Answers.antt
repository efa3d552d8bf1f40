use Rattle.std.proofs.Common.{[], None, refl}
use Rattle.x86_cli.proofs.TextLemmas.Decoded.{shown_answer}
use Rattle.x86_cli.proofs.ListingLemmas.NextEntry.{entry_line, entry_ended, entry_refused, entry_undecided}
use Rattle.x86_cli.proofs.listings.listing.UpToRefusalLineSourceLINE_ROOMPlace.next.Goals as goal

pub returns-in-Some-Whole-clause-next : goal.returns-in-Some-Whole-clause-next
returns-in-Some-Whole-clause-next g c =
    let shows = rw c.in-Some-Whole.field-0-is at c.in-Some-Whole.ensures.shows in
    let long = c.length_of-length.ensures in
    let text = g.L.Lines.text c.args.self.now.lines c.args.decoder.now.strict in
    let is = rw (long, c.as_slice-bytes.ensures) at c.push.ensures.text in (
      _,
      is,
      entry_line c.args.decoder.now.strict text _ _ _ _ _ c.decode_next.new.inst
          (rw c.in-Some-Whole.field-0-is at c.in-Some-Whole.ensures.rest) shows.0 shows.1 _ _ long refl,
    )

pub push-requires-clause-answer : goal.push-requires-clause-answer
push-requires-clause-answer g c =
    rw (c.length_of-length.ensures, c.as_slice-bytes.ensures)
    (shown_answer c.args.decoder.now.strict (c.decoder_laws.ensures _) None c.args.window.now.bytes.items c.decode_next.new.inst
    (rw c.in-Some-Whole.field-0-is at c.in-Some-Whole.ensures.shows))

pub returns-in-None-clause-next : goal.returns-in-None-clause-next
returns-in-None-clause-next g c = (
  [],
  refl,
  entry_undecided c.args.decoder.now.strict (c.decoder_laws.ensures _)
      (g.L.Lines.text c.args.self.now.lines c.args.decoder.now.strict) c.args.window.now.ended c.args.place.now []
      c.args.window.now.bytes.items c.args.window.now.text.position c.args.window.now.text.room (c.in-None.ensures.open refl) (c.in-None.ensures.more refl),
)

pub returns-in-Some-Ended-clause-next : goal.returns-in-Some-Ended-clause-next
returns-in-Some-Ended-clause-next g c = (
  [],
  refl,
  entry_ended c.args.decoder.now.strict
      (g.L.Lines.text c.args.self.now.lines c.args.decoder.now.strict) c.args.window.now.ended c.args.place.now c.args.window.now.bytes.items
      c.args.window.now.text.position c.args.window.now.text.room c.in-Some-Ended.ending []
      (rw c.in-Some-Ended.field-0-is at c.in-Some-Ended.ensures.rest),
)

pub returns-in-Some-Refused-clause-next : goal.returns-in-Some-Refused-clause-next
returns-in-Some-Refused-clause-next g c = (
  [],
  refl,
  entry_refused c.args.decoder.now.strict
      (g.L.Lines.text c.args.self.now.lines c.args.decoder.now.strict) c.args.window.now.ended c.args.place.now c.args.window.now.bytes.items
      c.args.window.now.text.position c.args.window.now.text.room c.in-Some-Refused.error []
      (rw c.in-Some-Refused.field-0-is at c.in-Some-Refused.ensures.rest),
)
