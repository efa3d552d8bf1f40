use Rattle.std.proofs.Common.{[], Ok, Err, ap, refl}
use Rattle.x86_cli.specs.declared.listings.listing.Entry.TheVariants as entry
use Rattle.x86_cli.proofs.ListingLemmas.Sweep.{sweep_end, sweep_line, sweep_undecided, some_bytes, some_refused}
use Rattle.x86_cli.proofs.listings.sweep.PastRefusalsLineSourceLINE_ROOMPlace.next.Goals as goal

pub returns-in-Ok-clause-next : goal.returns-in-Ok-clause-next
returns-in-Ok-clause-next c = (
  _,
  c.push_line.ensures.text,
  sweep_line _ (c.decoder_laws.ensures _) _ _ _ _ _ _ (Ok c.decode_slice_into.new.inst) (λ _ f. cc)
      (some_bytes _ (c.decoder_laws.ensures _) _ _ (Ok c.decode_slice_into.new.inst) (λ f. cc) c.in-Ok.ensures.value c.as_slice.ensures)
      c.in-Ok.ensures.value c.as_slice.ensures _ _ (ap entry.Line c.length_of.ensures) refl,
)

pub returns-in-Refused-clause-next : goal.returns-in-Refused-clause-next
returns-in-Refused-clause-next c = (
  _,
  c.push_refusal.ensures.text,
  sweep_line _ (c.decoder_laws.ensures _) _ _ _ _ _ _ (Err c.in-Err.error) (λ none f. c.in-Refused.ensures.0 none (cc))
      (some_refused _ (c.decoder_laws.ensures _) _ _ c.in-Err.error c.args.window.now.ended c.in-Err.ensures.value c.as_slice.ensures c.in-Refused.ensures)
      c.in-Err.ensures.value c.as_slice.ensures _ _ refl refl,
)

pub returns-in-None-clause-next : goal.returns-in-None-clause-next
returns-in-None-clause-next c = (
  [],
  refl,
  sweep_undecided c.args.decoder.now.strict (c.decoder_laws.ensures _) c.args.window.now.ended c.args.place.now []
      c.args.window.now.bytes.items _ c.args.window.now.text.position c.args.window.now.text.room (Err c.in-Err.error) c.in-None.is
      (ap Err (c.in-Nothing.ensures.0 c.in-None.is)) c.in-Err.ensures.value c.as_slice.ensures,
)

pub returns-in-Some-clause-next : goal.returns-in-Some-clause-next
returns-in-Some-clause-next c = (
  [],
  refl,
  sweep_end c.args.decoder.now.strict c.args.window.now.ended c.args.place.now [] c.args.window.now.bytes.items
      c.args.window.now.text.position c.args.window.now.text.room _ c.in-Some.is (c.in-Nothing.ensures.1 _ c.in-Some.is),
)
