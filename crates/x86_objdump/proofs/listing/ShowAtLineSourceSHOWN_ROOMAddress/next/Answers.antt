use Rattle.std.proofs.Common.{[], ◌≡◌, ◌≤◌, length, take, Ok, Err, ap, ◌∙◌, sym, refl, arith, length-take-le}
use Rattle.x86_decode.specs.Answer.{answer_of}
use Rattle.x86_cli.specs.declared.listings.listing.Entry.TheVariants as entry
use Rattle.x86_cli.proofs.ListingLemmas.Sweep.{some_bytes}
use Rattle.x86_objdump.specs.Listing.{is_open_by}
use Rattle.x86_objdump.specs.Vectors.{vector_of, once_ended}
use Rattle.x86_objdump.proofs.ListingLemmas.{entry_line, entry_ended, entry_undecided, refused_some, vector_line, bad_line, cut_undecided}
use Rattle.x86_objdump.proofs.ListingLemmas.{whole_within, open_exhausted}
use Rattle.x86_objdump.proofs.listing.ShowAtLineSourceSHOWN_ROOMAddress.next.Goals as goal

pub returns-in-Ok-clause-next : goal.returns-in-Ok-clause-next
returns-in-Ok-clause-next c =
    let here = sym (c.in-Ok.ensures.value ∙ ap (answer_of c.args.decoder.now.strict) c.as_slice-bytes.ensures) in
    let is = rw (c.as_slice-bytes.ensures, c.requires.base) at c.push_shown_at.ensures.text in (
      _,
      is,
      entry_line c.args.decoder.now.strict c.args.self.now.base
          (c.decoder_laws.ensures _) c.args.window.now.ended c.args.place.now.place c.args.window.now.bytes.items c.args.window.now.text.position
          c.args.window.now.text.room (Ok c.decode_slice_into.new.inst) here (λ _. refl)
          (some_bytes c.args.decoder.now.strict (c.decoder_laws.ensures _) c.args.window.now.bytes.items c.args.window.now.bytes.items
          (Ok c.decode_slice_into.new.inst) (λ f. cc) (sym here) refl)
          _ _ (ap entry.Line c.length_of-length.ensures) refl,
    )

pub returns-in-None-clause-next : goal.returns-in-None-clause-next
returns-in-None-clause-next c =
    let here = sym (c.in-Err.ensures.value ∙ ap (answer_of c.args.decoder.now.strict) c.as_slice-bytes.ensures) in
    let more = ap (λ e. is_open_by (Err e) (vector_of c.args.window.now.bytes.items)) (c.in-Nothing.ensures.0 c.in-None.is) in (
      [],
      refl,
      entry_undecided c.args.decoder.now.strict c.args.self.now.base
          (c.decoder_laws.ensures _) c.args.window.now.ended c.args.place.now.place [] c.args.window.now.bytes.items
          c.args.window.now.text.position c.args.window.now.text.room (Err c.in-Err.error) c.in-None.is here
          (more ∙ open_exhausted (vector_of c.args.window.now.bytes.items)),
    )

pub returns-in-Some-clause-next : goal.returns-in-Some-clause-next
returns-in-Some-clause-next c = (
  [],
  refl,
  entry_ended c.args.decoder.now.strict c.args.self.now.base c.args.window.now.ended c.args.place.now.place []
      c.args.window.now.bytes.items c.args.window.now.text.position c.args.window.now.text.room _ c.in-Some.is (c.in-Nothing.ensures.1 _ c.in-Some.is),
)

pub slice_bounds-push_vector-end : goal.slice_bounds-push_vector-end
slice_bounds-push_vector-end c =
    let here = sym (c.in-Err.ensures.value ∙ ap (answer_of c.args.decoder.now.strict) c.as_slice-bytes.ensures) in
    let v = c.vector_at.ensures ∙ (λ i. once_ended (c.is_some.ensures i) (vector_of (c.as_slice-bytes.ensures i))) in
    let fits = whole_within c.args.decoder.now.strict c.args.self.now.base
    (c.decoder_laws.ensures _) c.args.window.now.ended c.args.place.now.place c.args.window.now.bytes.items c.args.window.now.text.position
    c.args.window.now.text.room c.in-Err.error here c.in-Refused.ensures c.vector_at.result v c.in-Whole.length c.in-Whole.is in
    let inside : c.in-Whole.length ≤ length c.as_slice-bytes.result.now = omega (arith, fits.0, ap length c.as_slice-bytes.ensures) in
    sym (length-take-le c.in-Whole.length c.as_slice-bytes.result.now inside)

pub push_vector-requires : goal.push_vector-requires
push_vector-requires c =
    let here = sym (c.in-Err.ensures.value ∙ ap (answer_of c.args.decoder.now.strict) c.as_slice-bytes.ensures) in
    let v = c.vector_at.ensures ∙ (λ i. once_ended (c.is_some.ensures i) (vector_of (c.as_slice-bytes.ensures i))) in
    let fits = whole_within c.args.decoder.now.strict c.args.self.now.base
    (c.decoder_laws.ensures _) c.args.window.now.ended c.args.place.now.place c.args.window.now.bytes.items c.args.window.now.text.position
    c.args.window.now.text.room c.in-Err.error here c.in-Refused.ensures c.vector_at.result v c.in-Whole.length c.in-Whole.is in
    let inside : c.in-Whole.length ≤ length c.as_slice-bytes.result.now = omega (arith, fits.0, ap length c.as_slice-bytes.ensures) in
    omega (arith, length-take-le c.in-Whole.length c.as_slice-bytes.result.now inside, fits.1)

pub slice_bounds-push_bad-end : goal.slice_bounds-push_bad-end
slice_bounds-push_bad-end c =
    let here = sym (c.in-Err.ensures.value ∙ ap (answer_of c.args.decoder.now.strict) c.as_slice-bytes.ensures) in
    let v = c.vector_at.ensures ∙ (λ i. once_ended (c.is_some.ensures i) (vector_of (c.as_slice-bytes.ensures i))) in
    let some = refused_some c.args.decoder.now.strict c.args.self.now.base
    (c.decoder_laws.ensures _) c.args.window.now.ended c.args.place.now.place c.args.window.now.bytes.items c.args.window.now.text.position
    c.args.window.now.text.room c.in-Err.error here c.in-Refused.ensures c.vector_at.result v in
    let fits : 1 ≤ length c.as_slice-bytes.result.now = omega (arith, some, ap length c.as_slice-bytes.ensures) in
    omega (arith, length-take-le 1 c.as_slice-bytes.result.now fits)

pub returns-in-Whole-clause-next : goal.returns-in-Whole-clause-next
returns-in-Whole-clause-next c =
    let here = sym (c.in-Err.ensures.value ∙ ap (answer_of c.args.decoder.now.strict) c.as_slice-bytes.ensures) in
    let v = c.vector_at.ensures ∙ (λ i. once_ended (c.is_some.ensures i) (vector_of (c.as_slice-bytes.ensures i))) in
    let is = rw (c.as_slice-bytes.ensures, c.requires.base) at c.push_vector.ensures.text in (
      _,
      is,
      vector_line c.args.decoder.now.strict c.args.self.now.base
          (c.decoder_laws.ensures _) c.args.window.now.ended c.args.place.now.place c.args.window.now.bytes.items c.args.window.now.text.position
          c.args.window.now.text.room c.in-Err.error here c.in-Refused.ensures c.vector_at.result v c.in-Whole.length c.in-Whole.is
          _ _ refl refl,
    )

pub returns-in-Cut-clause-next : goal.returns-in-Cut-clause-next
returns-in-Cut-clause-next c =
    let here = sym (c.in-Err.ensures.value ∙ ap (answer_of c.args.decoder.now.strict) c.as_slice-bytes.ensures) in
    let v = c.vector_at.ensures ∙ (λ i. once_ended (c.is_some.ensures i) (vector_of (c.as_slice-bytes.ensures i))) in (
      [],
      refl,
      cut_undecided c.args.decoder.now.strict c.args.self.now.base
          (c.decoder_laws.ensures _) c.args.window.now.ended c.args.place.now.place c.args.window.now.bytes.items c.args.window.now.text.position
          c.args.window.now.text.room c.in-Err.error here c.in-Refused.ensures c.vector_at.result v c.in-Cut.is [],
    )

pub returns-in-Absent-clause-next : goal.returns-in-Absent-clause-next
returns-in-Absent-clause-next c =
    let here = sym (c.in-Err.ensures.value ∙ ap (answer_of c.args.decoder.now.strict) c.as_slice-bytes.ensures) in
    let v = c.vector_at.ensures ∙ (λ i. once_ended (c.is_some.ensures i) (vector_of (c.as_slice-bytes.ensures i))) in
    let is = rw (c.as_slice-bytes.ensures, c.requires.base) at c.push_bad.ensures.text in (
      _,
      is,
      bad_line c.args.decoder.now.strict c.args.self.now.base
          (c.decoder_laws.ensures _) c.args.window.now.ended c.args.place.now.place c.args.window.now.bytes.items c.args.window.now.text.position
          c.args.window.now.text.room c.in-Err.error here c.in-Refused.ensures c.vector_at.result v c.in-Absent.is
          _ _ refl refl,
    )
