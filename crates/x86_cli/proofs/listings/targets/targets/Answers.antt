use Rattle.std.proofs.Common.{Bool, List, ◌≡◌, ℕ, ◌<◌, ◌∙◌, sym, ap, arith, false, length, slice_index_or}
use Rattle.x86_layout.specs.Sweeps.Marks.{is_marked}
use Rattle.x86_cli.specs.Listings.Targets.{targets_at}
use Rattle.x86_cli.proofs.ListingLemmas.Live.{live_closes}
use Rattle.x86_cli.proofs.ListingLemmas.Target.{place_failed, place_passed, place_put, targets-end}
use Rattle.x86_cli.proofs.ListingLemmas.Whole.{whole_fails, whole_lists}
use Rattle.x86_cli.proofs.listings.targets.targets.Goals.{then-marks-place+in-Ok-put_line, else-marks-place}
use Rattle.x86_cli.proofs.listings.targets.targets.Goals as goal

-- the mark of a place of the image
marked_at : (strict : Bool) (image shown : List ℕ) (marks : List Bool) (place : ℕ) → shown ≡ image → place < length shown →
    ((p : ℕ) → p < length shown → slice_index_or marks p false ≡ is_marked strict shown p) → (place < length image)
    × (slice_index_or marks place false ≡ is_marked strict image place)
marked_at strict image shown marks place same lt all = grind (arith, all place)

pub places-init : goal.places-init
places-init g c = rw c.new-out.ensures (whole_lists _ _ _ _ _ _ _ c.in-Ok.text _ c.in-Ok.ensures)

pub returns-in-Err : goal.returns-in-Err
returns-in-Err g c = whole_fails _ _ _ _ _ _ (targets_at c.args.decoder.now.strict) c.in-Err.failed _ _ c.of_failed.ensures.status
    c.of_failed.ensures.gone c.in-Err.ensures

pub places-preserved : goal.places-preserved
places-preserved g c =
    let m = marked_at c.args.decoder.now.strict c.in-Ok.text.image.items c.as_slice-image.result.now c.mark.new.marks c.places.place
    c.as_slice-image.ensures.value c.places-test.true c.mark.ensures in
    elim c.if-marks-place.branch [
      | then-marks-place+in-Ok-put_line w ↦ rw (w.streams-is, w.out-is)
          (place_put _ _ _ _ _ _ _ _ _ _ _ m.0 _ _ c.places.invariant (sym m.1 ∙ w.if-marks-place.true) _ _
          (rw (w.push_u64.ensures.text, w.new-line.ensures) at w.in-Ok-put_line.ensures))
      | else-marks-place w ↦ rw (w.streams-is, w.out-is) (place_passed _ _ _ _ _ _ _ _ _ _ _ m.0 _ _ c.places.invariant (sym m.1 ∙ w.if-marks-place.false))
    ]

pub returns-in-Err-put_line : goal.returns-in-Err-put_line
returns-in-Err-put_line g c =
    let m = marked_at c.args.decoder.now.strict c.in-Ok.text.image.items c.as_slice-image.result.now c.mark.new.marks c.places.place
    c.as_slice-image.ensures.value c.places-test.true c.mark.ensures in
    place_failed _ _ _ _ _ _ _ _ _ _ _ m.0 _ _ c.places.invariant
    (sym m.1 ∙ c.if-marks-place.true) c.in-Err-put_line.failed _ _ _ c.of_failed-in-Err-put_line.ensures.status
    c.of_failed-in-Err-put_line.ensures.gone (rw (c.push_u64.ensures.text, c.new-line.ensures) at c.in-Err-put_line.ensures)

pub returns : goal.returns
returns g c =
    let all : c.places.place ≡ length c.in-Ok.text.image.items =
    omega (arith, c.places-test.false, c.places.auto.place-end, ap length c.as_slice-image.ensures.value) in
    live_closes _ _ _ _ _ _ _ _ _ _ _ _ _ _ _ c.places.invariant _ _ _
    (λ xs stop. targets-end c.args.decoder.now.strict c.places.place c.in-Ok.text.image.items c.in-Ok.text.ending all) c.end.ensures
