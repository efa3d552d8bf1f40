use Rattle.std.proofs.Common.{refl, ap, sym, arith, ◌∙◌, length, length-append}
use Rattle.std.proofs.lemmas.List.{drop_all}
use Rattle.x86_cli.proofs.ListingLemmas.Live.{fresh, live_new}
use Rattle.x86_cli.proofs.ListingLemmas.Whole.{ends_of, whole_filled, whole_left, whole_read, whole_taken, whole_unsent}
use Rattle.x86_cli.proofs.listings.targets.read_whole.Goals as goal

pub windows-init : goal.windows-init
windows-init g c =
    let e = c.new-window.ensures in
    record {
      whole = rw (c.new-image.ensures, e.ended, e.bytes) (live_new _ _ _ _ ends_of ends_of _ _ _ (fresh _ _ e.position e.room e.unread), refl);
      fits = omega (arith, ap length c.new-image.ensures, ap length e.bytes, e.room);
    }

pub windows-preserved : goal.windows-preserved
windows-preserved g c =
    let left = c.leave.ensures ∙ drop_all c.append-count.result c.take_known.new.self.bytes.items (omega (arith, c.append-count.ensures.count)) in
    let s = whole_taken _ _ _ _ _ _ _ _ _ _ _ (whole_left _ _ _ _ _ _ _ _ _ _ _ c.windows.invariant.whole _ _ _
    c.take_known.ensures.takes.rest (λ e. e)) _ _ c.append-count.ensures.image left in
    let steps = c.step.ensures.steps c.if-not-step.false in
    record {
      whole = whole_left _ _ _ _ _ _ _ _ _ _ _ (rw (sym c.take_known.ensures.ended ∙ c.in_default.is) at s) _ _ _ steps.rest (λ _. refl);
      fits = omega (
        arith,
        c.windows.invariant.fits,
        c.take_known.ensures.takes.fits.1,
        steps.fits.1,
        ap length left,
        length-append c.windows.image.items c.take_known.new.self.bytes.items,
        ap length c.append-count.ensures.image,
      );
    }

pub windows-preserved-in-Ok : goal.windows-preserved-in-Ok
windows-preserved-in-Ok g c =
    let left = c.leave.ensures ∙ drop_all c.append-count.result c.take_known.new.self.bytes.items (omega (arith, c.append-count.ensures.count)) in
    let s = whole_taken _ _ _ _ _ _ _ _ _ _ _ (whole_left _ _ _ _ _ _ _ _ _ _ _ c.windows.invariant.whole _ _ _
    c.take_known.ensures.takes.rest (λ e. e)) _ _ c.append-count.ensures.image left in
    let same = c.step.ensures.same c.if-not-step.true in
    let f = rw same at c.fill.ensures.fills in
    record {
      whole = rw (c.fill.ensures.bytes, same) (whole_filled _ _ _ _ _ _ _ _ _ _ (rw (sym c.take_known.ensures.ended ∙ c.in_default.is) at s)
          _ _ _ _ _ c.in-Ok.ensures (c.step.ensures.open c.if-not-step.true) f refl);
      fits = omega (
        arith,
        c.windows.invariant.fits,
        c.take_known.ensures.takes.fits.1,
        f.fits.1,
        ap (λ b. length b.items) (c.fill.ensures.bytes ∙ ap (λ w. w.bytes) same),
        ap length left,
        length-append c.windows.image.items c.take_known.new.self.bytes.items,
        ap length c.append-count.ensures.image,
      );
    }

pub returns-in-Err : goal.returns-in-Err
returns-in-Err g c =
    let left = c.leave.ensures ∙ drop_all c.append-count.result c.take_known.new.self.bytes.items (omega (arith, c.append-count.ensures.count)) in
    let s = whole_taken _ _ _ _ _ _ _ _ _ _ _ (whole_left _ _ _ _ _ _ _ _ _ _ _ c.windows.invariant.whole _ _ _
    c.take_known.ensures.takes.rest (λ e. e)) _ _ c.append-count.ensures.image left in
    whole_unsent _ _ _ _ _ _ _ _ _ _ _ (rw (sym c.take_known.ensures.ended ∙ c.in_default.is) at s) c.in-Err.failed _ _ c.in-Err.ensures

pub returns-in-Some : goal.returns-in-Some
returns-in-Some g c =
    let left = c.leave.ensures ∙ drop_all c.append-count.result c.take_known.new.self.bytes.items (omega (arith, c.append-count.ensures.count)) in
    let s = whole_taken _ _ _ _ _ _ _ _ _ _ _ (whole_left _ _ _ _ _ _ _ _ _ _ _ c.windows.invariant.whole _ _ _
    c.take_known.ensures.takes.rest (λ e. e)) _ _ c.append-count.ensures.image left in
    whole_read _ _ _ _ _ _ _ c.in-Some.ending _ _ _ _ (rw (sym c.take_known.ensures.ended ∙ c.in-Some.is) at s) left refl refl
