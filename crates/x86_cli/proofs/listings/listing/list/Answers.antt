use Rattle.std.proofs.Common.{◌++◌, take, [], arith, ap, ◌∙◌, length, length-drop}
use Rattle.std.proofs.Math.Seq.{drop-append_seam, take-append_seam}
use Rattle.x86_cli.proofs.ListingLemmas.Live.{fresh, live_new, live_take, live_line, live_unput, live_unsent, live_closes, live_fill}
use Rattle.x86_cli.proofs.listings.listing.list.Goals as goal

pub lines-init : goal.lines-init
lines-init g c =
    let e = c.new-window.ensures in
    record {
      image = [];
      live = rw (e.ended, e.bytes, c.new-out.ensures, c.requires.first) (live_new _ _ _ _ _ _ _ _ _ (fresh _ _ e.position e.room e.unread));
      short = omega (arith, ap length c.new-out.ensures);
      fits = omega (arith, ap length e.bytes, e.room, c.requires.first);
      base = c.requires.base;
    }

pub lines-preserved-in-Line : goal.lines-preserved-in-Line
lines-preserved-in-Line g c =
    let s = live_take _ _ _ _ _ _ _ _ _ _ _ _ _ _ _ c.lines.invariant.live _ _ _ c.take_known.ensures.ended c.take_known.ensures.takes in
    let step = c.in-Line.ensures.next in
    let puts = rw (step.1, c.len-held.ensures, drop-append_seam, take-append_seam) at c.in-Ok.ensures.puts in
    record {
      image = c.lines.invariant.image ++ take c.in-Line.length c.take_known.new.self.bytes.items;
      live = rw (c.advance.ensures.place, c.leave.ensures) (live_line _ _ _ _ _ _ _ _ _ _ _ _ _ _ _ s _ _ _ _ step.2.2 step.2.3 puts);
      short = c.in-Ok.ensures.short;
      fits = omega (
        arith,
        simp length-drop at (ap length c.leave.ensures),
        c.take_known.ensures.takes.fits.0,
        c.lines.invariant.fits,
        step.2.1,
        c.advance.ensures.place,
      );
      base = c.advance.ensures.base ∙ c.lines.invariant.base;
    }

pub returns-in-Err : goal.returns-in-Err
returns-in-Err g c =
    let s = live_take _ _ _ _ _ _ _ _ _ _ _ _ _ _ _ c.lines.invariant.live _ _ _ c.take_known.ensures.ended c.take_known.ensures.takes in
    let step = c.in-Line.ensures.next in
    live_unput _ _ _ _ _ _ _ _ _ _ _ _ _ _ _ s _ c.in-Err.failed _ _ _ _ c.of_failed.ensures.status c.of_failed.ensures.gone
    step.2.2 (rw (step.1, c.len-held.ensures, drop-append_seam, take-append_seam) at c.in-Err.ensures.puts)

pub returns-in-Err-send_all : goal.returns-in-Err-send_all
returns-in-Err-send_all g c =
    let s = live_take _ _ _ _ _ _ _ _ _ _ _ _ _ _ _ c.lines.invariant.live _ _ _ c.take_known.ensures.ended c.take_known.ensures.takes in
    live_unsent _ _ _ _ _ _ _ _ _ _ _ _ _ _ _ s _ c.in-Err-send_all.failed _ _ c.of_failed-in-Err-send_all.ensures.status
    c.of_failed-in-Err-send_all.ensures.gone (rw c.in-Undecided.ensures.next.1 at c.in-Err-send_all.ensures)

pub lines-preserved-then-not-step : goal.lines-preserved-then-not-step
lines-preserved-then-not-step g c =
    let s = live_take _ _ _ _ _ _ _ _ _ _ _ _ _ _ _ c.lines.invariant.live _ _ _ c.take_known.ensures.ended c.take_known.ensures.takes in
    let same = c.step.ensures.same c.if-not-step.true in
    let f = rw same at c.fill.ensures.fills in
    record {
      image = c.lines.invariant.image;
      live = rw (c.fill.ensures.bytes, same) (live_fill _ _ _ _ _ _ _ _ _ _ _ _ _ _ (rw c.in-Undecided.ensures.next.2.0 at s) _ _ _ _ _
          (rw c.in-Undecided.ensures.next.1 at c.in-Ok-send_all.ensures) (c.step.ensures.open c.if-not-step.true) c.in-Undecided.ensures.next.2.2 f);
      short = omega (arith, ap length c.in-Ok-send_all.ensures.1.0);
      fits = omega (
        arith,
        ap (λ b. length b.items) (c.fill.ensures.bytes ∙ ap (λ w. w.bytes) same),
        f.fits.0,
        c.take_known.ensures.takes.fits.0,
        c.lines.invariant.fits,
      );
      base = c.lines.invariant.base;
    }

pub returns-in-Refused : goal.returns-in-Refused
returns-in-Refused g c =
    let s = live_take _ _ _ _ _ _ _ _ _ _ _ _ _ _ _ c.lines.invariant.live _ _ _ c.take_known.ensures.ended c.take_known.ensures.takes in
    live_closes _ _ _ _ _ _ _ _ _ _ _ _ _ _ _ s _ _ _ c.in-Refused.ensures.next.2
    (rw (c.in-Refused.ensures.next.1, c.refusal_of-text.ensures.text, c.place.ensures) at c.put_last_line.ensures)

pub returns-in-Ended : goal.returns-in-Ended
returns-in-Ended g c =
    let s = live_take _ _ _ _ _ _ _ _ _ _ _ _ _ _ _ c.lines.invariant.live _ _ _ c.take_known.ensures.ended c.take_known.ensures.takes in
    live_closes _ _ _ _ _ _ _ _ _ _ _ _ _ _ _ s _ _ _ c.in-Ended.ensures.next.2 (rw c.in-Ended.ensures.next.1 at c.end.ensures)
