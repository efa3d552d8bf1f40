use Rattle.std.proofs.Common.{length, arith, ap, ◌∙◌}
use Rattle.std.proofs.lemmas.List.Elements.{All-rest}
use Rattle.x86_layout.specs.Sweeps.Sweep.{cuts_left}
use Rattle.x86_layout.specs.Sweeps.Cuts.{IsWithin}
use Rattle.x86_layout.proofs.SweepLemmas.Place.{all_within, begins_or_inside, one_more_cleared, all_cleared}
use Rattle.x86_layout.proofs.sweeps.marks.clear_inside_all.Goals as goal

pub loop-cut-init : goal.loop-cut-init
loop-cut-init c =
    let e = ap cuts_left c.into_iter-cut-iterator.ensures.into_iter_gives ∙ c.new-cut-items.ensures in
    (tt, tt, rw e (all_within _ (c.lengths.ensures.within _) c.args.bytes.now), λ p h. cc (e))

pub loop-cut-preserved : goal.loop-cut-preserved
loop-cut-preserved c =
    let before = c.loop-cut.invariant in
    let e = c.in-Some.ensures.steps in
    let within = All-rest (IsWithin (length c.args.bytes.now)) c.in-Some.cut _ (cuts_left c.loop-cut.cut-iterator) e before.2 in (
      tt,
      tt,
      within,
      λ p h. one_more_cleared _ _ _ _ _ (c.clear.ensures p (omega (arith, c.loop-cut.auto.marks))) (rw e at (before.3 p h)),
    )

pub returns : goal.returns
returns c =
    let strict = c.args.decoder.now.strict in
    λ p h. all_cleared _ _ _ _ (rw (c.in-None.ensures.steps.0) at (c.loop-cut.invariant.3 p h))
    (begins_or_inside strict (c.lengths.ensures.within strict) p c.args.bytes.now (omega (arith, c.requires)))
