use Rattle.std.proofs.Common.{arith}
use Rattle.std.proofs.lemmas.List.{take_more_set}
use Rattle.x86_streams.proofs.TextLemmas.Spells.{spells_blank, spells_pair}
use Rattle.x86_streams.proofs.text.pairs.read_line.Goals as goal

pub pairs-preserved-in-Blank : goal.pairs-preserved-in-Blank
pairs-preserved-in-Blank c =
    let i = c.pairs.invariant in
    let first = c.after_blank-first.ensures in
    record {
      more = i.more;
      fits = i.fits;
      spells =
          spells_blank c.args.text.now _ _ (first.spells _ i.spells) (omega (arith, c.if-at-text.true, first.near)) c.in-Blank.ensures.0;
    }

pub pairs-preserved : goal.pairs-preserved
pairs-preserved c =
    let i = c.pairs.invariant in
    let room = c.pairs-test.true in
    let first = c.after_blank-first.ensures in
    record {
      more = omega (arith, i.more);
      fits = omega (arith, room);
      spells = rw (take_more_set c.pairs.values c.pairs.count _ (omega (arith, room, c.pairs.auto.values)))
          (spells_pair c.args.text.now c.after_blank-first.result c.in-Digit.high c.in-Digit-kind_of.low _ (first.spells _ i.spells)
          (omega (arith, c.if-at-text.true, first.near)) c.in-Digit.ensures.0 c.in-Digit.ensures.1 c.in-Digit-kind_of.ensures.1);
    }
