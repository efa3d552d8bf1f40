use Rattle.std.proofs.Common.{arith, refl}
use Rattle.x86_objdump.proofs.Heads.{alone, goes_on, with_operands}
use Rattle.x86_objdump.proofs.text.instructions.put_shown.Goals as goal

pub returns-then-end-blank-clause-text : goal.returns-then-end-blank-clause-text
returns-then-end-blank-clause-text c =
    alone _ _ _ _ _ _ _ _ _ _ _ _ (omega (arith, c.requires.room)) (omega (arith, c.requires.room, c.put_head-head.ensures.short, c.put_head-head.auto.cells))
    (omega (arith, c.requires.room, c.put_head-head.ensures.short, c.put_head-head.auto.cells, c.put_blanks-blank.ensures.place, c.put_blanks-blank.auto.cells))
    (omega (
      arith,
      c.requires.room,
      c.put_head-head.ensures.short,
      c.put_head-head.auto.cells,
      c.put_blanks-blank.ensures.place,
      c.put_blanks-blank.auto.cells,
      c.put_operands-end.ensures.short,
      c.put_operands-end.auto.cells,
    ))
    c.put_head-head.ensures.text refl c.put_blanks-blank.ensures.text c.put_blanks-blank.ensures.place
    c.put_operands-end.ensures.text c.if-end-blank.true

pub returns-else-end-blank-clause-text : goal.returns-else-end-blank-clause-text
returns-else-end-blank-clause-text c =
    with_operands _ _ _ _ _ _ _ _ _ _ _ _ (omega (arith, c.requires.room))
    (omega (arith, c.requires.room, c.put_head-head.ensures.short, c.put_head-head.auto.cells))
    (omega (arith, c.requires.room, c.put_head-head.ensures.short, c.put_head-head.auto.cells, c.put_blanks-blank.ensures.place, c.put_blanks-blank.auto.cells))
    (omega (
      arith,
      c.requires.room,
      c.put_head-head.ensures.short,
      c.put_head-head.auto.cells,
      c.put_blanks-blank.ensures.place,
      c.put_blanks-blank.auto.cells,
      c.put_operands-end.ensures.short,
      c.put_operands-end.auto.cells,
    ))
    c.put_head-head.ensures.text refl c.put_blanks-blank.ensures.text c.put_blanks-blank.ensures.place
    c.put_operands-end.ensures.text _ _ c.if-end-blank.false c.put_remark.ensures.text

pub put_blanks-blank-requires-clause-after : goal.put_blanks-blank-requires-clause-after
put_blanks-blank-requires-clause-after c =
    goes_on _ _ _ _ _ (omega (arith, c.requires.room)) (omega (arith, c.requires.room, c.put_head-head.ensures.short, c.put_head-head.auto.cells))
    c.put_head-head.ensures.text
