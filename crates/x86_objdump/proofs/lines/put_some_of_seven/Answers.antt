use Rattle.std.proofs.Common.{arith, take, ◌++◌, ap, ◌∙◌, length-take-le, take-take}
use Rattle.x86_objdump.specs.Lines.{column}
use Rattle.x86_objdump.proofs.Columns.{in_column}
use Rattle.x86_objdump.proofs.lines.put_some_of_seven.Goals as goal

pub returns-clause-text : goal.returns-clause-text
returns-clause-text c =
    in_column _ _ _ _ _ _ _ (take 7 c.args.known.now) (omega (arith, c.requires.room)) (length-take-le 7 c.args.known.now c.requires.there) c.requires.few
    c.put_spaced_bytes.ensures.text c.put_spaced_bytes.ensures.place c.put_first.ensures.text
    ∙ ap (λ bytes. take c.args.at c.args.cells.now ++ column bytes) (take-take c.args.count 7 c.args.known.now c.requires.few)
