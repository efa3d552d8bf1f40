use Rattle.std.proofs.Common.{◌++◌, ◌/◌, arith, sym, ap, ◌∙◌, take, append_assoc}
use Rattle.std.specs.Prelude.{decimal}
use Rattle.itoa.proofs.Decimal.{decimal_pair}
use Rattle.x86_streams.proofs.lines.digits.put_last_two.Goals as goal

pub returns-clause-text : goal.returns-clause-text
returns-clause-text c = λ before start.
    let n = c.args.n in
    let pair = take 2 c.pair_of.result.now in
    c.put_first.ensures.text ∙ ap (λ xs. xs ++ pair) start ∙ append_assoc before (decimal (n / 100)) pair
    ∙ ap (λ xs. before ++ (decimal (n / 100) ++ take 2 xs)) c.pair_of.ensures
    ∙ ap (λ xs. before ++ xs) (sym (decimal_pair n c.requires.many (omega (arith, c.ranges.n.fits))))
