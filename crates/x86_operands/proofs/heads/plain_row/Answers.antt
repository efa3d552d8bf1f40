use Rattle.std.proofs.Common.{arith, sym}
use Rattle.x86_operands.proofs.HeadLemmas.{number_below, plain_at, row_below}
use Rattle.x86_operands.proofs.heads.plain_row.Goals as goal

pub bounds-head-found : goal.bounds-head-found
bounds-head-found c =
    let found = c.args.found.now in
    number_below found.row.form found.form_number found.fits found.form_number_is

pub offset_bounds-found : goal.offset_bounds-found
offset_bounds-found c =
    let found = c.args.found.now in
    let below = number_below found.row.form found.form_number found.fits found.form_number_is in
    omega (arith, below)

pub bounds-row-head : goal.bounds-row-head
bounds-row-head c =
    let found = c.args.found.now in
    row_below found.form_number _ (number_below found.row.form found.form_number found.fits found.form_number_is)

pub returns-then-has : goal.returns-then-has
returns-then-has c =
    plain_at c.args.found.now c.args.modrm _ _ (sym c.if-not-is_direct.ensures) (sym c.if-has.ensures)
