use Rattle.std.proofs.Common.{arith}
use Rattle.x86_operands.proofs.HeadLemmas.{follows_at, number_below}
use Rattle.x86_operands.proofs.heads.word_after.Goals as goal

pub returns : goal.returns
returns c =
    let found = c.args.found.now in
    follows_at found.row.form found.form_number _ found.fits found.form_number_is

pub bounds-found : goal.bounds-found
bounds-found c =
    let found = c.args.found.now in
    number_below found.row.form found.form_number found.fits found.form_number_is

pub offset_bounds-found : goal.offset_bounds-found
offset_bounds-found c =
    let found = c.args.found.now in
    let below = number_below found.row.form found.form_number found.fits found.form_number_is in
    omega (arith, below)
