use Rattle.std.proofs.Common.{arith}
use Rattle.x86_forms.specs.declared.TableRow.{TableRow}
use Rattle.x86_groups.proofs.CellLemmas.{cells_below, number_below, row_below, row_of_cell}
use Rattle.x86_groups.proofs.cells.cell_row.Goals as goal

pub bounds-form_number : goal.bounds-form_number
bounds-form_number c = number_below c.args.form_number _ c.requires.1

pub bounds-cell-group : goal.bounds-cell-group
bounds-cell-group c = cells_below c.args.form_number _ (number_below c.args.form_number _ c.requires.1)

pub bounds-row-cell : goal.bounds-row-cell
bounds-row-cell c =
    row_below _ _ _ _ (cells_below c.args.form_number _ (number_below c.args.form_number _ c.requires.1)) c.cell_index.ensures.small

pub numbered-requires : goal.numbered-requires
numbered-requires c =
    let row : TableRow = record { opcode = 0; form = c.requires.0 } in
    (row_of_cell c.args.form_number _ _ _ c.args.modrm row _ _ _ c.requires.1 c.cell_index.ensures.reg c.cell_index.ensures.index
    c.operation_number-number.ensures c.if-number-eq0.false).named

pub returns-clause-sure : goal.returns-clause-sure
returns-clause-sure c = λ found is.
    let row = row_of_cell c.args.form_number _ _ _ c.args.modrm found _ _ _ is c.cell_index.ensures.reg c.cell_index.ensures.index
    c.operation_number-number.ensures c.if-number-eq0.false in
    rw c.numbered.ensures (record { at_once = record { small = omega arith; fits = row.fits }; instance = row.instance })

pub returns-clause-free : goal.returns-clause-free
returns-clause-free c =
    let row : TableRow = record { opcode = 0; form = c.requires.0 } in
    (row_of_cell c.args.form_number _ _ _ c.args.modrm row _ _ _ c.requires.1 c.cell_index.ensures.reg c.cell_index.ensures.index
    c.operation_number-number.ensures c.if-number-eq0.false).free
