use Rattle.std.proofs.Common.{◌≡◌, drop}
use Rattle.x86_operands.specs.Columns.{choose}
use Rattle.x86_operands.proofs.rows.choose.Given as goal

abbrev pub invariant-loop-row : goal.invariant-loop-row
invariant-loop-row l =
    choose l.rows l.own l.strict l.prefixes l.modrm ≡ choose (drop l.row-index l.rows) l.own l.strict l.prefixes l.modrm
