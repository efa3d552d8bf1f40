use Rattle.x86_objdump.proofs.Columns.{in_any_column}
use Rattle.x86_objdump.proofs.lines.put_any_bytes.Goals as goal

pub returns-clause-text : goal.returns-clause-text
returns-clause-text c =
    in_any_column _ _ _ _ _ _ _ _ c.put_spaced_bytes-at.ensures.text c.saturating_sub-blanks.ensures c.put_first.ensures.text
