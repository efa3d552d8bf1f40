-- What == answers of two values of a type.
use Rattle.std.specs.Prelude.{Bool}
use Rattle.x86_forms.specs.declared.Map.{Map}
use Rattle.x86_forms.specs.declared.Column.{Column}
use Rattle.x86_forms.specs.declared.Form.{Form}
use Rattle.x86_forms.specs.declared.TableRow.{TableRow}
use Rattle.x86_forms.specs.contracts.MapPartialEq.TheImpl as map_eq
use Rattle.x86_forms.specs.contracts.ColumnPartialEq.TheImpl as column_eq
use Rattle.x86_forms.specs.contracts.equality.FormPartialEq.TheImpl as form_eq
use Rattle.x86_forms.specs.contracts.TableRowPartialEq.TheImpl as row_eq

unfoldable pub equal_maps : Map → Map → Bool
equal_maps = (map_eq.ghosts).eq

unfoldable pub equal_columns : Column → Column → Bool
equal_columns = (column_eq.ghosts).eq

unfoldable pub equal_forms : Form → Form → Bool
equal_forms = (form_eq.ghosts).eq

unfoldable pub equal_rows : TableRow → TableRow → Bool
equal_rows = (row_eq.ghosts).eq
