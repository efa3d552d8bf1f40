-- The types of rows, and variants of them.
pub use Rattle.x86_operands.specs.declared.rows.Place.{Place}
pub use Rattle.x86_operands.specs.declared.rows.Reg.{Reg}
pub use Rattle.x86_operands.specs.declared.rows.Rm.{Rm}
pub use Rattle.x86_operands.specs.declared.rows.When.{When}
pub use Rattle.x86_operands.specs.declared.rows.Names.{Names}
pub use Rattle.x86_operands.specs.declared.rows.Where.{Where}
pub use Rattle.x86_operands.specs.declared.rows.TemplateRow.{TemplateRow}
pub use Rattle.x86_operands.specs.declared.rows.Place.TheVariants.{Bare, Memory, Register, Either}
pub use Rattle.x86_operands.specs.declared.rows.Names.TheVariants.{Own, Name, ByReg, ByRm}
