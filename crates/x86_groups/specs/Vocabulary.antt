-- The types that definitions and proofs of this crate import, with variants of them, and the words on prefixes, ModRM and
-- registers.
pub use Rattle.x86_operands.specs.Vocabulary.{DecodeError, Form, Prefixes, RegisterClass, TableRow, Width, class_of, has_r, has_w}
pub use Rattle.x86_operands.specs.Vocabulary.{is_memory, operand_size, reg_field, reg_spec, rep, repnz, rm_field, v_class, width_of}
pub use Rattle.x86_operands.specs.declared.vocabulary.Fault.{Fault}
pub use Rattle.x86_operands.specs.declared.vocabulary.ModrmUse.{ModrmUse}
pub use Rattle.x86_operands.specs.declared.heads.After.{After}
pub use Rattle.x86_operands.specs.declared.sizing.Size.{Size}
pub use Rattle.x86_operands.specs.declared.reader.Reading.{Reading}
pub use Rattle.x86_operands.specs.declared.vocabulary.Fault.TheVariants.{BadOpcode, BadOperand, Incomplete}
pub use Rattle.x86_operands.specs.declared.vocabulary.Verdict.TheVariants.{Refuses}
pub use Rattle.x86_operands.specs.declared.vocabulary.PrefixChange.TheVariants.{Keeps, ClearsOperandSize}
pub use Rattle.x86_operands.specs.declared.vocabulary.ModrmUse.TheVariants.{EitherForm, Registers}
pub use Rattle.x86_operands.specs.declared.rows.Rm.{Rm}
pub use Rattle.x86_operands.specs.declared.rows.Names.{Names}
pub use Rattle.x86_operands.specs.declared.rows.TemplateRow.{TemplateRow}
pub use Rattle.x86_operands.specs.declared.rows.Names.TheVariants.{Own, Name}
