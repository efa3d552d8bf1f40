-- The types that definitions and proofs of this crate import, with the variants of instances and positions, and the words on prefixes, ModRM
-- and registers. A crate above sees only what is of crates below this one.
pub use Rattle.x86_regs.specs.declared.RegSpec.{RegSpec}
pub use Rattle.x86_regs.specs.declared.RegisterClass.{RegisterClass}
pub use Rattle.x86_fields.specs.declared.prefixes.Prefixes.{Prefixes}
pub use Rattle.x86_fields.specs.declared.raw.Raw.{Raw}
pub use Rattle.x86_fields.specs.declared.errors.DecodeError.{DecodeError}
pub use Rattle.x86_fields.specs.declared.sizes.Width.{Width}
pub use Rattle.x86_fields.specs.ModRM.{reg_field, rm_field, is_memory, absent_modrm, as_register}
pub use Rattle.x86_fields.specs.Raw.{has_w, has_r, has_b, is_zero}
pub use Rattle.x86_fields.specs.Prefixes.{operand_size, address_size}
pub use Rattle.x86_fields.specs.Run.{repnz, rep}
pub use Rattle.x86_fields.specs.Sizes.{v_class, vq_class, vd_class, dq_class, class_of, register_of}
pub use Rattle.x86_regs.specs.Register.{reg_spec}
pub use Rattle.x86_regs.specs.Class.{width_of}
pub use Rattle.x86_forms.specs.declared.Form.{Form}
pub use Rattle.x86_forms.specs.declared.TableRow.{TableRow}
pub use Rattle.x86_operands.specs.declared.operands.Operand.{Operand}
pub use Rattle.x86_operands.specs.declared.operands.Slot.{Slot}
pub use Rattle.x86_operands.specs.declared.vocabulary.RegisterSlot.{RegisterSlot}
pub use Rattle.x86_operands.specs.declared.vocabulary.PointerSlot.{PointerSlot}
pub use Rattle.x86_operands.specs.declared.vocabulary.OperandEncoding.{OperandEncoding}
pub use Rattle.x86_operands.specs.declared.vocabulary.Fault.{Fault}
pub use Rattle.x86_operands.specs.declared.vocabulary.Verdict.{Verdict}
pub use Rattle.x86_operands.specs.declared.vocabulary.PrefixChange.{PrefixChange}
pub use Rattle.x86_operands.specs.declared.vocabulary.ModrmUse.{ModrmUse}
pub use Rattle.x86_operands.specs.declared.sizing.Size.{Size}
pub use Rattle.x86_operands.specs.declared.templates.Template.{Template}
pub use Rattle.x86_operands.specs.declared.heads.After.{After}
pub use Rattle.x86_operands.specs.declared.heads.Head.{Head}
pub use Rattle.x86_operands.specs.declared.order.Position.{Position}
pub use Rattle.x86_operands.specs.declared.order.Order.{Order}
pub use Rattle.x86_operands.specs.declared.reader.Reading.{Reading}
pub use Rattle.x86_operands.specs.declared.operand_list.Operands.{Operands}
pub use Rattle.x86_operands.specs.declared.asks.Ask.{Ask}
pub use Rattle.x86_operands.specs.declared.asks.RecordAt.{RecordAt}
pub use Rattle.x86_operands.specs.declared.vocabulary.OperandEncoding.TheVariants.{G, Gmm, E, Emm, I8, I16, I32, I64, I32From16, I64Whole, U8}
pub use Rattle.x86_operands.specs.declared.vocabulary.OperandEncoding.TheVariants.{U16, X8, X16, ConstantI8, ConstantU8, Address32, Address64}
pub use Rattle.x86_operands.specs.declared.vocabulary.Fault.TheVariants.{BadOpcode, BadOperand, Incomplete}
pub use Rattle.x86_operands.specs.declared.vocabulary.Verdict.TheVariants.{Accepts, NamedBySuffix, Refuses}
pub use Rattle.x86_operands.specs.declared.vocabulary.PrefixChange.TheVariants.{Keeps, ClearsOperandSize, SetsEs}
pub use Rattle.x86_operands.specs.declared.vocabulary.ModrmUse.TheVariants.{Absent, EitherForm, Registers}
pub use Rattle.x86_operands.specs.declared.vocabulary.PointerSlot.TheVariants.{Deref, DerefEsi, DerefEdi, DerefRsi, DerefRdi}
pub use Rattle.x86_operands.specs.declared.order.Position.TheVariants.{First, Second, Third, Fourth, Nowhere}
