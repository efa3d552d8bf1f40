-- The operands of instances for which no byte is read: each is one that has a line of its own in `known_operand`.
use Rattle.std.proofs.Common.{◌≡◌, ℕ, Bool, true, false, if◌then◌else◌, Option, Some, None, List, [], ◌∷◌, All, arith}
use Rattle.std.proofs.lemmas.List.Elements.{All-nil, All-cons}
use Rattle.x86_groups.specs.Vocabulary.{Prefixes, RegisterClass, TableRow}
use Rattle.x86_fields.specs.declared.raw.Raw.{Raw}
use Rattle.x86_forms.specs.Groups.{is_group}
use Rattle.x86_forms.specs.Words.{carried}
use Rattle.x86_operands.specs.declared.vocabulary.OperandEncoding.{OperandEncoding}
use Rattle.x86_operands.specs.declared.vocabulary.OperandEncoding.TheVariants as encoding
use Rattle.x86_operands.specs.declared.rows.TemplateRow.{TemplateRow}
use Rattle.x86_operands.specs.declared.templates.Template.{Template}
use Rattle.x86_fields.specs.declared.sizes.Width.{Width}
use Rattle.x86_operands.specs.declared.operands.Slot.TheVariants as slots
use Rattle.x86_operands.specs.declared.operands.Operand.TheVariants as operands
use Rattle.x86_operands.specs.Columns.{choose, instance_of_row}
use Rattle.x86_operands.specs.Encodings.{immediate_by, resolved}
use Rattle.x86_operands.specs.Forms.{form_instance, form_record}
use Rattle.x86_operands.specs.Rows.{form_rows}
use Rattle.x86_operands.specs.Operands.{shape}
use Rattle.x86_operands.specs.Templates.{reg_part, rm_encoding}
use Rattle.x86_operands.specs.RowSteps.{immediate_read, known_operand, memory_or}
use Rattle.x86_groups.specs.Groups.{group_instance, group_record, operand_encodings, record_of}
use Rattle.x86_groups.specs.Rows.{group_rows}

module _ (q : Prefixes) (m : ℕ) (memory : Option Raw) where
  -- an unsigned 0 only where the encoding is that constant
  abbrev pub IsKnown : OperandEncoding → Type 0
  IsKnown s = immediate_read s ≡ None → known_operand s q m memory ≡ (slots.ImmU8, operands.ImmediateU8 0) → s ≡ encoding.ConstantU8 0

  resolved_known : (s : OperandEncoding) (n : ℕ) (p : Prefixes) → IsKnown (resolved s n p)
  unfolding shape
  resolved_known s n p = grind arith

  reg_known : (t : Template) (n : ℕ) → IsKnown (reg_part t n)
  unfolding shape
  reg_known t n = grind arith

  rm_known : (w : Width) → IsKnown (rm_encoding w)
  unfolding shape
  rm_known w = grind arith

  row_known : (chosen : TemplateRow) (row : TableRow) (p : Prefixes) (n : ℕ) → All IsKnown (operand_encodings (instance_of_row chosen row p n))
  row_known chosen row p n =
      let instance = instance_of_row chosen row p n in
      let t = chosen.template in
      let k = carried row.form in
      let lasts = All-cons IsKnown instance.last (instance.extra ∷ []) (resolved_known t.last k p)
      (All-cons IsKnown instance.extra [] (resolved_known t.extra k p) (All-nil IsKnown)) in
      All-cons IsKnown instance.rm (instance.reg ∷ instance.last ∷ instance.extra ∷ []) (rm_known t.rm)
      (All-cons IsKnown instance.reg (instance.last ∷ instance.extra ∷ []) (reg_known t k) lasts)

  by_group : (b strict : Bool) (row : TableRow) (p : Prefixes) (n : ℕ) →
      All IsKnown (operand_encodings ((if b then group_record strict row p else form_record row p).instance n))
  unfolding group_record group_instance form_record form_instance
  by_group true strict row p n = row_known (choose (group_rows row.form) row strict p n) row p n
  by_group false strict row p n = row_known (choose (form_rows row.form) row false p n) row p n

  pub operands_known : (strict : Bool) (row : TableRow) (p : Prefixes) (n : ℕ) → All IsKnown (operand_encodings ((record_of strict row p).instance n))
  operands_known strict row p n = by_group (is_group row.form) strict row p n
