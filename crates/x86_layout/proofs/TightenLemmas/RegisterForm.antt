-- Where mod isn't looked at, as in moves from and to control and debug registers, no operand is memory.
use Rattle.std.proofs.Common.{◌≡◌, ℕ, Bool, true, false, ◌&&◌, if◌then◌else◌, nat_lt, Option, Some, None, List, [], ◌∷◌, slice_index_or, refl, ap, ◌∙◌, arith}
use Rattle.std.specs.List.{list_all}
use Rattle.std.proofs.lemmas.Bool.{and_parts, cond_both}
use Rattle.x86_fields.specs.declared.prefixes.Prefixes.{Prefixes}
use Rattle.x86_fields.specs.declared.raw.Raw.{Raw}
use Rattle.x86_forms.specs.declared.Form.{Form}
use Rattle.x86_forms.specs.declared.Form.TheVariants as form
use Rattle.x86_forms.specs.declared.TableRow.{TableRow}
use Rattle.x86_forms.specs.Groups.{is_group}
use Rattle.x86_forms.specs.Words.{carried, packed, rows_of}
use Rattle.x86_operands.specs.declared.operands.Operand.{Operand}
use Rattle.x86_operands.specs.declared.operands.Slot.{Slot}
use Rattle.x86_operands.specs.declared.operands.Slot.TheVariants as slots
use Rattle.x86_operands.specs.declared.vocabulary.ModrmUse.TheVariants.{Registers}
use Rattle.x86_operands.specs.declared.vocabulary.OperandEncoding.{OperandEncoding}
use Rattle.x86_operands.specs.declared.vocabulary.OperandEncoding.TheVariants as encoding
use Rattle.x86_operands.specs.declared.rows.TemplateRow.{TemplateRow}
use Rattle.x86_operands.specs.Columns.{instance_of_row}
use Rattle.x86_operands.specs.Encodings.{resolved}
use Rattle.x86_operands.specs.Forms.{form_record, modrm_use, rows_use}
use Rattle.x86_operands.specs.Operands.{is_memory_slot}
use Rattle.x86_operands.specs.Pieces.{operand_from, operands_from, reading_from}
use Rattle.x86_operands.specs.Records.{Instance}
use Rattle.x86_operands.specs.RowSteps.{known_operand}
use Rattle.x86_operands.specs.Templates.{reg_part, rm_encoding}
use Rattle.x86_operands.specs.declared.templates.Template.{Template}
use Rattle.x86_operands.specs.declared.reader.Reading.{Reading}
use Rattle.x86_fields.specs.declared.sizes.Width.{Width}
use Rattle.x86_operands.specs.Rows.{form_rows}
use Rattle.x86_operands.proofs.ColumnLemmas.{chosen_has}
use Rattle.x86_groups.proofs.AddressLemmas.{uses_either_form}
use Rattle.x86_groups.specs.Groups.{group_modrm, group_instance, group_record}
use Rattle.x86_groups.specs.Rows.{group_rows}
use Rattle.x86_decode.specs.declared.instructions.Instruction.{Instruction}
use Rattle.x86_decode.specs.Grammar.{IsSentence}
use Rattle.x86_decode.specs.Instruction.{slot_at}
use Rattle.x86_layout.proofs.TightenLemmas.Operands.{each_alike, operands_alike, pair_read}
use Rattle.x86_layout.proofs.TightenLemmas.Relative.{Row, Seen, Byte, spells}

-- ---- the operands of such a row

-- a register, or no number at all
abbrev is_register : OperandEncoding → Bool
is_register (encoding.G w) = true
is_register encoding.Gmm = true
is_register (encoding.E w) = true
is_register encoding.Emm = true
is_register encoding.StRm = true
is_register (encoding.Z at w n) = true
is_register (encoding.A w) = true
is_register encoding.Cr = true
is_register encoding.Dr = true
is_register (encoding.ConstantU8 n) = true
is_register s = false

record AreRegisters (instance : Instance) : Type 0 where
  rm : is_register instance.rm ≡ true
  reg : is_register instance.reg ≡ true
  last : is_register instance.last ≡ true
  extra : is_register instance.extra ≡ true

resolved_is : (s : OperandEncoding) (n : ℕ) (p : Prefixes) → is_register (resolved s n p) ≡ is_register s
resolved_is s n p = grind arith

rm_is : (w : Width) → is_register (rm_encoding w) ≡ true
rm_is w = grind arith

reg_is : (t : Template) (n : ℕ) → is_register (reg_part t n) ≡ true
reg_is t n = grind arith

abbrev has_registers : TemplateRow → Bool
has_registers row = is_register row.template.last && is_register row.template.extra

row_has : (chosen : TemplateRow) (row : TableRow) (p : Prefixes) (m : ℕ) → has_registers chosen ≡ true → AreRegisters (instance_of_row chosen row p m)
row_has chosen row p m h =
    let t = chosen.template in
    let n = carried row.form in
    let parts = and_parts (is_register t.last) (is_register t.extra) h in
    record { rm = rm_is t.rm; reg = reg_is t n; last = resolved_is t.last n p ∙ parts.0; extra = resolved_is t.extra n p ∙ parts.1 }

rows_have_registers : (f : Form) → group_modrm f ≡ Registers → list_all has_registers (group_rows f) ≡ true
unfolding group_rows
rows_have_registers form.Rq_Cq_0 e = refl
rows_have_registers form.Rq_Dq_0 e = refl
rows_have_registers form.Cq_Rq_0 e = refl
rows_have_registers form.Dq_Rq_0 e = refl
rows_have_registers f e = absurd cc

-- a plain form looks at mod
no_plain : (rows : List TemplateRow) → rows_use rows ≡ Registers → ⊥
no_plain [] e = cc
no_plain (row ∷ rest) e = grind arith

module _ (strict : Bool) (row : TableRow) (p : Prefixes) (m : ℕ) where
  by_kind : (group : Bool) → (if group then group_record strict row p else form_record row p).modrm ≡ Registers →
      AreRegisters ((if group then group_record strict row p else form_record row p).instance m)
  unfolding group_record group_instance form_record modrm_use
  by_kind true e = chosen_has (λ chosen. AreRegisters (instance_of_row chosen row p m)) has_registers row strict p m
      (record { rm = refl; reg = refl; last = refl; extra = refl }) (λ chosen h there. row_has chosen row p m h) (group_rows row.form)
      (rows_have_registers row.form e)
  by_kind false e = absurd (no_plain (form_rows row.form) e)

-- ---- their slots

abbrev IsNoMemory : Slot → Type 0
IsNoMemory slot = is_memory_slot slot ≡ false

known_slot : (s : OperandEncoding) (p : Prefixes) (m : ℕ) → is_register s ≡ true → IsNoMemory (known_operand s p m None).0
known_slot s p m h = grind arith

operand_slot : (s : OperandEncoding) (p : Prefixes) (m : ℕ) (bytes : List ℕ) → is_register s ≡ true → IsNoMemory (operand_from s p m bytes).0
operand_slot s p m bytes h = grind arith

abbrev Neither : Slot × Operand → Slot × Operand → Type 0
Neither x y = IsNoMemory x.0

no_memory_in : (instance : Instance) (p : Prefixes) (m : ℕ) (bytes : List ℕ) → AreRegisters instance → (k : ℕ) →
    IsNoMemory (pair_read (operands_from instance p m None bytes) k).0
no_memory_in instance p m bytes h k = each_alike Neither refl (operands_alike Neither refl instance p p m m None None bytes (record {
  rm = known_slot instance.rm p m h.rm;
  reg = known_slot instance.reg p m h.reg;
  last = λ b. operand_slot instance.last p m b h.last;
  extra = λ b. operand_slot instance.extra p m b h.extra;
})) k

module _ {strict : Bool} {s : List ℕ} {a : Instruction} (is : IsSentence (rows_of packed) strict s a) (usage : (Row is.whole).modrm ≡ Registers) where
  no_raw : (memory : Option Raw) → is.whole.row_spelled.tail_spelled.pieces.memory ≡ memory → memory ≡ None
  no_raw None e = refl
  no_raw (Some raw) e =
      let either = uses_either_form (Row is.whole).modrm is.whole.row_spelled.modrm (spells is.whole e).0 in absurd (cc (usage, either))

  pub no_memory_slot : (k : ℕ) → is_memory_slot (slot_at a k) ≡ false
  no_memory_slot k =
      let t = is.whole.row_spelled.tail_spelled in
      let registers = by_kind strict is.whole.row (Seen is.whole) (Byte is.whole) (is_group is.whole.row.form) usage in
      let instance = (Row is.whole).instance (Byte is.whole) in
      let read : is.reading ≡ reading_from instance (Seen is.whole) (Byte is.whole) t.opcode None t.pieces.immediates =
      t.yields ∙ ap (λ o. reading_from instance (Seen is.whole) (Byte is.whole) t.opcode o t.pieces.immediates) (no_raw t.pieces.memory refl) in
      ap (λ i. is_memory_slot (slot_at i k)) is.yields
      ∙ cond_both (nat_lt k is.reading.count) (slice_index_or is.reading.slots k slots.Nothing) slots.Nothing IsNoMemory
      (λ _. ap (λ (r : Reading). is_memory_slot (slice_index_or r.slots k slots.Nothing)) read
      ∙ no_memory_in instance (Seen is.whole) (Byte is.whole) t.pieces.immediates registers k) (λ _. refl)
