-- In the memory form an instance goes by reg, and not by mod, rm, and the bits X and B. It refuses, or writes the memory as an
-- operand.
use Rattle.std.proofs.Common.{◌≡◌, ℕ, Bool, true, false, Option, Some, None, refl, arith}
use Rattle.std.proofs.lemmas.Bool.{and_parts}
use Rattle.x86_fields.specs.declared.prefixes.Prefixes.{Prefixes}
use Rattle.x86_fields.specs.declared.rex.PrefixRex.{PrefixRex}
use Rattle.x86_fields.specs.ModRM.{reg_field, is_memory}
use Rattle.x86_fields.specs.Raw.{has_r, has_w}
use Rattle.x86_forms.specs.declared.Form.{Form}
use Rattle.x86_operands.specs.declared.vocabulary.ModrmUse.TheVariants.{EitherForm}
use Rattle.x86_forms.specs.declared.Form.TheVariants as form
use Rattle.x86_forms.specs.declared.TableRow.{TableRow}
use Rattle.x86_forms.specs.Groups.{is_group}
use Rattle.x86_operands.specs.Records.{is_refusal}
use Rattle.x86_operands.specs.Forms.{form_instance, form_record}
use Rattle.x86_operands.specs.Pieces.{writes_modrm}
use Rattle.x86_layout.specs.Tightening.Tighten.{bits_in}
use Rattle.x86_operands.specs.Columns.{choose}
use Rattle.x86_operands.specs.Rows.{form_rows}
use Rattle.x86_operands.proofs.PlainLemmas as form_facts
use Rattle.x86_operands.proofs.ColumnLemmas.{SamePrefixes, chosen_in_memory, first_in_memory, has_memory_alone, instance_in_memory, rows_alike}
use Rattle.x86_groups.specs.Groups.{is_f3_alone, group_fault, group_instance, group_record, record_of}
use Rattle.x86_groups.specs.Rows.{group_rows}
use Rattle.x86_groups.proofs.AddressLemmas.{By}
use Rattle.x86_groups.proofs.GroupLemmas as group_facts

-- ---- the bits X and B

module _ (x b : Bool) (p : Prefixes) (m : ℕ) (mm : is_memory m ≡ true) where
  abbrev With : Option PrefixRex → Prefixes
  With rex = record p { rex = rex }

  fault_bits : (r : PrefixRex) (f : Form) → group_fault f (With (Some (record r { x = x; b = b }))) ≡ group_fault f (With (Some r))
  unfolding is_f3_alone
  fault_bits r form.ModRM_0xf30f3af0 = refl
  fault_bits r f = refl

  -- what goes not by these bits of a REX is the same with and without one
  with_bits : {A : Type 0} (f : Prefixes → A) → ((r : PrefixRex) → f (With (Some (record r { x = x; b = b }))) ≡ f (With (Some r))) →
      (rex : Option PrefixRex) → f (With (bits_in x b rex)) ≡ f (With rex)
  with_bits f h None = refl
  with_bits f h (Some r) = h r

-- ---- records

module _ (strict : Bool) (row : TableRow) (p : Prefixes) (x b : Bool) (m n : ℕ) (mm : is_memory m ≡ true) (nm : is_memory n ≡ true)
    (same : reg_field n ≡ reg_field m) where
  abbrev pub Other : Prefixes
  Other = record p { rex = bits_in x b p.rex }

  same_prefixes : SamePrefixes Other p
  same_prefixes = record {
    f2 = refl;
    f3 = refl;
    operand_size = refl;
    address_size = refl;
    w = with_bits x b p m mm has_w (λ r. refl) p.rex;
    r = with_bits x b p m mm has_r (λ r. refl) p.rex;
  }

  by_instance : (group : Bool) → (By strict row group p).modrm ≡ EitherForm → (By strict row group Other).instance n ≡ (By strict row group p).instance m
  unfolding group_record group_instance form_record form_instance
  by_instance true usage = rows_alike (group_rows row.form) row strict Other p n m (group_facts.rows_keep_reg row.form) same_prefixes nm mm same
  by_instance false usage = rows_alike (form_rows row.form) row false Other p n m (form_facts.rows_keep_reg row.form usage) same_prefixes nm mm same

  by_use : (group : Bool) → (By strict row group Other).modrm ≡ (By strict row group p).modrm
  unfolding group_record form_record
  by_use group = grind arith

  by_fault : (group : Bool) → (By strict row group Other).at_opcode ≡ (By strict row group p).at_opcode
  unfolding group_record form_record
  by_fault true = with_bits x b p m mm (group_fault row.form) (λ r. fault_bits x b p m mm r row.form) p.rex
  by_fault false = refl

  pub same_record :
      ((record_of strict row Other).at_opcode ≡ (record_of strict row p).at_opcode)
      × ((record_of strict row Other).modrm ≡ (record_of strict row p).modrm)
      × ((record_of strict row p).modrm ≡ EitherForm → (record_of strict row Other).instance n ≡ (record_of strict row p).instance m)
  same_record = (by_fault (is_group row.form), by_use (is_group row.form), by_instance (is_group row.form))

-- ---- what an instance writes

module _ (strict : Bool) (row : TableRow) (p : Prefixes) (m : ℕ) (mm : is_memory m ≡ true) where
  by_kind : (group : Bool) → (By strict row group p).modrm ≡ EitherForm → instance_in_memory ((By strict row group p).instance m) ≡ true
  unfolding group_record group_instance form_record form_instance
  by_kind true usage = chosen_in_memory (choose (group_rows row.form) row strict p m) row p m
      (first_in_memory (group_rows row.form) row strict p m (group_facts.rows_keep_reg row.form) mm)
  by_kind false usage = chosen_in_memory (choose (form_rows row.form) row false p m) row p m
      (first_in_memory (form_rows row.form) row false p m (form_facts.rows_keep_reg row.form usage) mm)

  -- it writes ModRM's memory operand, and no other operand goes by rm, X or B
  pub row_has_memory : (record_of strict row p).modrm ≡ EitherForm → is_refusal ((record_of strict row p).instance m).verdict ≡ false →
      has_memory_alone ((record_of strict row p).instance m) ≡ true
  row_has_memory usage accepted = cc (by_kind (is_group row.form) usage, accepted)

  pub row_writes : (record_of strict row p).modrm ≡ EitherForm → is_refusal ((record_of strict row p).instance m).verdict ≡ false →
      writes_modrm ((record_of strict row p).instance m) ≡ true
  row_writes usage accepted = (and_parts (writes_modrm ((record_of strict row p).instance m)) _ (row_has_memory usage accepted)).0
