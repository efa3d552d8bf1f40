-- What is known of raw fields from the parts of an encoding, and how long a shortest relative is.
use Rattle.x86_operands.specs.Operands.{is_memory_slot, shape}
use Rattle.x86_operands.specs.Pieces.{is_modrm_encoding, names_modrm, writes_modrm, SpellsMemory, modrm_width}
use Rattle.x86_operands.specs.Records.{Instance, order_of}
use Rattle.x86_operands.specs.declared.order.Position.{Position}
use Rattle.x86_forms.specs.Words.{rows_of, packed}
use Rattle.x86_decode.specs.Addresses.{instance_within}
use Rattle.x86_decode.specs.Grammar.{IsSentence}
use Rattle.x86_decode.specs.Instruction.{slot_at}
use Rattle.x86_layout.proofs.TightenLemmas.Respell.{is_shape}
use Rattle.std.proofs.Common.{◌<◌, ◌∷◌, ◌≡◌, ℕ, ◌==◌, ◌&&◌, Bool, true, false, if◌then◌else◌, Option, Some, List, length}
use Rattle.std.proofs.Common.{refl, sym, ap, ◌∙◌, arith, ◌+◌, ◌-◌, not, [], append-nil}
use Rattle.x86_fields.specs.declared.prefixes.Prefixes.{Prefixes}
use Rattle.x86_fields.specs.declared.raw.Raw.{Raw}
use Rattle.x86_fields.specs.ModRM.{rm_field, is_memory}
use Rattle.x86_fields.specs.Run.{reading_of}
use Rattle.x86_fields.specs.Pieces.{option_bytes}
use Rattle.x86_operands.specs.declared.reader.Reading.{Reading}
use Rattle.x86_operands.specs.Asks.{ask_of, modrm_of}
use Rattle.x86_fields.specs.Parts.{PartLists}
use Rattle.x86_layout.specs.Parts.Heads.{one_if}
use Rattle.x86_layout.specs.Parts.Split.{Encoding, HasParts, IsFirstSentence, joined}
use Rattle.x86_layout.specs.Tightening.Registers.{is_ip_relative}
use Rattle.x86_layout.specs.Tightening.Shortest.{shortest, IsOfBytes, address_length}
use Rattle.x86_layout.specs.declared.tightening.tighten.TightenError.{TightenError}
use Rattle.x86_layout.specs.declared.tightening.tighten.TightenError.TheVariants.{Refused, NoMemoryForm, IpRelative}
use Rattle.x86_layout.specs.Tightening.Tighten.{has_memory_form, HasMemoryOperand, HasNoRelative, HasOperandForm, raw_of, respelled}
use Rattle.x86_layout.proofs.PartLemmas.Part.{halves, read_as}
use Rattle.x86_layout.proofs.PartLemmas.OfBytes.{option_count, first_of, has_head, parts_are, as_first, there_in}
use Rattle.x86_operands.specs.Templates.{has_address, index_of_position, somewhere}
use Rattle.x86_operands.specs.declared.order.Position.TheVariants.{First, Nowhere}
use Rattle.x86_operands.specs.declared.vocabulary.ModrmUse.{ModrmUse}
use Rattle.x86_operands.specs.declared.vocabulary.ModrmUse.TheVariants.{Absent, EitherForm, Registers}
use Rattle.x86_operands.specs.declared.vocabulary.PrefixChange.{PrefixChange}
use Rattle.x86_operands.specs.RowSteps.{changed}
use Rattle.x86_layout.proofs.TightenLemmas.RegisterForm.{no_memory_slot}
use Rattle.x86_layout.proofs.TightenLemmas.Rex.{seen_rex, seen_67}
use Rattle.x86_layout.proofs.TightenLemmas.InstanceAlike.{row_writes}
use Rattle.x86_layout.proofs.TightenLemmas.Relative.{Row, Seen, Reads, Byte, Address, spells, fields, byte, length_is, Bytes', long}
use Rattle.x86_layout.specs.Parts.OfBytes.{ask_in, parts_of}
use Rattle.x86_decode.specs.declared.instructions.Instruction.{Instruction}
use Rattle.x86_layout.specs.Tightening.Least.{least_by, least_length, shortest_length}

never_true : (t : Bool) → (t ≡ true → ⊥) → t ≡ false
never_true false h = refl
never_true true h = absurd (h refl)

-- ---- raw fields

module _ {strict : Bool} {s : List ℕ} {a : Reading} (v : Encoding strict s a) where
  some_by : (p : Prefixes) (m : ℕ) (address : List ℕ) (memory : Option Raw) → SpellsMemory First p m address memory → is_memory m ≡ true →
      (raw : Raw) × (memory ≡ Some raw)
  some_by p m address memory h e = grind arith

  pub some_memory : is_memory (Byte v) ≡ true → (raw : Raw) × (Reads v raw)
  some_memory e =
      let t = v.row_spelled.tail_spelled.pieces in
      some_by (Seen v) (Byte v) (Address v) t.memory
      (as_first (order_of ((Row v).instance (Byte v))).rm (Seen v) (Byte v) (Address v) t.memory (there_in v) t.address_spelled) e

  -- ModRM is there, and its mod is that of memory
  form_is : is_memory (Byte v) ≡ true → has_memory_form v.row_spelled.modrm ≡ true
  form_is e = rw (byte v (some_memory e).1) e

  pub no_form : has_memory_form v.row_spelled.modrm ≡ false → is_memory (Byte v) ≡ false
  no_form h = never_true (is_memory (Byte v)) (λ e. cc (form_is e, h))

  -- it is written as an operand
  pub operand_form : (raw : Raw) → Reads v raw → (ip : Bool) → is_ip_relative raw ≡ ip → HasOperandForm strict s a v ip
  operand_form raw read ip e = record {
    operand = record {
      raw = raw;
      read = read;
      written = row_writes strict v.row (Seen v) (Byte v) (spells v read).0 (fields v read) v.row_spelled.tail_spelled.accepted;
    };
    form = e;
  }

  pub no_operand : is_memory (Byte v) ≡ false → HasMemoryOperand strict s a v → ⊥
  no_operand e o = let memory = (spells v o.read).0 in cc (e, memory)

  module _ {raw : Raw} (read : Reads v raw) (parts : PartLists) (h : HasParts strict s a v parts) where
    -- the raw fields of the parts are those of the encoding
    pub raw_is : raw_of parts ≡ raw
    raw_is =
        let p = reading_of v.run in
        let x = spells v read in
        let s = x.1 in
        let long : length parts.sib ≡ length (option_bytes s.sib) = h.sib ∙ ap (λ t. if t && rm_field (Byte v) == 4 then 1 else 0) x.0
        ∙ ap one_if (sym s.sib_present) ∙ sym (option_count s.sib) in
        let address = halves parts.sib parts.displacement (option_bytes s.sib) s.disp (h.address ∙ s.spelled) long in
        let fields = rw (seen_rex v.map v.opcode p, seen_67 v.map v.opcode p) at s.fields in
        rw (h.prefixes, h.modrm ∙ byte v read, address.0, address.1, first_of s.sib, s.disp_length) (sym fields)

    pub respelled_is : (fit : IsOfBytes raw) → joined (respelled parts (shortest raw)) ≡ Bytes' v read fit
    respelled_is fit = cc (h.prefixes, h.escape, h.opcode, h.immediate, h.suffix)

-- ---- an instruction without a memory operand

-- the operand of rm is the memory operand of ModRM
named_at : (instance : Instance) → writes_modrm instance ≡ true →
    (index_of_position (order_of instance).rm < 4) × (names_modrm instance (index_of_position (order_of instance).rm) ≡ true)
named_at instance h = by (order_of instance).rm (is_modrm_encoding instance.rm) h
  where
    by : (at : Position) (memory : Bool) → (somewhere at && memory) ≡ true →
        (index_of_position at < 4) × (((somewhere at && memory) && index_of_position at == index_of_position at) ≡ true)
    by Nowhere memory h = absurd cc
    by at memory h = (omega arith, grind arith)

module _ {strict : Bool} {s : List ℕ} {a : Instruction} (is : IsSentence (rows_of packed) strict s a)
    (slots : (raw : Raw) (k : ℕ) → Reads is.whole raw →
    names_modrm (instance_within (rows_of packed) strict s is.reading is.whole) k ≡ true → slot_at a k ≡ (shape raw).0)
    (none : (k : ℕ) → k < 4 → is_memory_slot (slot_at a k) ≡ false) where
  -- where no slot is memory, ModRM isn't a memory form
  pub without_memory : is_memory (Byte is.whole) ≡ false
  without_memory = never_true (is_memory (Byte is.whole)) (λ e.
      let some = some_memory is.whole e in
      let instance = instance_within (rows_of packed) strict s is.reading is.whole in
      let at = named_at instance (operand_form is.whole some.0 some.1 (is_ip_relative some.0) refl).operand.written in
      cc (slots some.0 (index_of_position (order_of instance).rm) some.1 at.1, is_shape some.0, none (index_of_position (order_of instance).rm) at.0))

-- ---- a memory form by its byte

-- a byte of ModRM is used as it is where mod is looked at
form_by : (u : ModrmUse) (modrm : List ℕ) → length modrm ≡ modrm_width u → has_memory_form modrm ≡ true → (u ≡ Registers → ⊥) →
    is_memory (modrm_of u modrm) ≡ true
form_by Absent [] e h other = h
form_by EitherForm (m ∷ []) e h other = h
form_by Registers modrm e h other = absurd (other refl)
form_by u modrm e h other = absurd (omega arith)

module _ {strict : Bool} {s : List ℕ} {a : Instruction} (is : IsSentence (rows_of packed) strict s a) where
  pub with_memory : (k : ℕ) × (is_memory_slot (slot_at a k) ≡ true) → has_memory_form is.whole.row_spelled.modrm ≡ true → is_memory (Byte is.whole) ≡ true
  with_memory some h = form_by (Row is.whole).modrm is.whole.row_spelled.modrm is.whole.row_spelled.modrm_length h
      (λ usage. let none = no_memory_slot is usage some.0 in let memory = some.1 in cc (none, memory))

-- ---- the prefixes of an instruction have the REX and the 67 of its run

changed_rex : (c : PrefixChange) (p : Prefixes) → (changed c p).rex ≡ p.rex
changed_rex c p = grind arith

changed_67 : (c : PrefixChange) (p : Prefixes) → (changed c p).address_size ≡ p.address_size
changed_67 c p = grind arith

module _ {strict : Bool} {s : List ℕ} {a : Instruction} (is : IsSentence (rows_of packed) strict s a) where
  pub answer_rex : a.prefixes.rex ≡ (reading_of is.whole.run).rex
  answer_rex = ap (λ i. i.prefixes.rex) is.yields ∙ ap (λ r. r.prefixes.rex) is.whole.row_spelled.tail_spelled.yields
      ∙ changed_rex _ (Seen is.whole) ∙ seen_rex is.whole.map is.whole.opcode (reading_of is.whole.run)

  pub answer_67 : a.prefixes.address_size ≡ (reading_of is.whole.run).address_size
  answer_67 = ap (λ i. i.prefixes.address_size) is.yields ∙ ap (λ r. r.prefixes.address_size) is.whole.row_spelled.tail_spelled.yields
      ∙ changed_67 _ (Seen is.whole) ∙ seen_67 is.whole.map is.whole.opcode (reading_of is.whole.run)

-- ---- the length of a shortest relative

module _ {strict : Bool} {s : List ℕ} {a : Reading} (v : Encoding strict s a) where
  reads : (ask_in s strict).memory ≡ is_memory (Byte v)
  unfolding ask_of
  reads =
      let h = has_head [] v (sym (append-nil s)) in
      let used = read_as v.row_spelled v.row_spelled.tail (h.tail ∙ append-nil v.tail ∙ v.row_spelled.spelled) in
      ap (λ ask. ask.memory) h.ask ∙ ap (λ n. has_address (order_of ((Row v).instance n)).rm n) (sym used) ∙ there_in v

  least_is : (memory : Bool) (raw : Raw) → is_memory (Byte v) ≡ memory → raw_of (parts_of strict s) ≡ raw →
      least_length strict s ≡ least_by memory raw (length s)
  unfolding least_length
  least_is memory raw e f = cc (reads, e, f)

  pub least_without : is_memory (Byte v) ≡ false → least_length strict s ≡ length s
  least_without e = least_is false (raw_of (parts_of strict s)) e refl

  module _ {raw : Raw} (read : Reads v raw) where
    pub least_with : (ip : Bool) → is_ip_relative raw ≡ ip →
        least_length strict s ≡ (if true && not ip then (length s - address_length raw) + address_length (shortest raw) else length s)
    least_with ip e =
        cc (least_is true raw (spells v read).0 (raw_is v read (parts_of strict s) (parts_are [] v (sym (append-nil s)))), e)

    pub least_of_shortest : (fit : IsOfBytes raw) (t : List ℕ) → t ≡ Bytes' v read fit → is_ip_relative raw ≡ false → length t ≡ least_length strict s
    least_of_shortest fit t spelled e =
        let h = least_with false e in
        let old = length_is v raw read in
        let new = long v read fit t spelled in
        omega (arith, h, old, new)

  -- an encoding without a relative to seek keeps its length
  pub keeps : (error : TightenError) → HasNoRelative strict s a v error → least_length strict s ≡ length s
  keeps (Refused error) h = absurd h
  keeps NoMemoryForm h = least_without (never_true (is_memory (Byte v)) (λ e.
      let read = some_memory v e in h (operand_form v read.0 read.1 (is_ip_relative read.0) refl).operand))
  keeps IpRelative h = least_with h.operand.read true h.form

-- at the beginning of bytes
pub least_beginning : {strict : Bool} {bytes encoding : List ℕ} {instruction : Instruction} →
    IsFirstSentence strict bytes encoding instruction → shortest_length strict bytes ≡ least_length strict encoding
unfolding shortest_length
least_beginning h = cc (h.accepted, h.taken)
