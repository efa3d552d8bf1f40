-- A relative is the same instruction but for its memory operand of ModRM, which has the same address.
use Rattle.std.proofs.Common.{◌≡◌, ◌↔◌, ℕ, ◌≤◌, ◌<◌, ◌^◌, nat_lt, Bool, true, false, if◌then◌else◌, Option, Some, None, List}
use Rattle.std.proofs.Common.{length, map, slice_index_or, refl, sym, ap, ◌∙◌, arith, All, FitsSigned, w32, pow_mono}
use Rattle.std.proofs.lemmas.Bool.{and_parts}
use Rattle.x86_regs.specs.declared.RegisterClass.{RegisterClass}
use Rattle.x86_fields.specs.declared.prefixes.Prefixes.{Prefixes}
use Rattle.x86_fields.specs.declared.raw.Raw.{Raw}
use Rattle.x86_fields.specs.ModRM.{reg_field, scale_field}
use Rattle.x86_fields.specs.Run.{reading_of}
use Rattle.x86_fields.specs.Raw.{has_r}
use Rattle.x86_fields.specs.Address.{scale_by}
use Rattle.x86_fields.specs.Sizes.{class_of, register_of}
use Rattle.x86_fields.specs.declared.sizes.Width.{Width}
use Rattle.x86_fields.specs.Linear.{Linear, raw_form, value_at, IsSameAddress, IsReduced, IsRegFile, AgreeEverywhere}
use Rattle.x86_forms.specs.Words.{rows_of, packed}
use Rattle.x86_operands.specs.declared.operands.Slot.TheVariants as slots
use Rattle.x86_operands.specs.declared.operands.Operand.TheVariants as operands
use Rattle.x86_operands.specs.declared.vocabulary.OperandEncoding.{OperandEncoding}
use Rattle.x86_operands.specs.declared.vocabulary.PrefixChange.{PrefixChange}
use Rattle.x86_operands.specs.declared.reader.Reading.{Reading}
use Rattle.x86_operands.specs.Operands.{shape, operand_address}
use Rattle.x86_operands.specs.Records.{Instance, reg_number, order_of}
use Rattle.x86_operands.proofs.ColumnLemmas.{has_memory_alone, rm_free_encoding}
use Rattle.x86_operands.specs.RowSteps.{Immediate, changed, immediate_read, known_operand, pointer_class}
use Rattle.x86_operands.specs.Pieces.{is_modrm_encoding, operand_from, reading_from, writes_modrm, SpellsTail}
use Rattle.x86_operands.specs.Templates.{somewhere}
use Rattle.x86_operands.specs.declared.operand_list.Operands.{Operands}
use Rattle.x86_operands.specs.declared.vocabulary.OperandEncoding.TheVariants.{E, Emm}
use Rattle.std.specs.Int.{from_le_bytes}
use Rattle.std.specs.Option.{option_map_or}
use Rattle.x86_operands.specs.Asks.{first_or}
use Rattle.x86_decode.specs.declared.instructions.Instruction.{Instruction}
use Rattle.x86_operands.specs.declared.places.Places.{Places}
use Rattle.x86_decode.specs.Instruction.{instruction_of, operand_at}
use Rattle.x86_decode.specs.Grammar.{places_of, IsSentence}
use Rattle.x86_decode.proofs.ByteLemmas.{bytes_of}
use Rattle.x86_layout.specs.Parts.Split.{Encoding}
use Rattle.x86_layout.specs.Tightening.Registers.{IsByteOption}
use Rattle.x86_layout.specs.Tightening.Shortest.{IsOfBytes}
use Rattle.x86_layout.specs.Tightening.Tighten.{IsRelative}
use Rattle.x86_layout.specs.Tightening.Same.{cleared, placed_at, address_at, IsSameOrShape, unchanged, shapes, IsSameButInMemory}
use Rattle.x86_layout.proofs.TightenLemmas.Rex.{seen_67, seen_with, column_stays}
use Rattle.x86_layout.proofs.TightenLemmas.Tighten.{answer_67}
use Rattle.x86_layout.proofs.TightenLemmas.InstanceAlike.{row_has_memory, same_record}
use Rattle.x86_layout.proofs.TightenLemmas.Operands.{Alike, PartsAlike, each_alike, operands_alike}
use Rattle.x86_layout.proofs.TightenLemmas.Relative.{Reads, Row, Seen, Byte, spells, fields, byte, raw_of_bytes}

-- ---- what clearing X and B leaves

module _ (p q : Prefixes) (alike : cleared q ≡ cleared p) where
  same_r : has_r q ≡ has_r p
  same_r = let e = ap has_r alike in grind arith

  same_register : (c : RegisterClass) (n : ℕ) → register_of c q n ≡ register_of c p n
  same_register c n = let e = ap (λ r. register_of c r n) alike in grind arith

  same_mark : (change : PrefixChange) → cleared (changed change q) ≡ cleared (changed change p)
  same_mark change = let e = ap (changed change) alike in grind arith

-- ---- the operands

module _ (from to : Raw) where
  module _ (p q : Prefixes) (m n : ℕ) (alike : cleared q ≡ cleared p) (register : reg_field n ≡ reg_field m) where
    same_number : reg_number n q ≡ reg_number m p
    same_number = cc (same_r p q alike, register)

    same_width : (w : Width) → class_of w q ≡ class_of w p
    same_width w = let e = ap (class_of w) alike in grind arith

    same_pointer : pointer_class q ≡ pointer_class p
    same_pointer = let e = ap pointer_class alike in grind arith

    known_alike : (s : OperandEncoding) → rm_free_encoding s ≡ true → IsSameOrShape from to (known_operand s p m None) (known_operand s q n None)
    known_alike s free = grind (arith, unchanged, same_register p q alike, same_number, same_width, same_pointer)

    operand_alike : (s : OperandEncoding) (bytes : List ℕ) → rm_free_encoding s ≡ true →
        IsSameOrShape from to (operand_from s p m bytes) (operand_from s q n bytes)
    operand_alike s bytes free = by (immediate_read s)
      where
        by : (i : Option Immediate) → IsSameOrShape from to (option_map_or (λ j. j.1 (from_le_bytes j.0 bytes)) i (known_operand s p m None))
            (option_map_or (λ j. j.1 (from_le_bytes j.0 bytes)) i (known_operand s q n None))
        by None = known_alike s free
        by (Some j) = unchanged refl

    rm_alike : (s : OperandEncoding) → is_modrm_encoding s ≡ true → IsSameOrShape from to (known_operand s p m (Some from)) (known_operand s q n (Some to))
    rm_alike (E w) h = shapes refl refl
    rm_alike Emm h = shapes refl refl
    rm_alike s h = absurd cc

    parts_alike : (instance : Instance) → has_memory_alone instance ≡ true →
        PartsAlike (IsSameOrShape from to) (unchanged refl) instance p q m n (Some from) (Some to)
    parts_alike instance h =
        let parts = and_parts (writes_modrm instance) _ h in
        let rest = and_parts (rm_free_encoding instance.last) _ parts.1 in
        let others = and_parts (rm_free_encoding instance.extra) (rm_free_encoding instance.reg) rest.1 in
        record {
          rm = rm_alike instance.rm (and_parts (somewhere (order_of instance).rm) (is_modrm_encoding instance.rm) parts.0).1;
          reg = known_alike instance.reg others.1;
          last = λ bytes. operand_alike instance.last bytes rest.0;
          extra = λ bytes. operand_alike instance.extra bytes others.0;
        }

  -- ---- the instruction

  -- what is at a place, where it is known whether that is below the count
  at_place : (below : Bool) {l m : Operands} → Alike (IsSameOrShape from to) (unchanged refl) l m → (k : ℕ) → IsSameOrShape from to (
    if below then slice_index_or l.slots k slots.Nothing else slots.Nothing,
    if below then slice_index_or l.operands k operands.Nothing else operands.Nothing,
  ) (
    if below then slice_index_or m.slots k slots.Nothing else slots.Nothing,
    if below then slice_index_or m.operands k operands.Nothing else operands.Nothing,
  )
  at_place true h k = each_alike (IsSameOrShape from to) (unchanged refl) h k
  at_place false h k = unchanged refl

  module _ (address : IsSameAddress (raw_form to) (raw_form from)) (p q : Prefixes) (alike : cleared q ≡ cleared p)
      (m n : ℕ) (register : reg_field n ≡ reg_field m) where
    tails : {instance other : Instance} {tail end : List ℕ} {a b : Reading} (h : SpellsTail instance p m tail a) (g : SpellsTail other q n end b)
        (i j : Places) (k l : ℕ) → other ≡ instance → has_memory_alone instance ≡ true →
        h.pieces.memory ≡ Some from → g.pieces.memory ≡ Some to → g.pieces.immediates ≡ h.pieces.immediates →
        g.pieces.suffix ≡ h.pieces.suffix → IsSameButInMemory from to (instruction_of a i k) (instruction_of b j l)
    tails {instance = instance} {a = a} {b = b} h g i j k l told alone old new immediates suffix =
        let bytes = h.pieces.immediates in
        let first : a ≡ reading_from instance p m h.opcode (Some from) bytes = h.yields ∙ ap (λ o. reading_from instance p m h.opcode o bytes) old in
        let second : b ≡ reading_from instance q n h.opcode (Some to) bytes = cc (g.yields, told, g.named, suffix, h.named, new, immediates) in
        let all = operands_alike (IsSameOrShape from to) (unchanged refl) instance p q m n (Some from) (Some to) bytes
        (parts_alike p q m n alike register instance alone) in
        rw (first, second) (record {
          opcode = refl;
          prefixes = same_mark p q alike instance.change;
          count = refl;
          mem_size = refl;
          operands = λ x. at_place (nat_lt x (order_of instance).count) all x;
          address = address;
        })

-- ---- the encodings

module _ {strict : Bool} {s : List ℕ} {a : Reading} {v : Encoding strict s a} {t : List ℕ} {b : Reading} {w : Encoding strict t b}
    (rel : IsRelative strict s a v t b w) where
  map_is : w.map ≡ v.map
  map_is = let e = rel.parts.escape in grind arith

  row_is : w.row ≡ v.row
  row_is = cc (w.has_row, v.has_row, column_stays false false w.run, column_stays false false v.run, rel.parts.prefixes, map_is, rel.parts.opcode)

  seen_is : cleared (Seen w) ≡ cleared (Seen v)
  seen_is = cc (seen_with w.map w.opcode false false w.run, rel.parts.prefixes, map_is, rel.parts.opcode, seen_with v.map v.opcode false false v.run)

  register_is : reg_field (Byte w) ≡ reg_field (Byte v)
  register_is = ap (first_or 0) (sym (ap (map reg_field) (byte w rel.address.new)) ∙ rel.parts.register ∙ ap (map reg_field) (byte v rel.address.old))

  instance_is : (Row w).instance (Byte w) ≡ (Row v).instance (Byte v)
  instance_is =
      let mm = (spells v rel.address.old).0 in
      let nm = (spells w rel.address.new).0 in
      let new = (same_record strict w.row (Seen w) false false (Byte w) (Byte w) nm nm refl).2 (fields w rel.address.new) in
      let old = (same_record strict v.row (Seen v) false false (Byte v) (Byte w) mm nm register_is).2 (fields v rel.address.old) in
      cc (new, row_is, seen_is, old)

  same_instruction : (i j : Places) (k l : ℕ) → IsSameButInMemory rel.address.from rel.address.to (instruction_of a i k) (instruction_of b j l)
  same_instruction i j k l = tails rel.address.from rel.address.to rel.address.same (Seen v) (Seen w) seen_is (Byte v)
      (Byte w) register_is v.row_spelled.tail_spelled w.row_spelled.tail_spelled i j k l instance_is
      (row_has_memory strict v.row (Seen v) (Byte v) (spells v rel.address.old).0 (fields v rel.address.old) v.row_spelled.tail_spelled.accepted)
      rel.address.old rel.address.new
      rel.parts.immediate rel.parts.suffix

-- said of sentences
pub relative_is_same : (strict : Bool) (s : List ℕ) (a : Instruction) (is : IsSentence (rows_of packed) strict s a) (t : List ℕ)
    (b : Instruction) (other : IsSentence (rows_of packed) strict t b)
    (rel : IsRelative strict s is.reading is.whole t other.reading other.whole) → IsSameButInMemory rel.address.from rel.address.to a b
relative_is_same strict s a is t b other rel = rw (is.yields, other.yields)
    (same_instruction rel (places_of (rows_of packed) strict s is.reading is.whole)
    (places_of (rows_of packed) strict t other.reading other.whole) (length s) (length t))

-- ---- addresses, by the laws on shapes and on forms

abbrev HaveTheAddress : Type 0
HaveTheAddress = (raw : Raw) (regs : List ℕ) (next : ℕ) → FitsSigned w32 raw.disp →
    operand_address raw.address_size (shape raw).1 regs next ≡ Some (value_at (raw_form raw) regs next)

abbrev AreReduced : Type 0
AreReduced = (raw : Raw) → scale_by raw.sib ≤ 8 → FitsSigned w32 raw.disp → IsReduced (raw_form raw)

abbrev AreTheirValues : Type 0
AreTheirValues = (f g : Linear) → f.modulus ≡ g.modulus → IsReduced f → IsReduced g → (IsSameAddress f g ↔ AgreeEverywhere f g)

scale_small : (sib : Option ℕ) → IsByteOption sib → scale_by sib ≤ 8
scale_small None h = omega arith
scale_small (Some sib) h = pow_mono {i = scale_field sib} {j = 3} (omega (arith, h))

-- 67 of the raw fields is that of the instruction
same_67 : {strict : Bool} {s : List ℕ} {a : Instruction} (is : IsSentence (rows_of packed) strict s a) {raw : Raw} → Reads is.whole raw →
    a.prefixes.address_size ≡ raw.address_size
same_67 is read = answer_67 is ∙ sym (seen_67 is.whole.map is.whole.opcode (reading_of is.whole.run))
    ∙ sym (ap (λ r. r.address_size) (spells is.whole read).1.fields)

-- The operand that ModRM spells as memory is the shape of its raw fields, so it has their address.
at_shape : HaveTheAddress → (i : Instruction) (k : ℕ) (raw : Raw) → IsOfBytes raw → i.prefixes.address_size ≡ raw.address_size →
    operand_at i k ≡ (shape raw).1 → (regs : List ℕ) (next : ℕ) → address_at i k regs next ≡ Some (value_at (raw_form raw) regs next)
at_shape have i k raw h short shaped regs next =
    ap (λ t. operand_address t (operand_at i k) regs next) short
    ∙ ap (λ o. operand_address raw.address_size o regs next) shaped
    ∙ have raw regs next h.disp

pub operand_has_address : HaveTheAddress → (strict : Bool) (s : List ℕ) (a : Instruction) (is : IsSentence (rows_of packed) strict s a)
    (raw : Raw) (k : ℕ) → Reads is.whole raw → operand_at a k ≡ (shape raw).1 → All (λ byte. byte < 256) s → (regs : List ℕ) (next : ℕ) →
    address_at a k regs next ≡ Some (value_at (raw_form raw) regs next)
operand_has_address have strict s a is raw k read shaped bytes regs next =
    at_shape have a k raw (raw_of_bytes is.whole raw read (bytes_of s bytes)) (same_67 is read) shaped regs next

module _ (have : HaveTheAddress) (reduced : AreReduced) (values : AreTheirValues) (from to : Raw) (from_bytes : IsOfBytes from)
    (to_bytes : IsOfBytes to) (regs : List ℕ) (next : ℕ) (file : IsRegFile regs) (small : next < 2 ^ 64) where
  reduced_of : (raw : Raw) → IsOfBytes raw → IsReduced (raw_form raw)
  reduced_of raw h = reduced raw (scale_small raw.sib h.sib) h.disp

  same_value : IsSameAddress (raw_form to) (raw_form from) → value_at (raw_form to) regs next ≡ value_at (raw_form from) regs next
  same_value h = (values (raw_form to) (raw_form from) h.modulus (reduced_of to to_bytes) (reduced_of from from_bytes)).0 h regs next file small

  module _ (a b : Instruction) (k : ℕ) (h : IsSameButInMemory from to a b) (old : a.prefixes.address_size ≡ from.address_size)
      (new : b.prefixes.address_size ≡ to.address_size) where
    same_place : IsSameOrShape from to (placed_at a k) (placed_at b k) → address_at b k regs next ≡ address_at a k regs next
    same_place (unchanged e) = ap (λ p. operand_address p.address_size (operand_at b k) regs next) h.prefixes
        ∙ ap (λ x. operand_address a.prefixes.address_size x.1 regs next) e
    same_place (shapes e f) =
        cc (
          at_shape have b k to to_bytes new (ap (λ x. x.1) f) regs next,
          same_value h.address,
          at_shape have a k from from_bytes old (ap (λ x. x.1) e) regs next,
        )

pub relative_has_addresses : HaveTheAddress → AreReduced → AreTheirValues →
    (strict : Bool) (s : List ℕ) (a : Instruction) (is : IsSentence (rows_of packed) strict s a) (t : List ℕ) (b : Instruction)
    (other : IsSentence (rows_of packed) strict t b) → IsRelative strict s is.reading is.whole t other.reading other.whole →
    All (λ byte. byte < 256) s → All (λ byte. byte < 256) t → (k : ℕ) (regs : List ℕ) (next : ℕ) → IsRegFile regs → next < 2 ^ 64 →
    address_at b k regs next ≡ address_at a k regs next
relative_has_addresses have reduced values strict s a is t b other rel s_bytes t_bytes k regs next file small =
    let from = rel.address.from in
    let to = rel.address.to in
    let same = relative_is_same strict s a is t b other rel in
    same_place have reduced values from to
    (raw_of_bytes is.whole from rel.address.old (bytes_of s s_bytes))
    (raw_of_bytes other.whole to rel.address.new (bytes_of t t_bytes))
    regs next file small a b k same
    (same_67 is rel.address.old)
    (same_67 other rel.address.new)
    (same.operands k)
