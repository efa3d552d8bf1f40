-- An encoding with the shortest raw fields is a relative, and none is shorter.
use Rattle.std.proofs.Common.{◌≡◌, ℕ, ◌+◌, ◌≤◌, Bool, true, false, Some, None, List, [], ◌∷◌, ◌++◌, length, map, refl, sym, ap, subst, ◌∙◌}
use Rattle.std.proofs.Common.{arith, length-append}
use Rattle.std.proofs.lemmas.List.{nil_from_length}
use Rattle.x86_fields.specs.declared.prefixes.Prefixes.{Prefixes}
use Rattle.x86_fields.specs.declared.raw.Raw.{Raw}
use Rattle.x86_fields.specs.ModRM.{reg_field}
use Rattle.x86_fields.specs.Raw.{has_b, has_x}
use Rattle.x86_fields.specs.Run.{reading_of}
use Rattle.x86_fields.specs.Linear.{raw_form, IsSameAddress}
use Rattle.x86_forms.specs.Words.{rows_of, packed}
use Rattle.x86_operands.specs.declared.vocabulary.ModrmUse.{ModrmUse}
use Rattle.x86_operands.specs.declared.vocabulary.ModrmUse.TheVariants.{EitherForm}
use Rattle.x86_operands.specs.declared.reader.Reading.{Reading}
use Rattle.x86_operands.specs.Records.{RowRecord, order_of}
use Rattle.x86_operands.specs.Pieces.{SpellsMemory, modrm_width}
use Rattle.x86_operands.specs.declared.order.Position.TheVariants.{First}
use Rattle.x86_layout.proofs.PartLemmas.OfBytes.{as_first, there_in}
use Rattle.x86_operands.specs.Asks.{modrm_of}
use Rattle.x86_decode.specs.Head.{escape_bytes, seen_by}
use Rattle.x86_decode.specs.declared.instructions.Instruction.{Instruction}
use Rattle.x86_decode.specs.Instruction.{instruction_of}
use Rattle.x86_groups.specs.Groups.{record_of}
use Rattle.x86_groups.proofs.AddressLemmas.{uses_either_form}
use Rattle.x86_decode.specs.Grammar.{allows_lock, places_of, IsSentence}
use Rattle.x86_decode.proofs.ByteLemmas.{Bytes, bytes_of, bytes_after, bytes_before}
use Rattle.x86_layout.specs.Parts.Split.{Encoding, record_in}
use Rattle.x86_layout.specs.Tightening.Registers.{is_ip_relative}
use Rattle.x86_layout.specs.Tightening.Shortest.{shortest, address_length, IsOfBytes}
use Rattle.x86_layout.specs.Tightening.Tighten.{bits_in, run_with, IsRelative, IsLeast, IsShortest}
use Rattle.x86_layout.proofs.TightenLemmas.Rex.{run_stays, run_cleared, length_stays, seen_with, column_stays}
use Rattle.x86_layout.proofs.TightenLemmas.InstanceAlike.{same_record}
use Rattle.x86_layout.proofs.TightenLemmas.Address.{address_bytes, of_bytes, address_long, respells, address_bytes_long, bits_with}
use Rattle.x86_layout.proofs.TightenLemmas.Shortest.{shortest_is_of_bytes, shortest_has_the_address, shortest_keeps_reg, shortest_keeps_67}
use Rattle.x86_layout.proofs.TightenLemmas.Shortest.{shortest_keeps_bits, none_is_shorter}
use Rattle.x86_layout.proofs.TightenLemmas.Respell.{Rerowed, rerowed}

-- ---- a memory form

one_byte : (u : ModrmUse) (modrm : List ℕ) → u ≡ EitherForm → length modrm ≡ modrm_width u → modrm ≡ modrm_of u modrm ∷ []
one_byte u modrm e h = grind (arith, nil_from_length)

-- what a memory form is
module _ {strict : Bool} {s : List ℕ} {a : Reading} (v : Encoding strict s a) where
  abbrev pub Seen : Prefixes
  Seen = seen_by v.map v.opcode (reading_of v.run)

  abbrev pub Row : RowRecord
  Row = record_in strict s a v

  abbrev pub Byte : ℕ
  Byte = modrm_of (Row).modrm v.row_spelled.modrm

  abbrev pub Address : List ℕ
  Address = v.row_spelled.tail_spelled.pieces.address

  abbrev pub Reads : Raw → Type 0
  Reads raw = v.row_spelled.tail_spelled.pieces.memory ≡ Some raw

  -- the bytes after the address
  abbrev pub Last : List ℕ
  Last = v.row_spelled.tail_spelled.pieces.immediates ++ v.row_spelled.tail_spelled.pieces.suffix

  -- how long the encoding is with these raw fields
  abbrev pub Long : Raw → ℕ
  Long raw = length v.run + (length (escape_bytes v.map) + (2 + (address_length raw + length (Last))))

  module _ {raw : Raw} (read : Reads raw) where
    pub spells : SpellsMemory First (Seen) (Byte) (Address) (Some raw)
    spells = as_first (order_of ((Row).instance (Byte))).rm (Seen) (Byte) (Address) (Some raw) (there_in v)
        (rw read at v.row_spelled.tail_spelled.pieces.address_spelled)

    pub fields : (Row).modrm ≡ EitherForm
    fields = uses_either_form (Row).modrm v.row_spelled.modrm (spells).0

    pub byte : v.row_spelled.modrm ≡ Byte ∷ []
    byte = one_byte (Row).modrm v.row_spelled.modrm fields v.row_spelled.modrm_length

  pub address_bytes_of : Bytes s → Bytes (Address)
  address_bytes_of h =
      let t = v.row_spelled.tail_spelled.pieces in
      let after_run : Bytes (escape_bytes v.map ++ v.opcode ∷ v.tail) = bytes_after v.run _ (subst Bytes v.spelled h) in
      let tail : Bytes v.tail = (bytes_after (escape_bytes v.map) (v.opcode ∷ v.tail) after_run).1 in
      let following : Bytes v.row_spelled.tail = bytes_after v.row_spelled.modrm v.row_spelled.tail (subst Bytes v.row_spelled.spelled tail) in
      bytes_before t.address (t.immediates ++ t.suffix) (subst Bytes t.spelled following)

  pub raw_of_bytes : (raw : Raw) → Reads raw → Bytes s → IsOfBytes raw
  raw_of_bytes raw read h = of_bytes (Seen) (Byte) (Address) raw (spells read) (address_bytes_of h)

  pub length_is : (raw : Raw) → Reads raw → length s ≡ Long raw
  length_is raw read =
      let t = v.row_spelled.tail_spelled.pieces in
      let old = address_long (Seen) (Byte) (Address) raw (spells read) in
      omega (arith, length-append {A = ℕ}, ap length v.spelled, ap length v.row_spelled.spelled, ap length (byte read), ap length t.spelled, old)

-- ---- the relative

no_bits : (raw : Raw) (p : Prefixes) → raw.rex_b ≡ has_b p → raw.rex_x ≡ has_x p → p.rex ≡ None → ((shortest raw).rex_b ≡ false)
    × ((shortest raw).rex_x ≡ false)
no_bits raw p b x none = shortest_keeps_bits raw (cc (b, none)) (cc (x, none))

module _ {strict : Bool} {s : List ℕ} {a : Reading} (v : Encoding strict s a) {raw : Raw} (read : Reads v raw) (fit : IsOfBytes raw) where
  abbrev Other : Raw
  Other = shortest raw

  abbrev Run : List ℕ
  Run = run_with (Other).rex_x (Other).rex_b v.run

  abbrev Bits : Prefixes
  Bits = record (Seen v) { rex = bits_in (Other).rex_x (Other).rex_b (Seen v).rex }

  abbrev Rerow : Prefixes → Type 0
  Rerow q = Rerowed (Seen v) q (Byte v) (Other).modrm raw (Other) (record_of strict v.row q)
      (address_bytes (Other)) v.row_spelled.tail_spelled.pieces.immediates v.row_spelled.tail_spelled.pieces.suffix a

  respelled_raw : SpellsMemory First (Bits) (Other).modrm (address_bytes (Other)) (Some (Other))
  respelled_raw =
      let is = (spells v read).1.fields in
      let none = no_bits raw (Seen v) (ap (λ r. r.rex_b) is) (ap (λ r. r.rex_x) is) in
      let bits = bits_with (Other).rex_x (Other).rex_b (Seen v).rex none in
      respells (Bits) (Other) (shortest_is_of_bytes raw fit) bits.0 bits.1 (sym (shortest_keeps_67 raw ∙ ap (λ r. r.address_size) is))

  same_register : reg_field (Other).modrm ≡ reg_field (Byte v)
  same_register = shortest_keeps_reg raw ∙ ap (λ r. reg_field r.modrm) (spells v read).1.fields

  rerow : Rerow (seen_by v.map v.opcode (reading_of (Run)))
  rerow =
      let m : ℕ = Byte v in
      let n : ℕ = (Other).modrm in
      let alike = same_record strict v.row (Seen v) (Other).rex_x (Other).rex_b m n (spells v read).0 (respelled_raw).0 (same_register) in
      subst Rerow (sym (seen_with v.map v.opcode (Other).rex_x (Other).rex_b v.run))
      (rerowed (Seen v) (Bits) m n raw (Other) (record_of strict v.row (Bits)) _ v.row_spelled.tail (address_bytes (Other)) a
      v.row_spelled.tail_spelled refl read (respelled_raw).0 (respelled_raw).1
      (alike.0 ∙ v.row_spelled.passed) (alike.1 ∙ fields v read) (alike.2 (fields v read)))

  -- the bytes
  abbrev pub Bytes' : List ℕ
  Bytes' = Run ++ (escape_bytes v.map ++ v.opcode ∷ ((Other).modrm ∷ (address_bytes (Other) ++ Last v)))

  pub no_longer : is_ip_relative raw ≡ false → address_length (Other) ≤ address_length raw
  no_longer ip = none_is_shorter raw raw fit fit ip (record { modulus = refl; registers = λ r h. refl; next = refl; constant = refl })

  module _ (t : List ℕ) (spelled : t ≡ Bytes') where
    whole : Encoding strict t (rerow).again
    whole = record {
      run = Run;
      map = v.map;
      opcode = v.opcode;
      row = v.row;
      tail = (Other).modrm ∷ (address_bytes (Other) ++ Last v);
      spelled = spelled;
      prefixes = run_stays (Other).rex_x (Other).rex_b v.run ∙ v.prefixes;
      in_map = v.in_map;
      has_row = ap (λ c. rows_of packed v.map c v.opcode) (column_stays (Other).rex_x (Other).rex_b v.run) ∙ v.has_row;
      row_spelled = (rerow).row;
    }

    abbrev answer : Instruction
    answer = instruction_of (rerow).again (places_of (rows_of packed) strict t (rerow).again whole) (length t)

    sentence : allows_lock a ≡ true → length t ≤ 15 → IsSentence (rows_of packed) strict t answer
    sentence lock short = record { reading = (rerow).again; whole = whole; lock = (rerow).lock ∙ lock; short = short; yields = refl }

    relative : is_ip_relative raw ≡ false → IsRelative strict s a v t (rerow).again whole
    unfolding whole
    relative ip = record {
      parts = record {
        prefixes = run_cleared (Other).rex_x (Other).rex_b v.run;
        escape = refl;
        opcode = refl;
        register = ap (map reg_field) (rerow).modrm ∙ ap (λ n. n ∷ []) (same_register) ∙ sym (ap (map reg_field) (byte v read));
        immediate = (rerow).immediate;
        suffix = (rerow).last;
      };
      address = record { from = raw; to = Other; old = read; new = (rerow).memory; same = shortest_has_the_address raw fit ip };
    }

    pub long : length t ≡ Long v (Other)
    long = omega (arith, length-append {A = ℕ}, ap length spelled, length_stays (Other).rex_x (Other).rex_b v.run, address_bytes_long (Other))

    pub fits : length s ≤ 15 → is_ip_relative raw ≡ false → length t ≤ 15
    fits short ip = let fewer = no_longer ip in let old = length_is v raw read in let new = long in omega (arith, short, fewer, old, new)

    least : is_ip_relative raw ≡ false → IsLeast strict s a v t
    least ip = λ u c is bytes rel.
        let w = is.whole in
        let to = rel.address.to in
        let from : rel.address.from ≡ raw = cc (rel.address.old, read) in
        let same = subst (λ r. IsSameAddress (raw_form to) (raw_form r)) from rel.address.same in
        let other = raw_of_bytes w to rel.address.new (bytes_of u bytes) in
        let fewer = none_is_shorter raw to fit other ip same in
        let new = length_is w to rel.address.new in
        omega (
          arith,
          length-append {A = ℕ},
          fewer,
          long,
          new,
          length_stays false false w.run,
          ap length rel.parts.prefixes,
          length_stays false false v.run,
          ap length rel.parts.escape,
          ap length rel.parts.immediate,
          ap length rel.parts.suffix,
        )

    pub shortest_relative : allows_lock a ≡ true → length s ≤ 15 → is_ip_relative raw ≡ false → IsShortest strict s a v t
    unfolding sentence
    shortest_relative lock short ip = record { answer = answer; sentence = sentence lock (fits short ip); relative = relative ip; least = least ip }
