-- Fields that meet the conditions on their row spell what the row has, and the other way round.
use Rattle.std.proofs.Common.{◌↔◌, ◌≡◌, ℕ, ◌==◌, ◌&&◌, ◌||◌, not, Bool, true, false, if◌then◌else◌, List, [], ◌++◌, length}
use Rattle.std.proofs.Common.{Option, Some, None, is_some, is_none, refl, sym, ap, subst, ◌∙◌, arith}
use Rattle.std.proofs.lemmas.List.{nil_from_length}
use Rattle.std.proofs.lemmas.Bool.Decides.{nat_tests}
use Rattle.x86_fields.specs.declared.prefixes.Prefixes.{Prefixes}
use Rattle.x86_fields.specs.declared.raw.Raw.{Raw}
use Rattle.x86_fields.specs.ModRM.{rm_field, is_memory}
use Rattle.x86_fields.specs.Raw.{displacement_width, has_b, has_x}
use Rattle.x86_fields.specs.Pieces.{option_bytes, signed_by}
use Rattle.x86_operands.specs.declared.vocabulary.Verdict.{Verdict}
use Rattle.x86_operands.specs.declared.vocabulary.Verdict.TheVariants.{Accepts, NamedBySuffix, Refuses}
use Rattle.x86_operands.specs.declared.reader.Reading.{Reading}
use Rattle.x86_operands.specs.Records.{RowRecord, is_refusal, order_of}
use Rattle.x86_operands.specs.Asks.{modrm_of, uses_modrm, uses_suffix, immediates_width, record_at}
use Rattle.x86_operands.specs.Pieces.{opcode_by, reading_from, SpellsMemory, SpellsRow}
use Rattle.x86_operands.specs.RowSteps.{suffix_opcode}
use Rattle.x86_layout.specs.declared.parts.fields.Fields as fields
use Rattle.x86_layout.specs.Parts.Heads.{one_if}
use Rattle.x86_layout.specs.Parts.Split.{sib_width}
use Rattle.x86_layout.specs.Parts.Permitted.{refuses_suffix, passes_record, displacement_length, has_row_parts, tail_of}
use Rattle.x86_layout.proofs.PartLemmas.Part.{immediates_long, use_width, verdict_width}
use Rattle.x86_layout.proofs.PartLemmas.OfBytes.{HoldsPieces, IsThere, option_count, first_of, displacement_long}
use Rattle.x86_operands.specs.Templates.{has_address}
use Rattle.x86_operands.specs.declared.order.Position.{Position}

-- ---- tests

-- five numbers are what they are tested for
tests_five : (a a' b b' c c' d d' e e' : ℕ) → (((a == a') && (b == b') && (c == c') && (d == d') && (e == e')) ≡ true) ↔
    ((a ≡ a') × (b ≡ b') × (c ≡ c') × (d ≡ d') × (e ≡ e'))
tests_five a a' b b' c c' d d' e e' = (
  λ h. (
    grind (arith, nat_tests),
    grind (arith, nat_tests),
    grind (arith, nat_tests),
    grind (arith, nat_tests),
    grind (arith, nat_tests),
  ),
  λ h. grind (arith, nat_tests),
)

three_of : (a b c d : Bool) → (a && (not b || c) && not d) ≡ true → (a ≡ true) × ((not b || c) ≡ true) × (d ≡ false)
three_of a b c d h = (grind arith, grind arith, grind arith)

none_is : {A : Type 0} (o : Option A) → is_none o ≡ true → o ≡ None
none_is o h = grind arith

some_is : {A : Type 0} (o : Option A) → is_none o ≡ false → (x : A) × (o ≡ Some x)
some_is o h = grind arith

-- ---- the pieces that a row has

none_left : (sib : Option ℕ) (disp : List ℕ) → one_if (is_some sib) ≡ 0 → length disp ≡ 0 → option_bytes sib ++ disp ≡ []
none_left sib disp e h = let none = nil_from_length disp h in grind arith

spell_memory : (at : Position) (p : Prefixes) (m : ℕ) (sib : Option ℕ) (disp : List ℕ) → has_address at m ≡ is_memory m →
    one_if (is_some sib) ≡ sib_width m →
    length disp ≡ displacement_length m sib → (memory : Option Raw) × SpellsMemory at p m (option_bytes sib ++ disp) memory
spell_memory at p m sib disp there e h = by (is_memory m) refl e h
  where
    by : (t : Bool) → is_memory m ≡ t → one_if (is_some sib) ≡ one_if (t && rm_field m == 4) →
        length disp ≡ (if t then displacement_width m sib else 0) → (memory : Option Raw) × SpellsMemory at p m (option_bytes sib ++ disp) memory
    by true is e h = (
      Some (record { rex_b = has_b p; rex_x = has_x p; address_size = p.address_size; modrm = m; sib = sib; disp = signed_by (displacement_width m sib) disp }),
      (there ∙ is, record { sib = sib; disp = disp; spelled = refl; sib_present = grind (arith, e); disp_length = h; fields = refl }),
    )
    by false is e h = (None, (there ∙ is, none_left sib disp e h))

named_by : (v : Verdict) (opcode : ℕ) (suffix : Option ℕ) → is_refusal v ≡ false → refuses_suffix v suffix ≡ false →
    one_if (is_some suffix) ≡ one_if (uses_suffix v) → (o : ℕ) × (opcode_by v opcode (option_bytes suffix) ≡ Some o)
named_by Accepts opcode suffix a h e = (opcode, refl)
named_by NamedBySuffix opcode (Some b) a h e = some_is (suffix_opcode b) h
named_by NamedBySuffix opcode None a h e = absurd (omega (arith, e))
named_by (Refuses fault) opcode suffix a h e = absurd cc

-- The parts of fields after the opcode byte are the pieces of a row.
abbrev pub HoldsFields : (r : RowRecord) (p : Prefixes) (tail : List ℕ) (reading : Reading) → fields.Fields → SpellsRow r p tail reading → Type 0
HoldsFields r p tail reading f a = HoldsPieces r p tail reading a (option_bytes f.modrm)
    (option_bytes f.sib) f.displacement.items f.immediate.items (option_bytes f.suffix)

pub record SpellsFields (r : RowRecord) (p : Prefixes) (f : fields.Fields) : Type 0 where
  pub reading : Reading
  pub row : SpellsRow r p (tail_of f) reading
  pub parts : HoldsFields r p (tail_of f) reading f row

module _ (r : RowRecord) (p : Prefixes) (f : fields.Fields) where
  abbrev m : ℕ
  m = modrm_of r.modrm (option_bytes f.modrm)

  abbrev v : Verdict
  v = (r.instance m).verdict

  pub spelled : (is_refusal v ≡ false → has_address (order_of (r.instance m)).rm m ≡ is_memory m) →
      passes_record (record_at r f.modrm) f ≡ true → has_row_parts (record_at r f.modrm) f ≡ true → SpellsFields r p f
  unfolding record_at
  spelled reads h k =
      let passed = three_of (is_none r.at_opcode) (is_refusal v) (uses_modrm r.modrm && is_none f.modrm) (refuses_suffix v f.suffix) h in
      let counts = (tests_five _ _ _ _ _ _ _ _ _ _).0 k in
      let modrm_n : one_if (is_some f.modrm) ≡ one_if (uses_modrm r.modrm) = counts.0 in
      let accepted : is_refusal v ≡ false = let either = passed.1 in grind arith in
      let there = reads accepted in
      let sib_n : one_if (is_some f.sib) ≡ sib_width m = counts.1 ∙ ap (λ t. one_if (t && rm_field m == 4)) there in
      let suffix_n : one_if (is_some f.suffix) ≡ one_if (uses_suffix v) = counts.4 in
      let memory = spell_memory (order_of (r.instance m)).rm p m f.sib f.displacement.items there sib_n counts.2 in
      let named = named_by v (r.instance m).opcode f.suffix accepted passed.2 suffix_n in
      record {
        reading = reading_from (r.instance m) p m named.0 memory.0 f.immediate.items;
        row = record {
          modrm = option_bytes f.modrm;
          tail = (option_bytes f.sib ++ f.displacement.items) ++ (f.immediate.items ++ option_bytes f.suffix);
          passed = none_is r.at_opcode passed.0;
          spelled = refl;
          modrm_length = option_count f.modrm ∙ modrm_n ∙ use_width r.modrm;
          tail_spelled = record {
            pieces = record {
              memory = memory.0;
              address = option_bytes f.sib ++ f.displacement.items;
              immediates = f.immediate.items;
              suffix = option_bytes f.suffix;
              spelled = refl;
              address_spelled = memory.1;
              immediates_length = counts.3;
              suffix_length = option_count f.suffix ∙ suffix_n ∙ verdict_width v;
            };
            opcode = named.0;
            named = named.1;
            accepted = accepted;
            yields = refl;
          };
        };
        parts = record { modrm = refl; sib = option_count f.sib ∙ sib_n; address = refl; immediate = refl; suffix = refl };
      }

-- ---- the other way round

names_suffix : (v : Verdict) (opcode o : ℕ) (suffix : Option ℕ) → opcode_by v opcode (option_bytes suffix) ≡ Some o → refuses_suffix v suffix ≡ false
names_suffix v opcode o suffix h = grind arith

module _ {r : RowRecord} {p : Prefixes} {tail : List ℕ} {reading : Reading} (f : fields.Fields) (a : SpellsRow r p tail reading)
    (h : HoldsFields r p tail reading f a) where
  abbrev at : ℕ
  at = modrm_of r.modrm (option_bytes f.modrm)

  same_at : modrm_of r.modrm a.modrm ≡ at
  same_at = ap (modrm_of r.modrm) (sym h.modrm)

  accepts : is_refusal (r.instance at).verdict ≡ false
  accepts = subst (λ n. is_refusal (r.instance n).verdict ≡ false) same_at a.tail_spelled.accepted

  names : opcode_by (r.instance at).verdict (r.instance at).opcode (option_bytes f.suffix) ≡ Some a.tail_spelled.opcode
  names = cc (same_at, h.suffix, a.tail_spelled.named)

  pub passes : passes_record (record_at r f.modrm) f ≡ true
  unfolding record_at
  passes = cc (a.passed, accepts, names_suffix (r.instance at).verdict (r.instance at).opcode a.tail_spelled.opcode f.suffix names)

  pub row_parts : IsThere a → has_row_parts (record_at r f.modrm) f ≡ true
  unfolding record_at
  row_parts reads =
      let there : has_address (order_of (r.instance at)).rm at ≡ is_memory at =
      subst (λ n. has_address (order_of (r.instance n)).rm n ≡ is_memory n) same_at reads in
      let modrm : one_if (is_some f.modrm) ≡ one_if (uses_modrm r.modrm) = cc (option_count f.modrm, h.modrm, a.modrm_length, use_width r.modrm) in
      let sib : one_if (is_some f.sib) ≡ sib_width at = cc (option_count f.sib, h.sib, same_at) in
      let displacement : length f.displacement.items ≡ displacement_length at f.sib =
      cc (displacement_long a reads (option_bytes f.sib) f.displacement.items h.address h.sib, first_of f.sib, same_at) in
      let immediate : length f.immediate.items ≡ immediates_width (r.instance at) = cc (h.immediate, immediates_long a, same_at) in
      let suffix : one_if (is_some f.suffix) ≡ one_if (uses_suffix (r.instance at).verdict) =
      cc (option_count f.suffix, h.suffix, a.tail_spelled.pieces.suffix_length, verdict_width (r.instance (modrm_of r.modrm a.modrm)).verdict, same_at) in
      (tests_five _ _ _ _ _ _ _ _ _ _).1 (modrm, sib ∙ ap (λ t. one_if (t && rm_field at == 4)) (sym there), displacement, immediate, suffix)
