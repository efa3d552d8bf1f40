-- The pieces of a row with other raw fields.
use Rattle.std.proofs.Common.{◌≡◌, ℕ, Bool, true, ◌&&◌, Option, Some, None, List, [], ◌∷◌, ◌++◌, refl, sym, ap, ◌∙◌, arith}
use Rattle.x86_fields.specs.declared.prefixes.Prefixes.{Prefixes}
use Rattle.x86_fields.specs.declared.raw.Raw.{Raw}
use Rattle.x86_fields.specs.Pieces.{SpellsRaw}
use Rattle.x86_operands.specs.declared.operands.Slot.{Slot}
use Rattle.x86_operands.specs.declared.operands.Operand.{Operand}
use Rattle.x86_operands.specs.declared.vocabulary.OperandEncoding.{OperandEncoding}
use Rattle.x86_operands.specs.declared.vocabulary.PrefixChange.{PrefixChange}
use Rattle.x86_operands.specs.declared.vocabulary.ModrmUse.TheVariants.{EitherForm}
use Rattle.x86_operands.specs.declared.reader.Reading.{Reading}
use Rattle.x86_operands.specs.Operands.{is_memory_slot, shape}
use Rattle.x86_fields.specs.ModRM.{is_memory}
use Rattle.x86_operands.specs.Records.{Instance, RowRecord, order_of}
use Rattle.x86_operands.specs.RowSteps.{Immediate, changed, immediate_read, known_operand}
use Rattle.x86_operands.specs.Pieces.{operand_from, operands_from, reading_from, SpellsTail, SpellsRow, modrm_width}
use Rattle.x86_operands.specs.Templates.{somewhere}
use Rattle.x86_operands.specs.declared.operand_list.Operands.{Operands}
use Rattle.x86_decode.specs.Grammar.{allows_lock, first_slot}
use Rattle.x86_layout.proofs.TightenLemmas.Operands.{Alike, alike, operands_alike}
use Rattle.std.specs.Int.{from_le_bytes}
use Rattle.std.specs.Option.{option_map_or}

-- ---- the operands

pub is_shape : (raw : Raw) → is_memory_slot (shape raw).0 ≡ true
unfolding shape
is_shape raw = grind arith

module _ (p q : Prefixes) (m n : ℕ) (raw other : Raw) where
  -- both are memory, or neither is
  abbrev IsSameKind : Slot × Operand → Slot × Operand → Type 0
  IsSameKind x y = is_memory_slot y.0 ≡ is_memory_slot x.0

  known_kind : (s : OperandEncoding) → IsSameKind (known_operand s p m None) (known_operand s q n None)
  known_kind s = grind arith

  rm_kind : (s : OperandEncoding) → IsSameKind (known_operand s p m (Some raw)) (known_operand s q n (Some other))
  rm_kind s = grind (arith, is_shape other, is_shape raw)

  operand_kind : (s : OperandEncoding) (bytes : List ℕ) → IsSameKind (operand_from s p m bytes) (operand_from s q n bytes)
  operand_kind s bytes = by (immediate_read s)
    where
      by : (i : Option Immediate) → IsSameKind (option_map_or (λ j. j.1 (from_le_bytes j.0 bytes)) i (known_operand s p m None))
          (option_map_or (λ j. j.1 (from_le_bytes j.0 bytes)) i (known_operand s q n None))
      by None = known_kind s
      by (Some j) = refl

  same_kinds : (instance : Instance) (bytes : List ℕ) →
      Alike IsSameKind refl (operands_from instance p m (Some raw) bytes) (operands_from instance q n (Some other) bytes)
  same_kinds instance bytes = operands_alike IsSameKind refl instance p q m n (Some raw) (Some other) bytes
      (record { rm = rm_kind instance.rm; reg = known_kind instance.reg; last = operand_kind instance.last; extra = operand_kind instance.extra })

  first_kind : {l k : Operands} → Alike IsSameKind refl l k → is_memory_slot (first_slot k.slots) ≡ is_memory_slot (first_slot l.slots)
  first_kind (alike c z a b d e a' b' d' e' ra rb rd re hl hk) = rw (hl, hk) ra

  -- ---- after the opcode

  lock_of_change : (change : PrefixChange) → p.lock ≡ q.lock → (changed change q).lock ≡ (changed change p).lock
  lock_of_change change e = grind arith

  still_there : (a b c : Bool) → (a && b) ≡ true → c ≡ true → (a && c) ≡ true
  still_there a b c h e = grind arith

  -- what the other row has there, with ModRM byte n and these raw fields, and the reading
  pub record Rerowed (r : RowRecord) (address immediates suffix : List ℕ) (reading : Reading) : Type 0 where
    pub again : Reading
    pub row : SpellsRow r q (n ∷ (address ++ (immediates ++ suffix))) again
    pub modrm : row.modrm ≡ n ∷ []
    pub memory : row.tail_spelled.pieces.memory ≡ Some other
    pub immediate : row.tail_spelled.pieces.immediates ≡ immediates
    pub last : row.tail_spelled.pieces.suffix ≡ suffix
    pub lock : allows_lock again ≡ allows_lock reading

  pub rerowed : (r : RowRecord) (instance : Instance) (tail address : List ℕ) (reading : Reading) (h : SpellsTail instance p m tail reading) →
      p.lock ≡ q.lock → h.pieces.memory ≡ Some raw → is_memory n ≡ true → SpellsRaw q n address other → r.at_opcode ≡ None →
      r.modrm ≡ EitherForm → r.instance n ≡ instance → Rerowed r address h.pieces.immediates h.pieces.suffix reading
  rerowed r instance tail address reading h same read memory spells passed usage told =
      let s = h.pieces in
      let there = still_there (somewhere (order_of instance).rm) (is_memory m) (is_memory n) (rw read at s.address_spelled).0 memory in
      let again : Reading = reading_from instance q n h.opcode (Some other) s.immediates in
      let lock : allows_lock again ≡ allows_lock (reading_from instance p m h.opcode (Some raw) s.immediates) =
      cc (lock_of_change instance.change same, first_kind (same_kinds instance s.immediates)) in
      record {
        again = again;
        row = record {
          modrm = n ∷ [];
          tail = address ++ (s.immediates ++ s.suffix);
          passed = passed;
          spelled = refl;
          modrm_length = ap modrm_width (sym usage);
          tail_spelled = record {
            pieces = record {
              memory = Some other;
              address = address;
              immediates = s.immediates;
              suffix = s.suffix;
              spelled = refl;
              address_spelled = rw (usage, told) (there, spells);
              immediates_length = rw (usage, told) s.immediates_length;
              suffix_length = rw (usage, told) s.suffix_length;
            };
            opcode = h.opcode;
            named = rw (usage, told) h.named;
            accepted = rw (usage, told) h.accepted;
            yields = rw (usage, told) refl;
          };
        };
        modrm = refl;
        memory = refl;
        immediate = refl;
        last = refl;
        lock = lock ∙ ap (λ o. allows_lock (reading_from instance p m h.opcode o s.immediates)) (sym read) ∙ ap allows_lock (sym h.yields);
      }
