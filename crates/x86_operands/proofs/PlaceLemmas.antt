-- What is read with its places is what is read, and the places are lengths of the pieces.
use Rattle.std.proofs.Common.{◌≡◌, ℕ, ◌+◌, ◌++◌, drop, nat_lt, length, List, Result, Ok, Err, OnOk, refl, sym, ap, ◌∙◌, arith, length-append, append_assoc}
use Rattle.std.proofs.Math.Seq.{drop-append_seam}
use Rattle.std.proofs.lemmas.Bool.Decides.{nat_tests}
use Rattle.x86_arch.specs.Reader.{State, advanced}
use Rattle.x86_operands.specs.Vocabulary.{DecodeError, Prefixes, Reading, Verdict}
use Rattle.x86_fields.specs.Steps.{Step, Outcome, outcome, then_from, pure, ◌>>=◌}
use Rattle.x86_fields.proofs.StepLemmas.{advanced_twice}
use Rattle.x86_operands.specs.declared.places.Places.{Places}
use Rattle.x86_operands.specs.Asks.{modrm_of, uses_suffix}
use Rattle.x86_operands.specs.Records.{Instance, RowRecord, order_of}
use Rattle.x86_operands.specs.RowSteps.{read_modrm, read_instance, record_step, refuse_fault}
use Rattle.x86_operands.specs.Pieces.{SpellsRow, SpellsTail, suffix_width}
use Rattle.x86_operands.specs.Places.{Placed, place_of, instance_places, instance_placed, record_placed}
use Rattle.x86_operands.specs.OperandList.{value_if_ok}
use Rattle.x86_operands.proofs.InstanceLemmas.{takes_memory, takes_tail}
use Rattle.x86_operands.proofs.RecordLemmas.{takes_modrm}

-- ---- without the places

abbrev pub unplaced : Outcome Placed → Outcome Reading
unplaced o = then_from o.answer o.after (λ x. pure x.0)

pub unplaced_from : {X : Type 0} (r : Result X DecodeError) (t : State ℕ) (f : X → Step Placed) (g : X → Step Reading) →
    ((x : X) (u : State ℕ) → unplaced (f x u) ≡ g x u) → unplaced (then_from r t f) ≡ then_from r t g
unplaced_from (Ok x) t f g each = each x t
unplaced_from (Err e) t f g each = refl

read_is : (r : Result Reading DecodeError) (t : State ℕ) (places : Places) → unplaced (then_from r t (λ reading. pure (reading, places))) ≡ outcome r t
read_is (Ok reading) t places = refl
read_is (Err e) t places = refl

module _ (opcode_end : ℕ) (r : RowRecord) (p : Prefixes) where
  pub unplaced_record : (s : State ℕ) → unplaced (record_placed opcode_end r p s) ≡ record_step r p s
  unfolding record_placed record_step
  unplaced_record s = unplaced_from (refuse_fault r.at_opcode s).answer (refuse_fault r.at_opcode s).after _ _
      (λ _ t. unplaced_from (read_modrm r.modrm t).answer (read_modrm r.modrm t).after _ _
      (λ m u. read_is (read_instance (r.instance m) p m u).answer (read_instance (r.instance m) p m u).after _))

  -- ---- the places, by the pieces

  module _ (bytes rest : List ℕ) (reading : Reading) (a : SpellsRow r p bytes reading) where
    abbrev m : ℕ
    m = modrm_of r.modrm a.modrm

    abbrev pieces_places : State ℕ → Places
    pieces_places s = record {
      opcode_end = opcode_end;
      address_end = place_of (s.since_mark + length a.tail_spelled.pieces.address);
      has_suffix = uses_suffix (r.instance m).verdict;
    }

    tail_places : (t : State ℕ) → t.left ≡ a.tail ++ rest →
        instance_placed opcode_end (r.instance m) p m t ≡ outcome (Ok (reading, pieces_places t)) (advanced (length a.tail) t)
    tail_places t h =
        let pieces = a.tail_spelled.pieces in
        let address = (takes_memory (order_of (r.instance m)).rm p m pieces.address pieces.memory pieces.address_spelled).takes
        ((pieces.immediates ++ pieces.suffix) ++ rest) t
        (h ∙ ap (λ l. l ++ rest) pieces.spelled ∙ append_assoc pieces.address (pieces.immediates ++ pieces.suffix) rest) in
        rw ((takes_tail (r.instance m) p m a.tail reading a.tail_spelled).takes rest t h, address) refl

    pub row_placed : (s : State ℕ) → s.left ≡ bytes ++ rest →
        record_placed opcode_end r p s ≡ outcome (Ok (reading, pieces_places (advanced (length a.modrm) s))) (advanced (length bytes) s)
    unfolding record_placed
    row_placed s h =
        let after = advanced (length a.modrm) s in
        let split : s.left ≡ a.modrm ++ (a.tail ++ rest) = h ∙ ap (λ l. l ++ rest) a.spelled ∙ append_assoc a.modrm a.tail rest in
        let left : after.left ≡ a.tail ++ rest = ap (drop (length a.modrm)) split ∙ drop-append_seam a.modrm (a.tail ++ rest) in
        let all : length a.modrm + length a.tail ≡ length bytes = sym (ap length a.spelled ∙ length-append a.modrm a.tail) in
        rw (a.passed, (takes_modrm r.modrm a.modrm a.modrm_length).takes (a.tail ++ rest) s split)
        (tail_places after left ∙ ap (outcome (Ok (reading, pieces_places after)))
        (advanced_twice (length a.modrm) (length a.tail) s ∙ ap (λ n. advanced n s) all))

-- what was read, and the places that were written
pub instance_is_placed : (result : Result (Unit {0}) DecodeError) (reading : Reading) (places : Places) (opcode_end : ℕ) (instance : Instance)
    (p : Prefixes) (m : ℕ) (s t : State ℕ) → outcome (value_if_ok result reading) t ≡ read_instance instance p m s →
    OnOk result (places ≡ instance_places instance p m s opcode_end) →
    outcome (value_if_ok result (reading, places)) t ≡ instance_placed opcode_end instance p m s
instance_is_placed (Ok x) reading places opcode_end instance p m s t read at = rw (← read, at) refl
instance_is_placed (Err e) reading places opcode_end instance p m s t read at = rw (← read) refl

-- a suffix is there where the verdict uses one
pub suffix_is_there : (verdict : Verdict) (suffix : List ℕ) → length suffix ≡ suffix_width verdict → nat_lt 0 (length suffix) ≡ uses_suffix verdict
suffix_is_there verdict suffix h = rw h (grind arith)
