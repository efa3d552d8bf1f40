-- What an instance takes, and where it ends: its pieces, one after another, and its opcode or its refusal.
use Rattle.std.proofs.Common.{◌≡◌, ℕ, Bool, true, false, if◌then◌else◌, List, [], ◌∷◌, ◌++◌, length, take, drop, Option, Some, None, Result, Ok, Err}
use Rattle.std.proofs.Common.{refl, sym, ap, ap₂, subst, ◌∙◌, inl, inr, append_assoc, length-append, length-take, length-drop, ◌≢◌, ◌⊎◌, arith}
use Rattle.std.proofs.Math.Seq.{take-append_seam, drop-append_seam}
use Rattle.std.proofs.lemmas.List.{append-nil, nil_from_length, take-append-drop}
use Rattle.x86_operands.specs.Vocabulary.{DecodeError, Prefixes, Raw, Position, Fault, Verdict, Reading, Operands}
use Rattle.x86_operands.specs.Vocabulary.{BadOpcode, Accepts, NamedBySuffix, Refuses}
use Rattle.x86_fields.specs.Raw.{read_raw}
use Rattle.x86_fields.specs.Steps.{Step, pure, ◌>>=◌, outcome, refuse, next_byte}
use Rattle.x86_fields.specs.Pieces.{SpellsRaw, EndsBetween, raw_widths, total}
use Rattle.x86_fields.proofs.StepLemmas.{Takes, takes_pure, takes_bind, takes_err, takes_byte}
use Rattle.x86_fields.proofs.EndLemmas.{EndsWell, IsEmpty, IsFinal, Only, ends_pure, ends_bind, ends_then, ends_map, Halts, halts_bind, halts_empty}
use Rattle.x86_fields.proofs.EndLemmas.{halts_same, over, final_ok, final_other, bind_assoc, IsByte, ends_byte, ends_refuse, final_err}
use Rattle.x86_fields.proofs.PieceLemmas.{takes_map, ends_raw, takes_raw, halts_raw, halts_piece, raw_long, none_there, one_there, more_missing, more_there}
use Rattle.x86_fields.proofs.PieceLemmas.{FirstPiece, nothing, piece, first_piece, between_nil}
use Rattle.x86_operands.specs.Records.{Instance, is_refusal, order_of}
use Rattle.x86_operands.specs.RowSteps.{address_step, changed, row_ended, error_of, known_operand, leading_read, other_read, put_in, read_opcode, read_instance}
use Rattle.x86_operands.specs.RowSteps.{reading_with, rm_read, sized, suffix_opcode}
use Rattle.x86_operands.specs.Asks.{part_width}
use Rattle.x86_operands.specs.Templates.{has_address}
use Rattle.x86_operands.specs.Pieces.{SpellsMemory, SpellsPieces, SpellsTail, RefusesTail, after_pieces, no_name, suffix_width}
use Rattle.x86_operands.specs.Pieces.{memory_widths, tail_widths, opcode_by, operand_from, operands_from, reading_from}
use Rattle.x86_operands.proofs.OperandLemmas.{IsPut, reads_other}
use Rattle.std.specs.Option.{option_map_or}
use Rattle.x86_fields.specs.declared.errors.DecodeError.TheVariants.{ExhaustedInput, InvalidOpcode}

-- ---- faults

pub fault_error : (f : Fault) → error_of f ≢ ExhaustedInput
fault_error f e = grind arith

-- the error is a fault, and the fault has this property
abbrev pub Faults : (Fault → Type 0) → DecodeError → Type 0
Faults P e = (fault : Fault) × (e ≡ error_of fault) × P fault

abbrev pub Never : List ℕ → Type 0
Never q = ⊥

-- ---- how a row ends

-- it refuses, or no opcode has its suffix
abbrev pub IsEnd : Verdict → ℕ → List ℕ → Fault → Type 0
IsEnd v opcode q fault = (v ≡ Refuses fault) ⊎ ((v ≡ NamedBySuffix) × (opcode_by v opcode q ≡ None) × (fault ≡ BadOpcode))

abbrev pub IsNamed : Verdict → ℕ → List ℕ → Result ℕ DecodeError → Type 0
IsNamed v opcode q (Ok o) = (length q ≡ suffix_width v) × (opcode_by v opcode q ≡ Some o) × (is_refusal v ≡ false)
IsNamed v opcode q (Err e) = (length q ≡ suffix_width v) × Faults (IsEnd v opcode q) e

ends_suffix : (opcode : ℕ) (b : ℕ) (q : List ℕ) → q ≡ b ∷ [] → (o : Option ℕ) → suffix_opcode b ≡ o →
    EndsWell (λ l r. IsNamed NamedBySuffix opcode (q ++ l) r) (λ l. IsEmpty (q ++ l)) (option_map_or pure o (refuse InvalidOpcode))
ends_suffix opcode b q h None e = ends_refuse (λ l r. IsNamed NamedBySuffix opcode (q ++ l) r) (λ l. IsEmpty (q ++ l))
    (error_of BadOpcode) (fault_error BadOpcode)
    (let whole : q ++ [] ≡ b ∷ [] = append-nil q ∙ h in
    (ap length whole, (BadOpcode, refl, inr (refl, ap (opcode_by NamedBySuffix opcode) whole ∙ e, refl))))
ends_suffix opcode b q h (Some o) e = ends_pure (λ l r. IsNamed NamedBySuffix opcode (q ++ l) r) (λ l. IsEmpty (q ++ l)) o
    (let whole : q ++ [] ≡ b ∷ [] = append-nil q ∙ h in (ap length whole, ap (opcode_by NamedBySuffix opcode) whole ∙ e, refl))

pub ends_opcode : (v : Verdict) (opcode : ℕ) → EndsWell (IsNamed v opcode) IsEmpty (read_opcode v opcode)
ends_opcode Accepts opcode = ends_pure (IsNamed Accepts opcode) IsEmpty opcode (refl, refl, refl)
ends_opcode NamedBySuffix opcode = ends_then IsByte IsEmpty (IsNamed NamedBySuffix opcode) IsEmpty next_byte
    (λ b. option_map_or pure (suffix_opcode b) (refuse InvalidOpcode)) ends_byte (λ q e. e)
    (λ q b h. ends_suffix opcode b q h (suffix_opcode b) refl)
ends_opcode (Refuses f) opcode = ends_refuse (IsNamed (Refuses f) opcode) IsEmpty (error_of f) (fault_error f) (refl, (f, refl, inl refl))

at_once : (r : Result ℕ DecodeError) (q : List ℕ) → length q ≡ 0 → Takes (λ s. outcome r s) q r
at_once r q none = subst (λ l. Takes (λ s. outcome r s) l r) (sym (nil_from_length q none)) (takes_pure r)

by_suffix : (b : ℕ) (r : Result ℕ DecodeError) → Takes (option_map_or pure (suffix_opcode b) (refuse InvalidOpcode)) [] r →
    Takes (next_byte >>= λ b. option_map_or pure (suffix_opcode b) (refuse InvalidOpcode)) (b ∷ []) r
by_suffix b r t = takes_bind next_byte (λ b. option_map_or pure (suffix_opcode b) (refuse InvalidOpcode)) (b ∷ []) [] b r (takes_byte b) t

pub takes_opcode : (v : Verdict) (opcode o : ℕ) (q : List ℕ) → length q ≡ suffix_width v → opcode_by v opcode q ≡ Some o → is_refusal v ≡ false →
    Takes (read_opcode v opcode) q (Ok o)
takes_opcode Accepts opcode o q e h passed = let same : opcode ≡ o = cc in rw same (at_once (Ok o) q e)
takes_opcode NamedBySuffix opcode o (b ∷ []) e h passed = let name : suffix_opcode b ≡ Some o = h in by_suffix b (Ok o) (rw name (takes_pure (Ok o)))
takes_opcode NamedBySuffix opcode o q e h passed = absurd (omega arith)
takes_opcode (Refuses f) opcode o q e h passed = cc

pub takes_end : (v : Verdict) (opcode : ℕ) (q : List ℕ) (fault : Fault) → length q ≡ suffix_width v → IsEnd v opcode q fault →
    Takes (read_opcode v opcode) q (Err (error_of fault))
takes_end v opcode q fault e (inl is) = rw is (at_once (Err (error_of fault)) q (e ∙ ap suffix_width is))
takes_end NamedBySuffix opcode (b ∷ []) fault e (inr is) =
    let none : suffix_opcode b ≡ None = is.1 in rw is.2 (by_suffix b (Err InvalidOpcode) (rw none (takes_pure (Err InvalidOpcode))))
takes_end NamedBySuffix opcode q fault e (inr is) = absurd (omega arith)
takes_end v opcode q fault e (inr is) = let named : v ≡ NamedBySuffix = is.0 in cc

-- with its suffix it ends
pub answered : (v : Verdict) (opcode : ℕ) (q : List ℕ) → length q ≡ suffix_width v →
    (r : Result ℕ DecodeError) × Takes (read_opcode v opcode) q r × IsFinal r
answered Accepts opcode q e = (Ok opcode, at_once (Ok opcode) q e, final_ok opcode)
answered NamedBySuffix opcode q e = by (opcode_by NamedBySuffix opcode q) refl
  where
    by : (o : Option ℕ) → opcode_by NamedBySuffix opcode q ≡ o → (r : Result ℕ DecodeError) × Takes (read_opcode NamedBySuffix opcode) q r × IsFinal r
    by None is = (Err InvalidOpcode, takes_end NamedBySuffix opcode q BadOpcode e (inr (refl, is, refl)), final_err InvalidOpcode (fault_error BadOpcode))
    by (Some o) is = (Ok o, takes_opcode NamedBySuffix opcode o q e is refl, final_ok o)
answered (Refuses f) opcode q e = (Err (error_of f), takes_end (Refuses f) opcode q f e (inl refl), final_err (error_of f) (fault_error f))

-- ---- the memory operand

abbrev memory_if : Prefixes → ℕ → Bool → Step (Option Raw)
memory_if p m test = if test then (read_raw p m >>= λ raw. pure (Some raw)) else pure None

module _ (at : Position) (p : Prefixes) (m : ℕ) where
  abbrev IsMemory : List ℕ → Option Raw → Type 0
  IsMemory q memory = SpellsMemory at p m q memory

  ends_by : (test : Bool) → has_address at m ≡ test →
      EndsWell (Only IsMemory) (λ q. EndsBetween (if test then raw_widths m q else []) q) (memory_if p m test)
  ends_by true is = ends_map (SpellsRaw p m) (λ q. EndsBetween (raw_widths m q) q) IsMemory (read_raw p m) Some (ends_raw p m) (λ q raw h. (is, h))
  ends_by false is = ends_pure (Only IsMemory) (λ q. EndsBetween [] q) None (is, refl)

  ends_memory : EndsWell (Only IsMemory) (λ q. EndsBetween (memory_widths at m q) q) (address_step at p m)
  ends_memory = ends_by (has_address at m) refl

  pub takes_memory : (q : List ℕ) (memory : Option Raw) → IsMemory q memory → Takes (address_step at p m) q (Ok memory)
  takes_memory q (Some raw) h = rw h.0 (takes_map (read_raw p m) Some q raw (takes_raw p m q raw h.1))
  takes_memory q None h = rw h.0 (subst (λ l. Takes {X = Option Raw} (pure None) l (Ok None)) (sym h.1) (takes_pure (Ok None)))

  memory_long : (q rest : List ℕ) (memory : Option Raw) → IsMemory q memory → length q ≡ total (memory_widths at m (q ++ rest))
  memory_long q rest (Some raw) h = raw_long p m q rest raw h.1 ∙ ap (λ b. total (if b then raw_widths m (q ++ rest) else [])) (sym h.0)
  memory_long q rest None h = ap length h.1 ∙ ap (λ b. total (if b then raw_widths m (q ++ rest) else [])) (sym h.0)

-- ---- the pieces in order

abbrev pub InstanceYields : Instance → Prefixes → ℕ → List ℕ → Result Reading DecodeError → Type 0
InstanceYields instance p m q (Ok reading) = SpellsTail instance p m q reading
InstanceYields instance p m q (Err e) = Faults (RefusesTail instance p m q) e

abbrev pub InstanceBetween : Instance → ℕ → List ℕ → Type 0
InstanceBetween instance m q = EndsBetween (tail_widths instance m q) q

module _ (instance : Instance) (p : Prefixes) (m : ℕ) where
  abbrev v : Verdict
  v = instance.verdict

  abbrev at : Position
  at = (order_of instance).rm

  abbrev Yields : List ℕ → Result Reading DecodeError → Type 0
  Yields q r = InstanceYields instance p m q r

  abbrev Between : List ℕ → Type 0
  Between q = InstanceBetween instance m q

  -- how long the immediates are, and what follows SIB and displacement
  abbrev last_width : ℕ
  last_width = part_width (order_of instance).last instance.last

  abbrev extra_width : ℕ
  extra_width = part_width (order_of instance).extra instance.extra

  abbrev widths : List ℕ
  widths = last_width ∷ extra_width ∷ suffix_width v ∷ []

  -- the operands of rm and reg, and all of them
  abbrev leading : Option Raw → Operands
  leading memory = put_in (order_of instance).reg (known_operand instance.reg p m None)
      (put_in at (known_operand instance.rm p m memory) (sized (order_of instance).count instance.size))

  abbrev written : Option Raw → List ℕ → List ℕ → Operands
  written memory last extra = put_in (order_of instance).extra (operand_from instance.extra p m extra)
      (put_in (order_of instance).last (operand_from instance.last p m last) (leading memory))

  abbrev leading_step : Step Operands
  leading_step = leading_read (order_of instance) instance.reg instance.rm p m (sized (order_of instance).count instance.size)

  abbrev last_step : Operands → Step Operands
  last_step = other_read (order_of instance).last instance.last p m

  abbrev extra_step : Operands → Step Operands
  extra_step = other_read (order_of instance).extra instance.extra p m

  abbrev after_last : Operands → Step Reading
  after_last x = extra_step x >>= row_ended instance p

  abbrev after_leading : Operands → Step Reading
  after_leading x = last_step x >>= after_last

  in_two : (memory : Option Raw) (last extra : List ℕ) → length last ≡ last_width →
      written memory last extra ≡ operands_from instance p m memory (last ++ extra)
  in_two memory last extra e =
      let parts : (take last_width (last ++ extra) ≡ last) × (drop last_width (last ++ extra) ≡ extra) =
      (cc (take-append_seam last extra), cc (drop-append_seam last extra)) in
      ap₂ (λ a b. written memory a b) (sym parts.0) (sym parts.1)

  abbrev made : (memory : Option Raw) (address last extra suffix tail : List ℕ) → tail ≡ address ++ (last ++ (extra ++ suffix)) →
      SpellsMemory at p m address memory → length last ≡ last_width → length extra ≡ extra_width → length suffix ≡ suffix_width v →
      SpellsPieces instance p m tail
  made memory address last extra suffix tail e h l x w = record {
    memory = memory;
    address = address;
    immediates = last ++ extra;
    suffix = suffix;
    spelled = e ∙ ap (λ q. address ++ q) (sym (append_assoc last extra suffix));
    address_spelled = h;
    immediates_length = let both = length-append last extra in omega (arith, both, l, x);
    suffix_length = w;
  }

  refuses : {tail : List ℕ} {fault : Fault} (pieces : SpellsPieces instance p m tail) → IsEnd v instance.opcode pieces.suffix fault →
      RefusesTail instance p m tail fault
  refuses pieces (inl is) = after_pieces is pieces
  refuses pieces (inr is) = no_name pieces is.0 is.1 is.2

  -- the operands of rm and reg
  abbrev IsLeading : List ℕ → Operands → Type 0
  IsLeading q x = (memory : Option Raw) × SpellsMemory at p m q memory × (x ≡ leading memory)

  abbrev IsOfRm : List ℕ → Operands → Type 0
  IsOfRm q x = (memory : Option Raw) × SpellsMemory at p m q memory
      × (x ≡ put_in at (known_operand instance.rm p m memory) (sized (order_of instance).count instance.size))

  ends_leading : EndsWell (Only IsLeading) (λ q. EndsBetween (memory_widths at m q) q) leading_step
  ends_leading =
      ends_map IsOfRm (λ q. EndsBetween (memory_widths at m q) q) IsLeading
      (rm_read at instance.rm p m (sized (order_of instance).count instance.size)) (put_in (order_of instance).reg (known_operand instance.reg p m None))
      (ends_map (SpellsMemory at p m) (λ q. EndsBetween (memory_widths at m q) q) IsOfRm (address_step at p m)
      (λ memory. put_in at (known_operand instance.rm p m memory) (sized (order_of instance).count instance.size))
      (ends_memory at p m) (λ q memory h. (memory, h, refl)))
      (λ q x h. (h.0, h.1, ap (put_in (order_of instance).reg (known_operand instance.reg p m None)) h.2))

  takes_leading : (q : List ℕ) (memory : Option Raw) → SpellsMemory at p m q memory → Takes leading_step q (Ok (leading memory))
  takes_leading q memory h =
      takes_map (rm_read at instance.rm p m (sized (order_of instance).count instance.size))
      (put_in (order_of instance).reg (known_operand instance.reg p m None)) q _
      (takes_map (address_step at p m) (λ memory. put_in at (known_operand instance.rm p m memory) (sized (order_of instance).count instance.size)) q memory
      (takes_memory at p m q memory h))

  module _ (memory : Option Raw) (address : List ℕ) (h : SpellsMemory at p m address memory) where
    past_address : (q : List ℕ) → EndsBetween widths q → Between (address ++ q)
    past_address q b = more_there (memory_widths at m (address ++ q)) widths address q (memory_long at p m address q memory h) b

    -- after the operands
    ends_ended : (last extra : List ℕ) (x : Operands) → x ≡ written memory last extra → length last ≡ last_width → length extra ≡ extra_width →
        EndsWell (λ l r. Yields (address ++ (last ++ (extra ++ l))) r) (λ l. Between (address ++ (last ++ (extra ++ l)))) (row_ended instance p x)
    ends_ended last extra x is l e =
        ends_bind (IsNamed v instance.opcode) IsEmpty (λ q r. Yields (address ++ (last ++ (extra ++ q))) r)
        (λ q. Between (address ++ (last ++ (extra ++ q)))) (read_opcode v instance.opcode)
        (λ opcode. pure (reading_with opcode (changed instance.change p) x)) (ends_opcode v instance.opcode)
        (λ q none. past_address (last ++ (extra ++ q)) (one_there last_width (extra_width ∷ suffix_width v ∷ []) last (extra ++ q) l
        (one_there extra_width (suffix_width v ∷ []) extra q e (none_there (suffix_width v ∷ []) q none))))
        (λ q error k. (k.1.0, k.1.1, refuses (made memory address last extra q (address ++ (last ++ (extra ++ q))) refl h l e k.0) k.1.2))
        (λ q opcode k.
        ends_pure (λ f r. Yields (address ++ (last ++ (extra ++ (q ++ f)))) r) (λ f. Between (address ++ (last ++ (extra ++ (q ++ f)))))
        (reading_with opcode (changed instance.change p) x)
        (record {
          pieces = made memory address last extra q (address ++ (last ++ (extra ++ (q ++ []))))
              (ap (λ f. address ++ (last ++ (extra ++ f))) (append-nil q)) h l e k.0;
          opcode = opcode;
          named = k.1;
          accepted = k.2;
          yields = ap (reading_with opcode (changed instance.change p)) (is ∙ in_two memory last extra l);
        }))

    -- after the memory operand
    ends_after : (x : Operands) → x ≡ leading memory →
        EndsWell (λ l r. Yields (address ++ l) r) (λ l. Between (address ++ l)) (after_leading x)
    ends_after x is =
        ends_then (IsPut p m (order_of instance).last instance.last x) IsEmpty (λ l r. Yields (address ++ l) r) (λ l. Between (address ++ l))
        (last_step x) after_last (reads_other p m (order_of instance).last instance.last x).0
        (λ q none. past_address q (none_there widths q none))
        (λ last y g. ends_then (IsPut p m (order_of instance).extra instance.extra y) IsEmpty (λ l r. Yields (address ++ (last ++ l)) r)
        (λ l. Between (address ++ (last ++ l))) (extra_step y) (row_ended instance p) (reads_other p m (order_of instance).extra instance.extra y).0
        (λ q none. past_address (last ++ q) (one_there last_width (extra_width ∷ suffix_width v ∷ []) last q g.1
        (none_there (extra_width ∷ suffix_width v ∷ []) q none)))
        (λ extra z k. ends_ended last extra z
        (k.0 ∙ ap (put_in (order_of instance).extra (operand_from instance.extra p m extra))
        (g.0 ∙ ap (put_in (order_of instance).last (operand_from instance.last p m last)) is)) g.1 k.1))

  pub ends_instance : EndsWell Yields Between (read_instance instance p m)
  unfolding read_instance
  ends_instance =
      ends_then IsLeading (λ q. EndsBetween (memory_widths at m q) q) Yields Between leading_step after_leading ends_leading
      (λ q k. more_missing (memory_widths at m q) widths q k) (λ q x h. ends_after h.0 q h.1 x h.2)

  -- ---- the pieces are taken

  takes_pieces : (tail : List ℕ) (r : Result Reading DecodeError) (s : SpellsPieces instance p m tail) →
      Takes (row_ended instance p (operands_from instance p m s.memory s.immediates)) s.suffix r → Takes (read_instance instance p m) tail r
  unfolding read_instance
  takes_pieces tail r s t =
      let last : List ℕ = take last_width s.immediates in
      let extra : List ℕ = drop last_width s.immediates in
      let last_long : length last ≡ last_width = length-take last_width s.immediates ∙ omega (arith, s.immediates_length) in
      let extra_long : length extra ≡ extra_width = length-drop last_width s.immediates ∙ omega (arith, s.immediates_length) in
      subst (λ l. Takes (read_instance instance p m) l r)
      (ap (λ l. s.address ++ l) (sym (append_assoc last extra s.suffix) ∙ ap (λ l. l ++ s.suffix) (take-append-drop last_width s.immediates)) ∙ sym s.spelled)
      (takes_bind leading_step after_leading s.address (last ++ (extra ++ s.suffix)) (leading s.memory) r
      (takes_leading s.address s.memory s.address_spelled)
      (takes_bind (last_step (leading s.memory)) after_last last (extra ++ s.suffix) _ r
      ((reads_other p m (order_of instance).last instance.last (leading s.memory)).1 last last_long)
      (takes_bind (extra_step _) (row_ended instance p) extra s.suffix _ r
      ((reads_other p m (order_of instance).extra instance.extra _).1 extra extra_long) t)))

  pub takes_tail : (tail : List ℕ) (reading : Reading) → SpellsTail instance p m tail reading → Takes (read_instance instance p m) tail (Ok reading)
  takes_tail tail reading s =
      let make : ℕ → Reading = λ opcode. reading_from instance p m opcode s.pieces.memory s.pieces.immediates in
      subst (λ x. Takes (read_instance instance p m) tail (Ok x)) (sym s.yields)
      (takes_pieces tail (Ok (make s.opcode)) s.pieces (takes_map (read_opcode v instance.opcode) make s.pieces.suffix s.opcode
      (takes_opcode v instance.opcode s.opcode s.pieces.suffix s.pieces.suffix_length s.named s.accepted)))

  takes_refusal : (fault : Fault) (tail : List ℕ) (s : SpellsPieces instance p m tail) → IsEnd v instance.opcode s.suffix fault →
      Takes (read_instance instance p m) tail (Err (error_of fault))
  takes_refusal fault tail s is =
      takes_pieces tail (Err (error_of fault)) s
      (takes_err (read_opcode v instance.opcode) (λ opcode. pure (reading_from instance p m opcode s.memory s.immediates)) s.suffix (error_of fault)
      (takes_end v instance.opcode s.suffix fault s.suffix_length is))

  pub takes_tail_refused : (tail : List ℕ) (fault : Fault) → RefusesTail instance p m tail fault →
      Takes (read_instance instance p m) tail (Err (error_of fault))
  takes_tail_refused tail fault (after_pieces is s) = takes_refusal fault tail s (inl is)
  takes_tail_refused tail fault (no_name s is none same) = takes_refusal fault tail s (inr (is, none, same))

  -- ---- bytes that end between the pieces

  module _ (x : Operands) where
    abbrev make : ℕ → Reading
    make opcode = reading_with opcode (changed instance.change p) x

    ends_named : EndsWell (λ q r. Unit {0}) (λ q. Unit {0}) (row_ended instance p x)
    ends_named = ends_bind (IsNamed v instance.opcode) IsEmpty (λ q r. Unit {0}) (λ q. Unit {0}) (read_opcode v instance.opcode)
        (λ opcode. pure (make opcode)) (ends_opcode v instance.opcode) (λ q h. tt) (λ q e h. tt)
        (λ q opcode h. ends_pure (λ q r. Unit {0}) (λ q. Unit {0}) (make opcode) tt)

    resolved : (q : List ℕ) → (r : Result ℕ DecodeError) × Takes (read_opcode v instance.opcode) q r × IsFinal r → Halts (row_ended instance p x) q
    resolved q (Ok o, t, d) = over q [] (Ok (make o)) (sym (append-nil q)) (takes_map (read_opcode v instance.opcode) make q o t) (final_ok (make o))
    resolved q (Err e, t, d) =
        over q [] (Err e) (sym (append-nil q)) (takes_err (read_opcode v instance.opcode) (λ opcode. pure (make opcode)) q e t) (final_other e d)

    halts_ended : (q : List ℕ) → EndsBetween (suffix_width v ∷ []) q → Halts (row_ended instance p x) q
    halts_ended q k = by (first_piece (suffix_width v) [] q k)
      where
        by : FirstPiece (suffix_width v) [] q → Halts (row_ended instance p x) q
        by (nothing none) = subst (Halts (row_ended instance p x)) (sym none) (halts_empty (row_ended instance p x) ends_named)
        by (piece l rest h long k) =
            let whole : q ≡ l = h ∙ ap (λ x. l ++ x) (between_nil rest k) ∙ append-nil l in
            resolved q (answered v instance.opcode q (ap length whole ∙ long))

  halts_after : (x : Operands) (q : List ℕ) → EndsBetween widths q → Halts (after_leading x) q
  halts_after x q k =
      let one = reads_other p m (order_of instance).last instance.last x in
      halts_piece (last_step x) after_last last_width (extra_width ∷ suffix_width v ∷ []) q
      (λ l. put_in (order_of instance).last (operand_from instance.last p m l) x) one.0 one.1
      (λ y rest b. let two = reads_other p m (order_of instance).extra instance.extra y in
      halts_piece (extra_step y) (row_ended instance p) extra_width (suffix_width v ∷ []) rest
      (λ l. put_in (order_of instance).extra (operand_from instance.extra p m l) y) two.0 two.1 (λ z l c. halts_ended z l c) b) k

  abbrev after_memory : Option Raw → Step Reading
  after_memory memory = after_leading (leading memory)

  halts_memory : (test : Bool) (q : List ℕ) → EndsBetween ((if test then raw_widths m q else []) ++ widths) q →
      Halts (memory_if p m test >>= after_memory) q
  halts_memory true q k = halts_same (read_raw p m >>= λ raw. after_memory (Some raw))
      ((read_raw p m >>= λ raw. pure (Some raw)) >>= after_memory) q (λ s. bind_assoc (read_raw p m) (λ raw. pure (Some raw)) after_memory s)
      (halts_raw p m (λ raw. after_memory (Some raw)) widths q (λ raw rest b. halts_after (leading (Some raw)) rest b) k)
  halts_memory false q k = halts_bind (pure None) after_memory [] q None (takes_pure (Ok None)) (halts_after (leading None) q k)

  pub halts_instance : (q : List ℕ) → Between q → Halts (read_instance instance p m) q
  unfolding read_instance
  halts_instance q k =
      let of_rm : Operands → Operands = put_in (order_of instance).reg (known_operand instance.reg p m None) in
      halts_same (address_step at p m >>= after_memory) (leading_step >>= after_leading) q
      (λ s. bind_assoc (rm_read at instance.rm p m (sized (order_of instance).count instance.size)) (λ x. pure (of_rm x)) after_leading s
      ∙ bind_assoc (address_step at p m) (λ memory. pure (put_in at (known_operand instance.rm p m memory) (sized (order_of instance).count instance.size)))
      (λ x. after_leading (of_rm x)) s)
      (halts_memory (has_address at m) q k)
