-- What a row has after its opcode byte, over any record: where it ends, what it takes with each answer, and which answers come.
use Rattle.std.proofs.Common.{◌≡◌, ℕ, List, [], ◌∷◌, ◌++◌, length, Option, Some, None, Result, Ok, Err, refl, sym, ap, subst, arith, ◌≢◌, ◌⊎◌, inl, inr}
use Rattle.std.proofs.Common.{◌∙◌}
use Rattle.x86_operands.specs.Vocabulary.{DecodeError, Prefixes, Fault, ModrmUse, Absent, EitherForm, Registers, Reading, absent_modrm, as_register}
use Rattle.x86_operands.specs.Vocabulary.{BadOpcode, Incomplete, Refuses}
use Rattle.x86_fields.specs.Steps.{Step, ◌>>=◌, next_byte, outcome}
use Rattle.x86_fields.specs.Pieces.{EndsBetween}
use Rattle.x86_fields.proofs.StepLemmas.{Takes, takes_pure, takes_bind, takes_err, takes_byte}
use Rattle.x86_fields.proofs.EndLemmas.{EndsWell, IsEmpty, Only, IsByte, ends_byte, ends_pure, ends_refuse, ends_bind, ends_then, ends_map, weaken, Halts}
use Rattle.x86_fields.proofs.EndLemmas.{halts_bind, halts_empty, halts_refused, Ends, settles, runs_out, longest}
use Rattle.x86_fields.proofs.PieceLemmas.{takes_map}
use Rattle.x86_operands.specs.Records.{RowRecord}
use Rattle.x86_operands.specs.RowSteps.{read_modrm, refuse_fault, read_instance, record_step, error_of}
use Rattle.x86_operands.specs.Pieces.{SpellsTail, RefusesTail, tail_widths, modrm_width, SpellsRow, RefusesRow, at_opcode, past_opcode, BetweenRow, before}
use Rattle.x86_operands.specs.Pieces.{with_modrm, after_pieces, no_name, IsReadRow, IsRefusedRow, IsOpenRow}
use Rattle.x86_operands.specs.Asks.{modrm_of}
use Rattle.x86_operands.proofs.InstanceLemmas.{Faults, Never, fault_error, InstanceYields, ends_instance, takes_tail, takes_tail_refused, halts_instance}
use Rattle.std.proofs.lemmas.List.{append-nil}
use Rattle.x86_arch.specs.Reader.{State, advanced}
use Rattle.x86_fields.specs.declared.errors.DecodeError.TheVariants.{ExhaustedInput, InvalidPrefixes, TooLong, IncompleteDecoder}

abbrev pub RowYields : RowRecord → Prefixes → List ℕ → Result Reading DecodeError → Type 0
RowYields r p q (Ok reading) = SpellsRow r p q reading
RowYields r p q (Err e) = Faults (RefusesRow r p q) e

-- ---- a refusal at the opcode

abbrev IsFault : Option Fault → List ℕ → Result (Unit {0}) DecodeError → Type 0
IsFault o q (Ok x) = (q ≡ []) × (o ≡ None)
IsFault o q (Err e) = (q ≡ []) × Faults (λ fault. o ≡ Some fault) e

ends_fault : (o : Option Fault) → EndsWell (IsFault o) Never (refuse_fault o)
ends_fault None = ends_pure (IsFault None) Never tt (refl, refl)
ends_fault (Some f) = ends_refuse (IsFault (Some f)) Never (error_of f) (fault_error f) (refl, (f, refl, refl))

-- ---- ModRM

abbrev IsModrm : ModrmUse → List ℕ → ℕ → Type 0
IsModrm u q m = (length q ≡ modrm_width u) × (m ≡ modrm_of u q)

ends_modrm : (u : ModrmUse) → EndsWell (Only (IsModrm u)) IsEmpty (read_modrm u)
ends_modrm Absent = ends_pure (Only (IsModrm Absent)) IsEmpty absent_modrm (refl, refl)
ends_modrm EitherForm = λ s. weaken s each (λ q e. e) (ends_byte s)
  where
    each : (q : List ℕ) (r : Result ℕ DecodeError) → Only IsByte q r → Only (IsModrm EitherForm) q r
    each q (Ok b) h = (ap length h, sym (ap (modrm_of EitherForm) h))
    each q (Err e) h = h
ends_modrm Registers = ends_map IsByte IsEmpty (IsModrm Registers) next_byte as_register ends_byte (λ q b h. (ap length h, sym (ap (modrm_of Registers) h)))

pub takes_modrm : (u : ModrmUse) (q : List ℕ) → length q ≡ modrm_width u → Takes (read_modrm u) q (Ok (modrm_of u q))
takes_modrm Absent [] e = takes_pure (Ok absent_modrm)
takes_modrm EitherForm (m ∷ []) e = takes_byte m
takes_modrm Registers (m ∷ []) e = takes_map next_byte as_register (m ∷ []) m (takes_byte m)
takes_modrm u q e = absurd (omega arith)

-- ---- the whole row

module _ (r : RowRecord) (p : Prefixes) where
  abbrev u : ModrmUse
  u = r.modrm

  abbrev after_modrm : ℕ → Step Reading
  after_modrm m = read_instance (r.instance m) p m

  abbrev after_fault : Step Reading
  after_fault = read_modrm u >>= after_modrm

  abbrev Yields : List ℕ → Result Reading DecodeError → Type 0
  Yields q a = RowYields r p q a

  abbrev Between : List ℕ → Type 0
  Between q = BetweenRow r p q

  row_yields : (modrm q : List ℕ) (m : ℕ) (a : Result Reading DecodeError) → r.at_opcode ≡ None → IsModrm u modrm m →
      InstanceYields (r.instance m) p m q a → Yields (modrm ++ q) a
  row_yields modrm q m (Ok reading) passed h g = record {
    modrm = modrm;
    tail = q;
    passed = passed;
    spelled = refl;
    modrm_length = h.0;
    tail_spelled = subst (λ k. SpellsTail (r.instance k) p k q reading) h.1 g;
  }
  row_yields modrm q m (Err e) passed h g = (g.0, g.1, past_opcode modrm q passed refl h.0 (subst (λ k. RefusesTail (r.instance k) p k q g.0) h.1 g.2))

  ends_after_fault : r.at_opcode ≡ None → EndsWell Yields Between after_fault
  ends_after_fault passed = ends_then (IsModrm u) IsEmpty Yields Between (read_modrm u) after_modrm (ends_modrm u)
      (λ q e. before e)
      (λ modrm m h s. weaken s (λ q a g. row_yields modrm q m a passed h g)
      (λ q k. with_modrm modrm q refl h.0 (subst (λ x. EndsBetween (tail_widths (r.instance x) x q) q) h.1 k)) (ends_instance (r.instance m) p m s))

  -- what a row takes has the pieces of the row, or ends between them
  pub ends_row : EndsWell Yields Between (record_step r p)
  unfolding record_step
  ends_row = ends_bind (IsFault r.at_opcode) Never Yields Between (refuse_fault r.at_opcode) (λ _. after_fault) (ends_fault r.at_opcode)
      (λ q e. absurd e)
      (λ q e h. (h.1.0, h.1.1, at_opcode h.1.2 h.0))
      (λ q x h s.
      let skip : (l : List ℕ) → l ≡ q ++ l = λ l. ap (λ k. k ++ l) (sym h.0) in
      weaken s (λ l a g. subst (λ k. Yields k a) (skip l) g) (λ l k. subst Between (skip l) k) (ends_after_fault h.1 s))

  takes_row_by : (modrm q : List ℕ) (a : Result Reading DecodeError) → r.at_opcode ≡ None → length modrm ≡ modrm_width u →
      Takes (after_modrm (modrm_of u modrm)) q a → Takes (record_step r p) (modrm ++ q) a
  unfolding record_step
  takes_row_by modrm q a passed e t = takes_bind (refuse_fault r.at_opcode) (λ _. after_fault) [] (modrm ++ q) tt a (rw passed (takes_pure (Ok tt)))
      (takes_bind (read_modrm u) after_modrm modrm q (modrm_of u modrm) a (takes_modrm u modrm e) t)

  -- the pieces of a row are taken
  pub takes_row : (q : List ℕ) (reading : Reading) → SpellsRow r p q reading → Takes (record_step r p) q (Ok reading)
  takes_row q reading s = subst (λ l. Takes (record_step r p) l (Ok reading)) (sym s.spelled)
      (takes_row_by s.modrm s.tail (Ok reading) s.passed s.modrm_length
      (takes_tail (r.instance (modrm_of u s.modrm)) p (modrm_of u s.modrm) s.tail reading s.tail_spelled))

  pub takes_row_refused : (q : List ℕ) (fault : Fault) → RefusesRow r p q fault → Takes (record_step r p) q (Err (error_of fault))
  unfolding record_step
  takes_row_refused q fault (at_opcode is none) = subst (λ l. Takes (record_step r p) l (Err (error_of fault))) (sym none)
      (takes_err (refuse_fault r.at_opcode) (λ _. after_fault) [] (error_of fault) (rw is (takes_pure (Err (error_of fault)))))
  takes_row_refused q fault (past_opcode modrm tail passed h long s) = subst (λ l. Takes (record_step r p) l (Err (error_of fault))) (sym h)
      (takes_row_by modrm tail (Err (error_of fault)) passed long (takes_tail_refused (r.instance (modrm_of u modrm)) p (modrm_of u modrm) tail fault s))

  halts_by : (q : List ℕ) → Halts after_fault q → (o : Option Fault) → r.at_opcode ≡ o → Halts (record_step r p) q
  unfolding record_step
  halts_by q t None passed = halts_bind (refuse_fault r.at_opcode) (λ _. after_fault) [] q tt (rw passed (takes_pure (Ok tt))) t
  halts_by q t (Some f) e = halts_refused (refuse_fault r.at_opcode) (λ _. after_fault) q (error_of f) (fault_error f) (rw e (takes_pure (Err (error_of f))))

  -- the row halts on bytes that end between its pieces
  pub halts_row : (q : List ℕ) → Between q → Halts (record_step r p) q
  halts_row q (before e) = subst (Halts (record_step r p)) (sym e) (halts_empty (record_step r p) ends_row)
  halts_row q (with_modrm modrm tail h long k) =
      let m : ℕ = modrm_of u modrm in
      let tail_halts : Halts after_fault (modrm ++ tail) =
      halts_bind (read_modrm u) after_modrm modrm tail m (takes_modrm u modrm long) (halts_instance (r.instance m) p m tail k) in
      subst (Halts (record_step r p)) (sym h) (halts_by (modrm ++ tail) tail_halts r.at_opcode refl)

-- ---- what was taken with each answer

-- none of the faults is one of these errors
no_fault : (f : Fault) → (error_of f ≢ InvalidPrefixes) × (error_of f ≢ TooLong)
no_fault f = (λ e. grind arith, λ e. grind arith)

one_gap : (f : Fault) → error_of f ≡ IncompleteDecoder → f ≡ Incomplete
one_gap f e = grind arith

module _ (r : RowRecord) (p : Prefixes) where
  -- a record or one of its instances refuses as left out
  abbrev pub HasGap : Type 0
  HasGap = (r.at_opcode ≡ Some Incomplete) ⊎ ((m : ℕ) × ((r.instance m).verdict ≡ Refuses Incomplete))

  module _ (s : State ℕ) where
    -- what was resolved on the first bytes, if the answer is this
    abbrev Settled : Result Reading DecodeError → Type 0
    Settled a = (bytes rest : List ℕ) × (s.left ≡ bytes ++ rest) × RowYields r p bytes a × ((record_step r p s).after ≡ advanced (length bytes) s)

    settled_by : (a : Result Reading DecodeError) → (record_step r p s).answer ≡ a → a ≢ Err ExhaustedInput →
        Ends (RowYields r p) (BetweenRow r p) (record_step r p) s → Settled a
    settled_by a h final (settles bytes rest b beginning takes _ yields) =
        let took : record_step r p s ≡ outcome b (advanced (length bytes) s) = takes.takes rest s beginning in
        (bytes, rest, beginning, subst (RowYields r p bytes) (sym (ap (λ o. o.answer) took) ∙ h) yields, ap (λ o. o.after) took)
    settled_by a h final (runs_out bytes rest beginning between runs_out_there) =
        absurd (final (sym h ∙ ap (λ o. o.answer) (runs_out_there rest [] (sym (append-nil rest)) s beginning)))

    pub row_read : (reading : Reading) → (record_step r p s).answer ≡ Ok reading → IsReadRow r p reading s (record_step r p s).after
    row_read reading h =
        let took = settled_by (Ok reading) h (λ e. cc) (ends_row r p s) in
        record { bytes = took.0; rest = took.1; beginning = took.2; spelled = took.3; taken = took.4 }

    pub row_refused : (e : DecodeError) → (record_step r p s).answer ≡ Err e → e ≢ ExhaustedInput → IsRefusedRow r p e s (record_step r p s).after
    row_refused e h other =
        let took = settled_by (Err e) h (λ x. other cc) (ends_row r p s) in
        let fault = took.3 in
        record { fault = fault.0; named = fault.1; bytes = took.0; rest = took.1; beginning = took.2; refuses = fault.2; taken = took.4 }

    open_by : (record_step r p s).answer ≡ Err ExhaustedInput → Ends (RowYields r p) (BetweenRow r p) (record_step r p) s →
        IsOpenRow r p s (record_step r p s).after
    open_by h (settles bytes rest b beginning takes final yields) =
        absurd (final (sym (ap (λ o. o.answer) (takes.takes rest s beginning)) ∙ h))
    open_by h (runs_out bytes rest beginning between runs_out_there) = record {
      bytes = bytes;
      rest = rest;
      beginning = beginning;
      between = between;
      longest = λ q more k is. longest (record_step r p) bytes rest q more runs_out_there (sym beginning ∙ k) (halts_row r p q is);
      taken = ap (λ o. o.after) (runs_out_there rest [] (sym (append-nil rest)) s beginning);
    }

    pub row_open : (record_step r p s).answer ≡ Err ExhaustedInput → IsOpenRow r p s (record_step r p s).after
    row_open h = open_by h (ends_row r p s)

    pub row_wherever : (bytes rest : List ℕ) (reading : Reading) → s.left ≡ bytes ++ rest → SpellsRow r p bytes reading →
        record_step r p s ≡ outcome (Ok reading) (advanced (length bytes) s)
    row_wherever bytes rest reading beginning spelled = (takes_row r p bytes reading spelled).takes rest s beginning

    pub row_refuses : (bytes rest : List ℕ) (fault : Fault) → s.left ≡ bytes ++ rest → RefusesRow r p bytes fault →
        record_step r p s ≡ outcome (Err (error_of fault)) (advanced (length bytes) s)
    row_refuses bytes rest fault beginning refuses = (takes_row_refused r p bytes fault refuses).takes rest s beginning

    -- ---- which errors come

    pub row_has_no_prefixes : (record_step r p s).answer ≢ Err InvalidPrefixes
    row_has_no_prefixes h = let is = row_refused InvalidPrefixes h (λ e. cc) in (no_fault is.fault).0 (sym is.named)

    pub row_has_no_length : (record_step r p s).answer ≢ Err TooLong
    row_has_no_length h = let is = row_refused TooLong h (λ e. cc) in (no_fault is.fault).1 (sym is.named)

    gap_of_tail : (m : ℕ) (tail : List ℕ) (f : Fault) → f ≡ Incomplete → RefusesTail (r.instance m) p m tail f → HasGap
    gap_of_tail m tail f is (after_pieces e _) = inr (m, e ∙ ap (λ x. Refuses x) is)
    gap_of_tail m tail f is (no_name _ _ _ e) = let named : BadOpcode ≡ Incomplete = sym e ∙ is in absurd cc

    gap_of_row : (bytes : List ℕ) (f : Fault) → f ≡ Incomplete → RefusesRow r p bytes f → HasGap
    gap_of_row bytes f is (at_opcode e _) = inl (e ∙ ap (λ x. Some x) is)
    gap_of_row bytes f is (past_opcode modrm tail _ _ _ t) = gap_of_tail (modrm_of r.modrm modrm) tail f is t

    pub row_left_out : (record_step r p s).answer ≡ Err IncompleteDecoder → HasGap
    row_left_out h = let is = row_refused IncompleteDecoder h (λ e. cc) in gap_of_row is.bytes is.fault (one_gap is.fault (sym is.named)) is.refuses
