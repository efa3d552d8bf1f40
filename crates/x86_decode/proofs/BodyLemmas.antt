-- What the body takes is in the grammar, and what the grammar has is taken.
use Rattle.std.proofs.Common.{◌≡◌, ◌≢◌, ℕ, ◌≤◌, Bool, true, false, if◌then◌else◌, List, [], ◌∷◌, ◌++◌, length, Option, Some, None, Result}
use Rattle.std.proofs.Common.{Ok, Err, refl, sym, ap, subst, ◌∙◌, arith, length-append, append_assoc}
use Rattle.std.proofs.lemmas.List.{append-nil}
use Rattle.x86_arch.specs.Reader.{State, advanced}
use Rattle.x86_fields.specs.declared.errors.DecodeError.{DecodeError}
use Rattle.x86_fields.specs.declared.errors.DecodeError.TheVariants.{ExhaustedInput, InvalidOpcode, InvalidPrefixes}
use Rattle.x86_fields.specs.declared.prefixes.Prefixes.{Prefixes}
use Rattle.x86_fields.specs.Run.{is_prefix, reading_of}
use Rattle.x86_fields.specs.Steps.{Step, Outcome, ◌>>=◌}
use Rattle.x86_fields.proofs.StepLemmas.{Takes, takes_pure, takes_bind, takes_err}
use Rattle.x86_fields.proofs.EndLemmas.{EndsWell, Ends, settles, runs_out, ends_refuse, ends_bind, ends_then, weaken, IsFinal, final_ok}
use Rattle.x86_fields.proofs.EndLemmas.{final_err, Out, out_bind, out_after, Halts, out, halts_bind}
use Rattle.x86_forms.specs.declared.TableRow.{TableRow}
use Rattle.x86_operands.specs.declared.vocabulary.Fault.{Fault}
use Rattle.x86_operands.specs.declared.reader.Reading.{Reading}
use Rattle.x86_operands.specs.RowSteps.{error_of}
use Rattle.x86_forms.specs.declared.Map.{Map}
use Rattle.x86_forms.specs.declared.Map.TheVariants.{One}
use Rattle.x86_decode.specs.declared.instructions.Instruction.{Instruction}
use Rattle.x86_decode.specs.Head.{Rows, is_run, column_of, escape_bytes, is_opcode, vex_refusal, seen_by}
use Rattle.x86_decode.specs.Walk.{head_step, opcode_step, some_row, row_step, walk_within}
use Rattle.x86_groups.specs.Groups.{record_of}
use Rattle.x86_decode.specs.Grammar.{IsRefusedByRecord, allows_lock, Whole, IsSentence, DecidesByBytes, case_1, case_2, case_3, case_4}
use Rattle.x86_decode.specs.Grammar.{EndsBetweenPieces, in_head, in_tail}
use Rattle.x86_operands.proofs.RecordLemmas.{RowYields, ends_row, takes_row, takes_row_refused, halts_row}
use Rattle.x86_operands.proofs.InstanceLemmas.{fault_error}
use Rattle.x86_decode.proofs.HeadLemmas.{IsHead, IsRun, ends_head, takes_head, out_head, OpcodeYields, OpcodeBetween, ends_opcode}
use Rattle.x86_decode.proofs.HeadLemmas.{entry_byte, entry_rest, entry_is, entry_plain, takes_opcode, takes_vex, vex_plain, vex_final}
use Rattle.x86_decode.proofs.HeadLemmas.{escape_beginning, EscapeBeginning, none, escape}

pub ok_apart : {X : Type 0} (x : X) (e : DecodeError) → ◌≡◌ {A = Result X DecodeError} (Ok x) (Err e) → ⊥
ok_apart x e h = cc

pub same_error : {X : Type 0} (e f : DecodeError) → ◌≡◌ {A = Result X DecodeError} (Err e) (Err f) → e ≡ f
same_error e f h = cc

-- the answer of a reading where LOCK is checked
abbrev pub verdict : Result Reading DecodeError → Result Reading DecodeError
verdict (Ok reading) = if allows_lock reading then Ok reading else Err InvalidPrefixes
verdict (Err e) = Err e

pub beginning_le : (q rest l : List ℕ) → l ≡ q ++ rest → length q ≤ length l
beginning_le q rest l e = omega (arith, length-append {A = ℕ}, ap length e)

module _ (rows : Rows) (strict : Bool) where
  abbrev pub BodyYields : List ℕ → Result Reading DecodeError → Type 0
  BodyYields q (Ok reading) = Whole rows strict q reading
  BodyYields q (Err e) = DecidesByBytes rows strict q e

  abbrev pub BodyBetween : List ℕ → Type 0
  BodyBetween q = EndsBetweenPieces rows strict q

  abbrev with_row : Option TableRow → Prefixes → Step Reading
  with_row o p = some_row o >>= λ row. row_step strict row p

  abbrev after_opcode : Prefixes → Map × ℕ → Step Reading
  after_opcode p o = with_row (rows o.0 (column_of p) o.1) (seen_by o.0 o.1 p)

  abbrev after_head : Prefixes × ℕ → Step Reading
  after_head h = opcode_step h.0 h.1 >>= λ o. after_opcode h.0 o

  -- ---- soundness

  module _ (run : List ℕ) (is : is_run run ≡ true) (q l : List ℕ) (map : Map) (b : ℕ)
      (spelled : q ++ l ≡ run ++ (escape_bytes map ++ b ∷ [])) (in_map : is_opcode map b ≡ true) where
    abbrev p : Prefixes
    p = reading_of run

    abbrev v : Prefixes
    v = seen_by map b p

    following : (tail : List ℕ) → q ++ (l ++ tail) ≡ run ++ (escape_bytes map ++ b ∷ tail)
    following tail = sym (append_assoc q l tail) ∙ ap (λ k. k ++ tail) spelled ∙ simp append_assoc

    row_yields : (row : TableRow) → rows map (column_of p) b ≡ Some row → (tail : List ℕ) (r : Result Reading DecodeError) →
        RowYields (record_of strict row v) v tail r → BodyYields (q ++ (l ++ tail)) r
    row_yields row has tail (Ok reading) g = record {
      run = run;
      map = map;
      opcode = b;
      row = row;
      tail = tail;
      spelled = following tail;
      prefixes = is;
      in_map = in_map;
      has_row = has;
      row_spelled = g;
    }
    row_yields row has tail (Err e) g = subst (DecidesByBytes rows strict (q ++ (l ++ tail))) (sym g.1)
        (case_3 g.0 (record {
          run = run;
          map = map;
          opcode = b;
          row = row;
          tail = tail;
          spelled = following tail;
          prefixes = is;
          in_map = in_map;
          has_row = has;
          refuses = g.2;
        }))

    ends_by_row : (o : Option TableRow) → rows map (column_of p) b ≡ o →
        EndsWell (λ k r. BodyYields (q ++ (l ++ k)) r) (λ k. BodyBetween (q ++ (l ++ k))) (with_row o v)
    ends_by_row None e s = ends_refuse (λ k r. BodyYields (q ++ (l ++ k)) r) (λ k. BodyBetween (q ++ (l ++ k))) InvalidOpcode (λ no. cc)
        (case_2 (record { run = run; map = map; opcode = b; spelled = following []; prefixes = is; in_map = in_map; no_row = e })) s
    ends_by_row (Some row) e s = weaken s (λ tail r g. row_yields row e tail r g)
        (λ tail k. in_tail run map b row tail (following tail) is in_map e k) (ends_row (record_of strict row v) v s)

  after_run : (q run : List ℕ) (c : ℕ) → q ≡ run ++ c ∷ [] → is_run run ≡ true → is_prefix c ≡ false →
      EndsWell (λ l r. BodyYields (q ++ l) r) (λ l. BodyBetween (q ++ l)) (after_head (reading_of run, c))
  after_run q run c spelled is plain =
      let joined : (l : List ℕ) → q ++ l ≡ run ++ c ∷ l = λ l. ap (λ k. k ++ l) spelled ∙ append_assoc run (c ∷ []) l in
      ends_bind (OpcodeYields (reading_of run) c) (OpcodeBetween c) (λ l r. BodyYields (q ++ l) r) (λ l. BodyBetween (q ++ l))
      (opcode_step (reading_of run) c) (after_opcode (reading_of run)) (ends_opcode (reading_of run) c plain)
      (λ l k. in_head run k.0 (c ∷ l) k.1 (joined l) is k.2)
      (λ l e g. subst (DecidesByBytes rows strict (q ++ l)) (sym g.2)
      (case_1 (record { run = run; byte = c; spelled = joined l ∙ ap (λ k. run ++ c ∷ k) g.0; prefixes = is; vex = g.1 })))
      (λ l o g. ends_by_row run is q l o.0 o.1 (joined l ∙ ap (λ k. run ++ k) g.0) g.1 (rows o.0 (column_of (reading_of run)) o.1) refl)

  pub ends_body : EndsWell BodyYields BodyBetween (walk_within rows strict)
  unfolding walk_within
  ends_body = ends_then IsHead IsRun BodyYields BodyBetween head_step after_head ends_head
      (λ q is. in_head q One [] [] (sym (append-nil q)) is refl) (λ q h k. rw k.reading (after_run q k.run h.1 k.spelled k.prefixes k.plain))

  -- ---- completeness

  takes_at : (run : List ℕ) (map : Map) (b : ℕ) (tail : List ℕ) (r : Result Reading DecodeError) → is_run run ≡ true →
      is_opcode map b ≡ true → Takes (after_opcode (reading_of run) (map, b)) tail r → Takes (walk_within rows strict) (run ++ (escape_bytes map ++ b ∷ tail)) r
  unfolding walk_within
  takes_at run map b tail r is in_map t =
      subst (λ l. Takes (head_step >>= after_head) l r)
      (append_assoc run (entry_byte map b ∷ []) (entry_rest map b ++ tail) ∙ ap (λ l. run ++ l) (sym (entry_is map b tail)))
      (takes_bind head_step after_head (run ++ entry_byte map b ∷ []) (entry_rest map b ++ tail) (reading_of run, entry_byte map b) r
      (takes_head run (entry_byte map b) is (entry_plain map b in_map))
      (takes_bind (opcode_step (reading_of run) (entry_byte map b)) (after_opcode (reading_of run)) (entry_rest map b) tail (map, b) r
      (takes_opcode (reading_of run) map b in_map) t))

  pub takes_whole : (s : List ℕ) (reading : Reading) → Whole rows strict s reading → Takes (walk_within rows strict) s (Ok reading)
  takes_whole s reading w =
      let p : Prefixes = seen_by w.map w.opcode (reading_of w.run) in
      rw w.spelled (takes_at w.run w.map w.opcode w.tail (Ok reading) w.prefixes w.in_map
      (rw w.has_row (takes_row (record_of strict w.row p) p w.tail reading w.row_spelled)))

  pub takes_refused : (q : List ℕ) (fault : Fault) → IsRefusedByRecord rows strict q fault → Takes (walk_within rows strict) q (Err (error_of fault))
  takes_refused q fault c =
      let p : Prefixes = seen_by c.map c.opcode (reading_of c.run) in
      rw c.spelled (takes_at c.run c.map c.opcode c.tail (Err (error_of fault)) c.prefixes c.in_map
      (rw c.has_row (takes_row_refused (record_of strict c.row p) p c.tail fault c.refuses)))

  -- The body takes the bytes, with a final answer.
  pub record Settled (q : List ℕ) (r : Result Reading DecodeError) : Type 0 where
    pub takes : Takes (walk_within rows strict) q r
    pub final : IsFinal r

  early_by : {q : List ℕ} {e : DecodeError} → Takes (walk_within rows strict) q (Err e) → e ≢ ExhaustedInput →
      (r : Result Reading DecodeError) × Settled q r × (verdict r ≡ Err e)
  early_by {q} {e} t d = (Err e, record { takes = t; final = final_err e d }, refl)

  pub early : (q : List ℕ) (e : DecodeError) → DecidesByBytes rows strict q e → (r : Result Reading DecodeError) × Settled q r × (verdict r ≡ Err e)
  unfolding walk_within
  early q e (case_1 c) = early_by (rw (c.spelled, sym (append-nil (c.run ++ c.byte ∷ [])))
      (takes_bind head_step after_head (c.run ++ c.byte ∷ []) [] (reading_of c.run, c.byte) (Err (vex_refusal (reading_of c.run)))
      (takes_head c.run c.byte c.prefixes (vex_plain c.byte c.vex))
      (takes_err (opcode_step (reading_of c.run) c.byte) (after_opcode (reading_of c.run)) [] (vex_refusal (reading_of c.run))
      (takes_vex (reading_of c.run) c.byte c.vex)))) (vex_final (reading_of c.run))
  early q e (case_2 c) = early_by (rw c.spelled (takes_at c.run c.map c.opcode [] (Err InvalidOpcode) c.prefixes c.in_map
      (rw c.no_row (takes_pure (Err InvalidOpcode))))) (λ no. cc)
  early q e (case_3 fault c) = early_by (takes_refused q fault c) (fault_error fault)
  early q e (case_4 c) = (
    Ok c.reading,
    record { takes = takes_whole q c.reading c.whole; final = final_ok c.reading },
    ap (λ t. if t then Ok c.reading else Err InvalidPrefixes) c.locked,
  )

  pub sentence_settles : (q : List ℕ) (a : Instruction) → (is : IsSentence rows strict q a) → Settled q (Ok is.reading)
  sentence_settles q a is = record { takes = takes_whole q is.reading is.whole; final = final_ok is.reading }

  -- ---- bytes that end between pieces

  halts_beginning : (run beginning : List ℕ) → is_run run ≡ true → EscapeBeginning beginning → Halts (walk_within rows strict) (run ++ beginning)
  unfolding walk_within
  halts_beginning run beginning is (none e) = rw (e, append-nil run) (out (out_bind head_step after_head run (out_head run is)))
  halts_beginning run beginning is (escape q e u) = rw e (subst (Halts (head_step >>= after_head)) (append_assoc run (0x0f ∷ []) q)
      (out (out_after head_step after_head (run ++ 0x0f ∷ []) q (reading_of run, 0x0f) (takes_head run 0x0f is refl)
      (out_bind (opcode_step (reading_of run) 0x0f) (after_opcode (reading_of run)) q (u (reading_of run))))))

  halts_at : (run : List ℕ) (map : Map) (b : ℕ) (tail : List ℕ) → is_run run ≡ true → is_opcode map b ≡ true →
      Halts (after_opcode (reading_of run) (map, b)) tail → Halts (walk_within rows strict) (run ++ (escape_bytes map ++ b ∷ tail))
  unfolding walk_within
  halts_at run map b tail is in_map t =
      subst (Halts (head_step >>= after_head)) (append_assoc run (entry_byte map b ∷ []) (entry_rest map b ++ tail)
      ∙ ap (λ l. run ++ l) (sym (entry_is map b tail)))
      (halts_bind head_step after_head (run ++ entry_byte map b ∷ []) (entry_rest map b ++ tail) (reading_of run, entry_byte map b)
      (takes_head run (entry_byte map b) is (entry_plain map b in_map))
      (halts_bind (opcode_step (reading_of run) (entry_byte map b)) (after_opcode (reading_of run)) (entry_rest map b) tail (map, b)
      (takes_opcode (reading_of run) map b in_map) t))

  pub halts_body : (q : List ℕ) → EndsBetweenPieces rows strict q → Halts (walk_within rows strict) q
  halts_body q (in_head run map beginning back spelled is e) = rw spelled (halts_beginning run beginning is (escape_beginning map beginning back e))
  halts_body q (in_tail run map b row tail spelled is in_map has k) =
      rw spelled (halts_at run map b tail is in_map (rw has (halts_row (record_of strict row (seen_by map b (reading_of run)))
      (seen_by map b (reading_of run)) tail k)))

  pub out_nothing : Out (walk_within rows strict) []
  unfolding walk_within
  out_nothing = out_bind head_step after_head [] (out_head [] refl)

  -- ---- how far the body moves

  pub record Moves (s : State ℕ) (o : Outcome Reading) : Type 0 where
    pub count : ℕ
    pub within : count ≤ length s.left
    pub after : o.after ≡ advanced count s

  moves_at : (s : State ℕ) → Ends BodyYields BodyBetween (walk_within rows strict) s → Moves s (walk_within rows strict s)
  moves_at s (settles q rest r h t d a) = record { count = length q; within = beginning_le q rest s.left h; after = ap (λ o. o.after) (t.takes rest s h) }
  moves_at s (runs_out q rest h b u) = record {
    count = length q;
    within = beginning_le q rest s.left h;
    after = ap (λ o. o.after) (u rest [] (sym (append-nil rest)) s h);
  }

  pub body_moves : (s : State ℕ) → Moves s (walk_within rows strict s)
  body_moves s = moves_at s (ends_body s)
