-- The default and the strict decoder differ on fences whose rm isn't 0, and on nothing else.
use Rattle.std.proofs.Common.{◌≡◌, ◌↔◌, ℕ, ◌+◌, ◌-◌, ◌≤◌, ◌⊎◌, inl, inr, Bool, true, false, if◌then◌else◌, not, List, [], ◌∷◌, ◌++◌, length}
use Rattle.std.proofs.Common.{take, drop, None, Result, Ok, Err, refl, sym, ap, subst, ◌∙◌, arith, length-append, append_assoc, min}
use Rattle.std.proofs.lemmas.Bool.{cond_both}
use Rattle.std.proofs.lemmas.Grind.{common_steps}
use Rattle.std.proofs.lemmas.List.{append-nil, take-append-drop}
use Rattle.x86_arch.specs.Reader.{State, advanced}
use Rattle.x86_fields.specs.declared.errors.DecodeError.{DecodeError}
use Rattle.x86_fields.specs.declared.errors.DecodeError.TheVariants.{ExhaustedInput, InvalidOperand, InvalidPrefixes}
use Rattle.x86_fields.specs.declared.prefixes.Prefixes.{Prefixes}
use Rattle.x86_fields.specs.Run.{reading_of}
use Rattle.x86_fields.specs.Steps.{Step, Outcome, outcome, then_from}
use Rattle.x86_fields.proofs.StepLemmas.{Takes, fresh}
use Rattle.x86_fields.proofs.EndLemmas.{Ends, settles, runs_out}
use Rattle.x86_forms.specs.declared.TableRow.{TableRow}
use Rattle.x86_forms.specs.Groups.{is_group}
use Rattle.x86_forms.specs.Words.{rows_of, packed}
use Rattle.x86_operands.specs.declared.vocabulary.Fault.TheVariants.{BadOperand}
use Rattle.x86_operands.specs.declared.vocabulary.ModrmUse.{ModrmUse}
use Rattle.x86_operands.specs.declared.vocabulary.ModrmUse.TheVariants.{EitherForm}
use Rattle.x86_operands.specs.declared.reader.Reading.{Reading}
use Rattle.x86_operands.specs.RowSteps.{read_instance, read_modrm, refuse_fault}
use Rattle.x86_operands.specs.Places.{Placed, place_of, instance_places, instance_placed, record_placed}
use Rattle.x86_operands.specs.Forms.{form_record}
use Rattle.x86_operands.specs.Pieces.{SpellsTail, SpellsRow, past_opcode, modrm_width, reading_from}
use Rattle.x86_operands.specs.Asks.{modrm_of}
use Rattle.x86_groups.proofs.AddressLemmas.{refuses_at_once}
use Rattle.x86_groups.specs.Groups.{IsFenceWithRm, group_fault, group_modrm, group_instance, group_record, operandless, bad_operand}
use Rattle.x86_decode.specs.declared.instructions.Instruction.{Instruction}
use Rattle.x86_decode.specs.Head.{Rows, column_of, escape_bytes, clears, seen_by}
use Rattle.x86_decode.specs.Instruction.{instruction_of}
use Rattle.x86_decode.specs.Bound.{bounded}
use Rattle.x86_decode.specs.Grammar.{allows_lock, Whole, places_of, IsAnswer}
use Rattle.x86_decode.specs.Walk.{head_step, opcode_step, some_row, walk_placed, walk_within, bounded_outcome, decode_step}
use Rattle.x86_decode.specs.Answer.{answer_of, count_of}
use Rattle.x86_decode.specs.Choices.{IsFence, BeginsWithFence}
use Rattle.x86_decode.proofs.PlaceLemmas.{takes_placed, unplaced_walk, walk_refuses}
use Rattle.x86_decode.proofs.BodyLemmas.{ok_apart, takes_refused, BodyYields, BodyBetween, ends_body, takes_whole}
use Rattle.x86_decode.proofs.Theorem.{within, beginning_at_most, walk_answers, answered_by}
use Rattle.x86_decode.proofs.AnswerLemmas.{once}
use Rattle.x86_decode.proofs.PrintedLemmas.{is_answer, only_answer}

-- ---- the outcome of a step under the strict choice, and by default

data Compared (strictly default : Outcome Placed) : Type 0 where
  same : strictly ≡ default → Compared strictly default
  differ : (read : Placed) → default.answer ≡ Ok read → strictly.answer ≡ Err InvalidOperand → Compared strictly default

compared_from : {X : Type 0} (a : Result X DecodeError) (s : State ℕ) (f g : X → Step Placed) →
    ((x : X) (t : State ℕ) → Compared (f x t) (g x t)) → Compared (then_from a s f) (then_from a s g)
compared_from (Ok x) s f g each = each x s
compared_from (Err e) s f g each = same refl

-- ---- instances

abbrev fence_reading : ℕ → Prefixes → Reading
fence_reading o p = reading_from (operandless o p) p 0 o None []

-- by the law of x86_groups on its two choices
module _ (same_elsewhere : (row : TableRow) (p : Prefixes) (m : ℕ) → (group_instance row p m true ≡ group_instance row p m false) ⊎ IsFenceWithRm row.form p m)
    (fence_by_default : (row : TableRow) (p : Prefixes) (m : ℕ) (fence : IsFenceWithRm row.form p m) →
    group_instance row p m false ≡ operandless fence.opcode p)
    (fence_strictly : (row : TableRow) (p : Prefixes) (m : ℕ) → IsFenceWithRm row.form p m → group_instance row p m true ≡ bad_operand p) where
  compared_row : (t : Bool) (n : ℕ) (row : TableRow) (p : Prefixes) (s : State ℕ) →
      Compared (record_placed n (if t then group_record true row p else form_record row p) p s)
      (record_placed n (if t then group_record false row p else form_record row p) p s)
  unfolding record_placed group_record read_instance
  compared_row true n row p s =
      compared_from (refuse_fault (group_fault row.form p) s).answer (refuse_fault (group_fault row.form p) s).after _ _
      (λ _ t. compared_from (read_modrm (group_modrm row.form) t).answer (read_modrm (group_modrm row.form) t).after _ _
      (λ m z. elim (same_elsewhere row p m) [
        | inl e ↦ same (ap (λ instance. instance_placed n instance p m z) e)
        | inr h ↦ differ (fence_reading h.opcode p, instance_places (operandless h.opcode p) p m z n)
            (ap (λ instance. (instance_placed n instance p m z).answer) (fence_by_default row p m h))
            (ap (λ instance. (instance_placed n instance p m z).answer) (fence_strictly row p m h))
      ]))
  compared_row false n row p s = same refl

  -- ---- a fence in the grammar

  bare_tail : (o : ℕ) (p : Prefixes) (m : ℕ) → SpellsTail (operandless o p) p m [] (fence_reading o p)
  bare_tail o p m = record {
    pieces = record {
      memory = None;
      address = [];
      immediates = [];
      suffix = [];
      spelled = refl;
      address_spelled = (refl, refl);
      immediates_length = refl;
      suffix_length = refl;
    };
    opcode = o;
    named = refl;
    accepted = refl;
    yields = refl;
  }

  fence_lock : (o : ℕ) (p : Prefixes) → allows_lock (fence_reading o p) ≡ not p.lock
  fence_lock o p = grind arith

  -- ---- a row that is read by default

  one_byte : (u : ModrmUse) (bytes : List ℕ) → u ≡ EitherForm → length bytes ≡ modrm_width u → bytes ≡ modrm_of u bytes ∷ []
  one_byte u bytes e l = grind (arith, common_steps)

  -- such a row is read under the strict choice too, or its bytes begin with a ModRM that names a fence
  fence_row : (t : Bool) (row : TableRow) (p : Prefixes) (bytes : List ℕ) (reading : Reading) →
      SpellsRow (if t then group_record false row p else form_record row p) p bytes reading →
      (SpellsRow (if t then group_record true row p else form_record row p) p bytes reading → ⊥) → (m : ℕ) × (more : List ℕ)
      × (bytes ≡ m ∷ more) × IsFenceWithRm row.form p m
  unfolding group_record
  fence_row true row p bytes reading s strictly =
      let m : ℕ = modrm_of (group_modrm row.form) s.modrm in
      elim (same_elsewhere row p m) [
        | inl e ↦ absurd (strictly (record {
          modrm = s.modrm;
          tail = s.tail;
          passed = s.passed;
          spelled = s.spelled;
          modrm_length = s.modrm_length;
          tail_spelled = subst (λ instance. SpellsTail instance p m s.tail reading) (sym e) s.tail_spelled;
        }))
        | inr h ↦ (m, s.tail, s.spelled ∙ ap (λ l. l ++ s.tail) (one_byte (group_modrm row.form) s.modrm (ap group_modrm h.group) s.modrm_length), h)
      ]
  fence_row false row p bytes reading s strictly = absurd (strictly s)

  -- ---- any input

  module _ (rows : Rows) where
    compared_body : (s : State ℕ) → Compared (walk_placed rows true s) (walk_placed rows false s)
    unfolding walk_placed
    compared_body s = compared_from (head_step s).answer (head_step s).after _ _
        (λ h t. compared_from (opcode_step h.0 h.1 t).answer (opcode_step h.0 h.1 t).after _ _ (λ o z.
        let row = some_row (rows o.0 (column_of h.0) o.1) z in
        compared_from row.answer row.after _ _ (λ k u. compared_row (is_group k.form) (place_of u.since_mark) k (seen_by o.0 o.1 h.0) u)))

    -- ---- an input that is read by default

    fence_whole : (input q rest : List ℕ) (reading : Reading) → input ≡ q ++ rest → length q ≤ 15 → Whole rows false q reading →
        (Whole rows true q reading → ⊥) → BeginsWithFence rows input
    fence_whole input q rest reading h short w strictly =
        let k = fence_row (is_group w.row.form) w.row (seen_by w.map w.opcode (reading_of w.run)) w.tail reading w.row_spelled
        (λ s. strictly (record {
          run = w.run;
          map = w.map;
          opcode = w.opcode;
          row = w.row;
          tail = w.tail;
          spelled = w.spelled;
          prefixes = w.prefixes;
          in_map = w.in_map;
          has_row = w.has_row;
          row_spelled = s;
        })) in
        let fence : List ℕ = w.run ++ (escape_bytes w.map ++ w.opcode ∷ k.0 ∷ []) in
        let whole : q ≡ fence ++ k.1 = w.spelled ∙ ap (λ l. w.run ++ (escape_bytes w.map ++ w.opcode ∷ l)) k.2 ∙ simp append_assoc in
        record {
          fence = fence;
          rest = k.1 ++ rest;
          begins = h ∙ ap (λ l. l ++ rest) whole ∙ append_assoc fence k.1 rest;
          is = record {
            run = w.run;
            map = w.map;
            opcode = w.opcode;
            row = w.row;
            modrm = k.0;
            spelled = refl;
            prefixes = w.prefixes;
            in_map = w.in_map;
            has_row = w.has_row;
            names = k.3;
          };
          short = omega (arith, length-append {A = ℕ}, ap length whole);
        }

    module _ (input : List ℕ) where
      abbrev first : State ℕ
      first = bounded 15 (fresh input)

      differs : (reading : Reading) → (walk_within rows false first).answer ≡ Ok reading →
          (walk_within rows true first).answer ≡ Err InvalidOperand →
          Ends (BodyYields rows false) (BodyBetween rows false) (walk_within rows false) first → BeginsWithFence rows input
      differs reading d e (settles q rest (Ok r) h t f a) =
          fence_whole input q (rest ++ drop 15 input) r
          (sym (take-append-drop 15 input) ∙ ap (λ l. l ++ drop 15 input) h ∙ append_assoc q rest (drop 15 input)) (beginning_at_most 15 input q rest h) a
          (λ w. ok_apart r InvalidOperand (sym (ap (λ o. o.answer) ((takes_whole rows true q r w).takes rest first h)) ∙ e))
      differs reading d e (settles q rest (Err x) h t f a) = absurd (ok_apart reading x (sym d ∙ ap (λ o. o.answer) (t.takes rest first h)))
      differs reading d e (runs_out q rest h k u) =
          absurd (ok_apart reading ExhaustedInput (sym d ∙ ap (λ o. o.answer) (u rest [] (sym (append-nil rest)) first h)))

      answer_as : (a b : Bool) (r : Result Instruction DecodeError) (n : ℕ) →
          decode_step rows a (fresh input) ≡ decode_step rows b (fresh input) → IsAnswer rows a input r n → IsAnswer rows b input r n
      answer_as a b r n e is = let o = decode_step rows a (fresh input) in let k =
          once rows a input r o.answer n o.after.since_mark is (walk_answers rows a input) in rw (k.0, k.1) (answered_by rows b (fresh input) e).0

      pub same_elsewhere_on : ((r : Result Instruction DecodeError) (n : ℕ) → IsAnswer rows true input r n ↔ IsAnswer rows false input r n)
          ⊎ BeginsWithFence rows input
      unfolding decode_step
      same_elsewhere_on = elim (compared_body first) [
        | same e ↦ let w : decode_step rows true (fresh input) ≡ decode_step rows false (fresh input) =
            ap (λ o. bounded_outcome o.answer o.after.since_mark (fresh input)) e in inl (λ r n. (answer_as true false r n w, answer_as false true r n (sym w)))
        | differ read d e ↦ inr (differs read.0 (ap (λ o. o.answer) (sym (unplaced_walk rows false first)) ∙ rw d refl)
            (ap (λ o. o.answer) (sym (unplaced_walk rows true first)) ∙ rw e refl) (ends_body rows false first))
      ]

      -- ---- an input that begins with a fence

      module _ (f : BeginsWithFence rows input) where
        abbrev is : IsFence rows f.fence
        is = f.is

        abbrev p : Prefixes
        p = seen_by is.map is.opcode (reading_of is.run)

        abbrev h : IsFenceWithRm is.row.form p is.modrm
        h = is.names

        after_fence : first.left ≡ f.fence ++ take (15 - length f.fence) f.rest
        after_fence = within input f.fence f.rest f.begins f.short

        answer_at : (strict : Bool) (r : Result Placed DecodeError) (e : DecodeError) →
            walk_placed rows strict first ≡ outcome r (advanced (length f.fence) first) →
            ((n : ℕ) → bounded_outcome r n (fresh input) ≡ outcome (Err e) (advanced n (fresh input))) → IsAnswer rows strict input (Err e) (length f.fence)
        unfolding decode_step
        answer_at strict r e takes closes =
            let n : ℕ = 0 + length f.fence in
            let ends = ap (λ o. bounded_outcome o.answer o.after.since_mark (fresh input)) takes ∙ closes n in
            subst (IsAnswer rows strict input (Err e)) (let z : 0 + n ≡ length f.fence = omega arith in z)
            (answered_by rows strict (fresh input) {after = advanced n (fresh input)} {r = Err e} (sym ends)).0

        pub fence_strict_answer : IsAnswer rows true input (Err InvalidOperand) (length f.fence)
        unfolding group_record
        fence_strict_answer = answer_at true (Err InvalidOperand) InvalidOperand
            (walk_refuses rows true first _ InvalidOperand ((takes_refused rows true f.fence BadOperand (record {
              run = is.run;
              map = is.map;
              opcode = is.opcode;
              row = is.row;
              tail = is.modrm ∷ [];
              spelled = is.spelled;
              prefixes = is.prefixes;
              in_map = is.in_map;
              has_row = is.has_row;
              refuses = rw (ap is_group h.group) (past_opcode (is.modrm ∷ []) [] (ap (λ f. group_fault f p) h.group)
                  refl (rw (ap group_modrm h.group) refl) (rw (ap group_modrm h.group, fence_strictly is.row p is.modrm h)
                  (refuses_at_once (bad_operand p) p is.modrm BadOperand refl refl refl)));
            })).takes _ first after_fence))
            (λ n. refl)

        read_whole : Whole rows false f.fence (fence_reading h.opcode p)
        unfolding group_record
        read_whole = record {
          run = is.run;
          map = is.map;
          opcode = is.opcode;
          row = is.row;
          tail = is.modrm ∷ [];
          spelled = is.spelled;
          prefixes = is.prefixes;
          in_map = is.in_map;
          has_row = is.has_row;
          row_spelled = rw (ap is_group h.group) (record {
            modrm = is.modrm ∷ [];
            tail = [];
            passed = ap (λ f. group_fault f p) h.group;
            spelled = refl;
            modrm_length = rw (ap group_modrm h.group) refl;
            tail_spelled = rw (ap group_modrm h.group, fence_by_default is.row p is.modrm h) (bare_tail h.opcode p is.modrm);
          });
        }

        read_lock : allows_lock (fence_reading h.opcode p) ≡ not (reading_of is.run).lock
        read_lock = fence_lock h.opcode p ∙ cond_both (clears is.map (column_of (reading_of is.run)) is.opcode) _ _
            (λ (q : Prefixes). not q.lock ≡ not (reading_of is.run).lock) (λ _. refl) (λ _. refl)

        pub fence_read : (reading_of is.run).lock ≡ false → (i : Instruction) × IsAnswer rows false input (Ok i) (length f.fence)
            × (i.opcode ≡ f.is.names.opcode) × (min i.operand_list.count 4 ≡ 0)
        fence_read free = (
          instruction_of (fence_reading h.opcode p) (places_of rows false f.fence (fence_reading h.opcode p) read_whole) (length f.fence),
          record {
            sentence = f.fence;
            rest = f.rest;
            begins = f.begins;
            long = refl;
            is = record { reading = fence_reading h.opcode p; whole = read_whole; lock = read_lock ∙ ap not free; short = f.short; yields = refl };
          },
          refl,
          refl,
        )

        pub fence_locked : (reading_of is.run).lock ≡ true → IsAnswer rows false input (Err InvalidPrefixes) (length f.fence)
        fence_locked locked =
            let read = takes_placed rows false f.fence _ (fence_reading h.opcode p) first (takes_whole rows false f.fence _ read_whole) after_fence in
            answer_at false (Ok (fence_reading h.opcode p, read.0)) InvalidPrefixes read.1 (λ n. rw (read_lock ∙ ap not locked) refl)

  -- ---- the printed rows

  pub printed_elsewhere : (xs : List ℕ) → ((answer_of true xs ≡ answer_of false xs) × (count_of true xs ≡ count_of false xs))
      ⊎ BeginsWithFence (rows_of packed) xs
  printed_elsewhere xs = elim (same_elsewhere_on (rows_of packed) xs) [
    | inl e ↦ inl (only_answer false xs (answer_of true xs) (count_of true xs) ((e (answer_of true xs) (count_of true xs)).0 (is_answer true xs)))
    | inr f ↦ inr f
  ]
