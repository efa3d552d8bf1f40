-- The walk over the first fifteen bytes of a slice.
use Rattle.std.proofs.Common.{◌≡◌, ◌==◌, ℕ, Bool, List, length, take, nat_le, Result, Ok, Err, ap, ◌∙◌, arith, length-take}
use Rattle.std.proofs.lemmas.Bool.Decides.{nat_tests}
use Rattle.x86_arch.specs.Reader.{State}
use Rattle.x86_fields.specs.declared.errors.DecodeError.{DecodeError}
use Rattle.x86_fields.specs.Steps.{outcome}
use Rattle.x86_forms.specs.Words.{rows_of, packed}
use Rattle.x86_operands.specs.Places.{Placed}
use Rattle.x86_decode.specs.declared.instructions.Instruction.{Instruction}
use Rattle.x86_decode.specs.Answer.{answer_of, outcome_of}
use Rattle.x86_decode.specs.Instruction.{holding, reading_in}
use Rattle.x86_decode.specs.Grammar.{allows_lock}
use Rattle.x86_decode.specs.Walk.{placed_in, walk_placed, bounded_outcome, decode_step, judgement, error_at_limit}

abbrev pub at_start : List ℕ → State ℕ
at_start bytes = record { left = bytes; since_mark = 0; since_made = 0 }

slice_is : (strict : Bool) (bytes : List ℕ) (r : Result Placed DecodeError) (t u : State ℕ) → u ≡ at_start (take 15 bytes) →
    outcome r t ≡ walk_placed (rows_of packed) strict u → (bounded_outcome r t.since_mark (at_start bytes)).answer ≡ answer_of strict bytes
unfolding answer_of outcome_of decode_step
slice_is strict bytes r t u e h = ap (λ o. (bounded_outcome o.answer o.after.since_mark (at_start bytes)).answer)
    (h ∙ ap (walk_placed (rows_of packed) strict) e)

pub slice_ok : (strict : Bool) (bytes : List ℕ) (i : Instruction) (n : ℕ) (j : Result (Unit {0}) DecodeError) (t u : State ℕ) →
    u ≡ at_start (take 15 bytes) → outcome (Ok (placed_in i)) t ≡ walk_placed (rows_of packed) strict u → n ≡ t.since_mark →
    j ≡ judgement (allows_lock (reading_in i)) →
    holding (record i { length = n }) j ≡ answer_of strict bytes
slice_ok strict bytes i n j t u e h k l =
    ap (holding (record i { length = n })) l ∙ same
    ∙ ap (λ m. (bounded_outcome (Ok (placed_in i)) m (at_start bytes)).answer) k ∙ slice_is strict bytes (Ok (placed_in i)) t u e h
  where
    same : holding (record i { length = n }) (judgement (allows_lock (reading_in i))) ≡ (bounded_outcome (Ok (placed_in i)) n (at_start bytes)).answer
    same = grind arith

full_test : (l : List ℕ) → (length (take 15 l) == 15) ≡ nat_le 15 (length l)
full_test l = let k = length-take 15 l in grind (arith, nat_tests)

closed_limited : (e : DecodeError) (n : ℕ) (bytes : List ℕ) →
    ◌≡◌ {A = Result Instruction DecodeError} (Err (error_at_limit e (nat_le 15 (length bytes)))) (bounded_outcome (Err e) n (at_start bytes)).answer
closed_limited e n bytes = grind arith

pub slice_err : (strict : Bool) (bytes within : List ℕ) (e f : DecodeError) (t u : State ℕ) → within ≡ take 15 bytes →
    u ≡ at_start (take 15 bytes) → outcome (Err e) t ≡ walk_placed (rows_of packed) strict u → f ≡ error_at_limit e (length within == 15) →
    ◌≡◌ {A = Result Instruction DecodeError} (Err f) (answer_of strict bytes)
slice_err strict bytes within e f t u w s h k =
    ap (λ x. Err x) (k ∙ ap (λ l. error_at_limit e (length l == 15)) w ∙ ap (error_at_limit e) (full_test bytes))
    ∙ closed_limited e t.since_mark bytes ∙ slice_is strict bytes (Err e) t u s h
