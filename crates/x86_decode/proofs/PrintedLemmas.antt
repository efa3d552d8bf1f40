-- The answer over the printed rows, as a function.
use Rattle.std.proofs.Common.{◌≡◌, ◌≢◌, ℕ, ◌<◌, ◌≤◌, Bool, List, [], ◌++◌, length, Result, Ok, Err, sym}
use Rattle.x86_fields.specs.declared.errors.DecodeError.{DecodeError}
use Rattle.x86_fields.specs.declared.errors.DecodeError.TheVariants.{ExhaustedInput}
use Rattle.x86_forms.specs.Words.{rows_of, packed}
use Rattle.x86_decode.specs.declared.instructions.Instruction.{Instruction}
use Rattle.x86_decode.specs.Grammar.{IsAnswer}
use Rattle.x86_decode.specs.Answer.{outcome_of, answer_of, count_of}
use Rattle.x86_decode.proofs.Theorem.{walk_answers}
use Rattle.x86_decode.proofs.AnswerLemmas.{once, stays, never_open, nothing_open, accepted_within}

pub is_answer : (strict : Bool) (xs : List ℕ) → IsAnswer (rows_of packed) strict xs (answer_of strict xs) (count_of strict xs)
unfolding answer_of count_of outcome_of
is_answer strict xs = walk_answers (rows_of packed) strict xs

-- what answer_of returns is an answer
pub printed_answer : (strict : Bool) (xs : List ℕ) (r : Result Instruction DecodeError) → r ≡ answer_of strict xs →
    IsAnswer (rows_of packed) strict xs r (count_of strict xs)
printed_answer strict xs r e = rw e (is_answer strict xs)

-- it is the only one
pub only_answer : (strict : Bool) (xs : List ℕ) (r : Result Instruction DecodeError) (n : ℕ) → IsAnswer (rows_of packed) strict xs r n →
    (r ≡ answer_of strict xs) × (n ≡ count_of strict xs)
only_answer strict xs r n a = once (rows_of packed) strict xs r (answer_of strict xs) n (count_of strict xs) a (is_answer strict xs)

-- a length is from 1 to 15 and to the input's length, and is the count
pub length_bounds : (strict : Bool) (xs : List ℕ) (i : Instruction) → answer_of strict xs ≡ Ok i → (0 < i.length) × (i.length ≤ 15)
    × (i.length ≤ length xs) × (i.length ≡ count_of strict xs)
length_bounds strict xs i e = accepted_within (rows_of packed) strict xs i (count_of strict xs) (printed_answer strict xs _ (sym e))

-- an answer other than ExhaustedInput stays when bytes are appended, and so does its count
pub answer_stays : (strict : Bool) (xs ys : List ℕ) → answer_of strict xs ≢ Err ExhaustedInput →
    (answer_of strict xs ≡ answer_of strict (xs ++ ys)) × (count_of strict xs ≡ count_of strict (xs ++ ys))
answer_stays strict xs ys d = only_answer strict (xs ++ ys) (answer_of strict xs) (count_of strict xs)
    (stays (rows_of packed) strict xs ys (answer_of strict xs) (count_of strict xs) d (is_answer strict xs))

pub fifteen_are_enough : (strict : Bool) (xs : List ℕ) → 15 ≤ length xs → answer_of strict xs ≢ Err ExhaustedInput
fifteen_are_enough strict xs enough e = never_open (rows_of packed) strict xs (count_of strict xs) enough (printed_answer strict xs _ (sym e))

pub empty_input : (strict : Bool) → answer_of strict [] ≡ Err ExhaustedInput
empty_input strict = sym (only_answer strict [] (Err ExhaustedInput) 0 (nothing_open (rows_of packed) strict)).0
