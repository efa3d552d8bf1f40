-- What a decode answers, from its answer, and the same where the answer is written to an instruction.
use Rattle.std.proofs.Common.{◌≡◌, ℕ, Bool, List, Result}
use Rattle.x86_fields.specs.declared.errors.DecodeError.{DecodeError}
use Rattle.x86_fields.specs.declared.errors.DecodeError.TheVariants.{InvalidOpcode, InvalidOperand, InvalidPrefixes, TooLong, IncompleteDecoder}
use Rattle.x86_decode.specs.declared.instructions.Instruction.{Instruction}
use Rattle.x86_decode.specs.Head.{Rows}
use Rattle.x86_decode.specs.Grammar.{IsAnswer}
use Rattle.x86_decode.specs.Answer.{answer_of, count_of}
use Rattle.x86_decode.specs.Answers.{Answers, HasMoved}
use Rattle.x86_decode.specs.Walk.{decode_step}
use Rattle.x86_fields.specs.Steps.{outcome}
use Rattle.x86_forms.specs.Words.{rows_of, packed}
use Rattle.x86_arch.specs.Reader.{State}
use Rattle.x86_decode.proofs.Theorem.{answered_by}
use Rattle.x86_decode.proofs.PrintedLemmas.{only_answer, printed_answer}
use Rattle.x86_decode.proofs.AnswerLemmas.{at_most_fifteen}
use Rattle.x86_decode.proofs.CauseLemmas.{accepted, exhausted, refused_for}
use Rattle.x86_decode.proofs.SentenceLemmas.{answer_tied}

pub answers : {rows : Rows} {strict : Bool} {input : List ℕ} {r : Result Instruction DecodeError} {n : ℕ} → IsAnswer rows strict input r n →
    Answers rows strict input r n
answers {rows} {strict} {input} {r} {n} a = record {
  answer = a;
  at_most_fifteen = at_most_fifteen rows strict input r n a;
  accepted = accepted rows strict input r n a;
  exhausted = exhausted rows strict input r n a;
  invalid_opcode = refused_for rows strict input r n a InvalidOpcode (λ e. cc);
  invalid_operand = refused_for rows strict input r n a InvalidOperand (λ e. cc);
  invalid_prefixes = refused_for rows strict input r n a InvalidPrefixes (λ e. cc);
  too_long = refused_for rows strict input r n a TooLong (λ e. cc);
  incomplete = refused_for rows strict input r n a IncompleteDecoder (λ e. cc);
  tied = answer_tied rows strict input r n a;
}

-- the same of the printed rows, whose answers are functions of the bytes
pub printed_answers : {strict : Bool} {input : List ℕ} {r : Result Instruction DecodeError} → r ≡ answer_of strict input →
    Answers (rows_of packed) strict input r (count_of strict input)
printed_answers {strict} {input} {r} e = answers (printed_answer strict input r e)

-- What the walk over the printed rows has decoded from this state.
pub record Decoded (strict : Bool) (s after : State ℕ) (r : Result Instruction DecodeError) : Type 0 where
  pub answers : Answers (rows_of packed) strict s.left r after.since_mark
  pub value : r ≡ answer_of strict s.left
  pub count : after.since_mark ≡ count_of strict s.left
  pub moved : HasMoved s after

pub decoded : {strict : Bool} (s : State ℕ) {after : State ℕ} {r : Result Instruction DecodeError} →
    outcome r after ≡ decode_step (rows_of packed) strict s → Decoded strict s after r
decoded {strict} s {after} {r} e =
    let a = answered_by (rows_of packed) strict s e in
    let only = only_answer strict s.left r after.since_mark a.0 in
    record { answers = answers a.0; value = only.0; count = only.1; moved = a.1 }
