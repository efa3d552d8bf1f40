-- What the window needs of the decoder.
use Rattle.std.specs.Prelude.{◌≡◌, ◌≢◌, ℕ, ◌<◌, ◌≤◌, Bool, List, [], ◌++◌, length, take, Ok, Err}
use Rattle.x86_decode.specs.declared.instructions.Instruction.{Instruction}
use Rattle.x86_fields.specs.declared.errors.DecodeError.TheVariants.{ExhaustedInput}
use Rattle.x86_decode.specs.Instruction.{length_of}
use Rattle.x86_decode.specs.Answer.{answer_of}

-- what the decoder promises of its answers
pub record DecoderLaws (strict : Bool) : Type 0 where
  pub lengths : (xs : List ℕ) (i : Instruction) → answer_of strict xs ≡ Ok i → (0 < length_of i) × (length_of i ≤ length xs)
  pub stay : (xs ys : List ℕ) → answer_of strict xs ≢ Err ExhaustedInput → answer_of strict (xs ++ ys) ≡ answer_of strict xs
  pub enough : (xs : List ℕ) → 15 ≤ length xs → answer_of strict xs ≢ Err ExhaustedInput
  pub alone : (xs : List ℕ) (i : Instruction) → answer_of strict xs ≡ Ok i → answer_of strict (take (length_of i) xs) ≡ Ok i
  pub empty : answer_of strict [] ≡ Err ExhaustedInput
