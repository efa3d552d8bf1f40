-- The answer of bytes over the printed rows, and its count, as functions of the bytes.
use Rattle.std.specs.Prelude.{ℕ, Bool, List, Result}
use Rattle.x86_fields.specs.declared.errors.DecodeError.{DecodeError}
use Rattle.x86_fields.specs.Steps.{Outcome}
use Rattle.x86_forms.specs.Words.{rows_of, packed}
use Rattle.x86_decode.specs.declared.instructions.Instruction.{Instruction}
use Rattle.x86_decode.specs.Walk.{decode_step}

-- the walk over these bytes alone
unfoldable pub outcome_of : Bool → List ℕ → Outcome Instruction
outcome_of strict bytes = decode_step (rows_of packed) strict (record { left = bytes; since_mark = 0; since_made = 0 })

unfoldable pub answer_of : Bool → List ℕ → Result Instruction DecodeError
answer_of strict bytes = (outcome_of strict bytes).answer

-- how many bytes the answer takes
unfoldable pub count_of : Bool → List ℕ → ℕ
count_of strict bytes = (outcome_of strict bytes).after.since_mark
