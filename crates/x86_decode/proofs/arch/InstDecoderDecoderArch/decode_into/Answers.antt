use Rattle.std.proofs.Common.{ℕ, Bool, List, Result, Ok, Err}
use Rattle.std.specs.Result.{OnOk, IfErr}
use Rattle.x86_fields.specs.declared.errors.DecodeError.{DecodeError}
use Rattle.x86_decode.specs.declared.instructions.Instruction.{Instruction}
use Rattle.x86_decode.specs.Head.{Rows}
use Rattle.x86_decode.specs.Grammar.{IsAccepted, IsAnswer}
use Rattle.x86_decode.specs.Instruction.{holding}
use Rattle.x86_decode.proofs.arch.InstDecoderDecoderArch.decode_into.Goals as goal

module _ (rows : Rows) (strict : Bool) (input : List ℕ) (i : Instruction) (n : ℕ) (Moved : Type 0) where
  of_ok : (r : Result (Unit {0}) DecodeError) → IsAnswer rows strict input (holding i r) n → Moved → OnOk r (IsAccepted rows strict input i n × Moved)
  of_ok (Ok u) answer moved = (answer, moved)
  of_ok (Err e) answer moved = tt

  of_err : (r : Result (Unit {0}) DecodeError) → IsAnswer rows strict input (holding i r) n → Moved →
      IfErr r (λ e. IsAnswer rows strict input (Err e) n × Moved)
  of_err (Ok u) answer moved = tt
  of_err (Err e) answer moved = (answer, moved)

pub returns-clause-decoded : goal.returns-clause-decoded
returns-clause-decoded g c = of_ok _ _ _ _ _ _ c.decode_into.result c.decode_into.ensures.answers.answer c.decode_into.ensures.moved

pub returns-clause-refused : goal.returns-clause-refused
returns-clause-refused g c = of_err _ _ _ _ _ _ c.decode_into.result c.decode_into.ensures.answers.answer c.decode_into.ensures.moved

pub returns-clause-blanked : goal.returns-clause-blanked
returns-clause-blanked g c = c.decode_into.ensures.invalid
