-- What a decode answers, each fact by a name.
use Rattle.std.specs.Prelude.{◌≡◌, ◌↔◌, ◌≤◌, ℕ, Bool, List, Result, Err, IsOk, IfOk}
use Rattle.x86_arch.specs.Reader.{State, advanced, marked}
use Rattle.x86_fields.specs.declared.errors.DecodeError.{DecodeError}
use Rattle.x86_fields.specs.declared.errors.DecodeError.TheVariants.{ExhaustedInput, InvalidOpcode, InvalidOperand, InvalidPrefixes, TooLong, IncompleteDecoder}
use Rattle.x86_decode.specs.declared.instructions.Instruction.{Instruction}
use Rattle.x86_decode.specs.Head.{Rows}
use Rattle.x86_decode.specs.Grammar.{IsAnswer}
use Rattle.x86_decode.specs.Causes.{HasSentence, IsUndecided, HasFaultyOpcode, HasFaultyOperand, HasFaultyPrefixes, HasNoRoom, IsLeftOut}
use Rattle.x86_decode.specs.Ties.{HasTiedOperands}

-- The result and the count are the answer of the input over these rows, and each result comes exactly where its cause is.
pub record Answers (rows : Rows) (strict : Bool) (input : List ℕ) (result : Result Instruction DecodeError) (count : ℕ) : Type 0 where
  -- the grammar's answer, which takes this many bytes
  pub answer : IsAnswer rows strict input result count
  pub at_most_fifteen : count ≤ 15
  -- an instruction, exactly where the input begins with a sentence
  pub accepted : IsOk result ↔ HasSentence rows strict input
  -- an error, exactly where its cause is
  pub exhausted : (result ≡ Err ExhaustedInput) ↔ IsUndecided rows strict input
  pub invalid_opcode : (result ≡ Err InvalidOpcode) ↔ HasFaultyOpcode rows strict input
  pub invalid_operand : (result ≡ Err InvalidOperand) ↔ HasFaultyOperand rows strict input
  pub invalid_prefixes : (result ≡ Err InvalidPrefixes) ↔ HasFaultyPrefixes rows strict input
  pub too_long : (result ≡ Err TooLong) ↔ HasNoRoom rows strict input
  pub incomplete : (result ≡ Err IncompleteDecoder) ↔ IsLeftOut rows strict input
  -- at most four operands, each decoded and suited to its slot
  pub tied : IfOk result HasTiedOperands

-- The reader is marked, and then takes as many items as it counts from the mark, and no other.
abbrev pub HasMoved : State ℕ → State ℕ → Type 0
HasMoved old new = new ≡ advanced new.since_mark (marked old)
