-- Why an input is answered as it is: which case decides each refusal.
use Rattle.std.specs.Prelude.{◌≡◌, ℕ, ◌≤◌, ◌⊎◌, Bool, true, false, List, ◌++◌, length}
use Rattle.x86_fields.specs.declared.errors.DecodeError.{DecodeError}
use Rattle.x86_fields.specs.Run.{reading_of}
use Rattle.x86_operands.specs.declared.vocabulary.Fault.TheVariants.{BadOpcode, BadOperand, Incomplete}
use Rattle.x86_decode.specs.declared.instructions.Instruction.{Instruction}
use Rattle.x86_decode.specs.Head.{Rows, bars_vex}
use Rattle.x86_decode.specs.Grammar.{IsSentence, IsVexAfterRun, HasNoRow, IsRefusedByRecord, HasForbiddenLock, IsTooLong, Decides, HasNoSentence}

module _ (rows : Rows) (strict : Bool) where
  abbrev Vex : List ℕ → Type 0
  Vex q = IsVexAfterRun rows strict q

  -- case 2, or case 3 with a record that says that the opcode is invalid
  abbrev pub FaultsOpcode : List ℕ → Type 0
  FaultsOpcode q = HasNoRow rows strict q ⊎ IsRefusedByRecord rows strict q BadOpcode

  -- case 3 with a record that says that an operand is invalid, the strict fences among them
  abbrev pub FaultsOperand : List ℕ → Type 0
  FaultsOperand q = IsRefusedByRecord rows strict q BadOperand

  -- case 1 with 66, F0 or a live REX, or case 4
  abbrev pub FaultsPrefixes : List ℕ → Type 0
  FaultsPrefixes q = ((c : Vex q) × (bars_vex (reading_of c.run) ≡ true)) ⊎ HasForbiddenLock rows strict q

  -- case 1 otherwise, or case 3 with a record that is left out
  abbrev pub LeavesOut : List ℕ → Type 0
  LeavesOut q = ((c : Vex q) × (bars_vex (reading_of c.run) ≡ false)) ⊎ IsRefusedByRecord rows strict q Incomplete

  -- The shortest prefix of the input that decides an error is of this kind, and no prefix is a sentence.
  pub record IsDecidedBy (Kind : List ℕ → Type 0) (input : List ℕ) : Type 0 where
    pub beginning : List ℕ
    pub rest : List ℕ
    pub begins : input ≡ beginning ++ rest
    pub is : Kind beginning
    pub shortest : (q more : List ℕ) (e : DecodeError) → input ≡ q ++ more → Decides rows strict q e → length beginning ≤ length q
    pub no_sentence : HasNoSentence rows strict input

  -- the causes of the six errors
  abbrev pub HasFaultyOpcode : List ℕ → Type 0
  HasFaultyOpcode input = IsDecidedBy FaultsOpcode input

  abbrev pub HasFaultyOperand : List ℕ → Type 0
  HasFaultyOperand input = IsDecidedBy FaultsOperand input

  abbrev pub HasFaultyPrefixes : List ℕ → Type 0
  HasFaultyPrefixes input = IsDecidedBy FaultsPrefixes input

  abbrev pub HasNoRoom : List ℕ → Type 0
  HasNoRoom input = IsDecidedBy (IsTooLong rows strict) input

  abbrev pub IsLeftOut : List ℕ → Type 0
  IsLeftOut input = IsDecidedBy LeavesOut input

  -- No prefix of the input is a sentence, and none decides an error.
  pub record IsUndecided (input : List ℕ) : Type 0 where
    pub no_sentence : HasNoSentence rows strict input
    pub undecided : (q rest : List ℕ) (e : DecodeError) → input ≡ q ++ rest → Decides rows strict q e → ⊥

  -- A prefix of the input is a sentence.
  pub record HasSentence (input : List ℕ) : Type 0 where
    pub sentence : List ℕ
    pub rest : List ℕ
    pub answer : Instruction
    pub begins : input ≡ sentence ++ rest
    pub is : IsSentence rows strict sentence answer
