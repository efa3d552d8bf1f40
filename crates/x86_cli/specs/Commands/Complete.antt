-- Sequences of sentences, and what a run of them answers.
use Rattle.std.specs.Prelude.{◌≡◌, ℕ, Bool, false, List, [], ◌∷◌, length, Ok, ⊤}
use Rattle.std.specs.List.{concat}
use Rattle.x86_decode.specs.declared.instructions.Instruction.{Instruction}
use Rattle.x86_decode.specs.Instruction.{length_of}
use Rattle.x86_decode.specs.Answer.{answer_of}
use Rattle.x86_streams.specs.declared.text.reader.Ending.TheVariants.{Clean}
use Rattle.x86_cli.specs.declared.listings.status.Status.TheVariants.{Done}
use Rattle.x86_streams.specs.Text.{Text}
use Rattle.x86_cli.specs.Commands.Request.{listing_for}
use Rattle.x86_cli.specs.declared.commands.command.Command.{Command}

-- the bytes are one instruction, whole
pub record IsOneInstruction (strict : Bool) (bytes : List ℕ) : Type 0 where
  pub instruction : Instruction
  pub answer : answer_of strict bytes ≡ Ok instruction
  pub whole : length_of instruction ≡ length bytes

abbrev pub AreSentences : Bool → List (List ℕ) → Type 0
AreSentences strict [] = ⊤
AreSentences strict (s ∷ ss) = IsOneInstruction strict s × AreSentences strict ss

-- An image that is a sequence of sentences
pub record IsSequenceOfSentences (strict : Bool) (image : List ℕ) : Type 0 where
  pub sentences : List (List ℕ)
  pub each : AreSentences strict sentences
  pub whole : image ≡ concat sentences

-- The command goes through the image to its end: a listing where that is a sequence of sentences, a sweep always.
abbrev pub GoesThrough : Command → List ℕ → Type 0
GoesThrough Command.Sweep image = ⊤
GoesThrough Command.Targets image = ⊤
GoesThrough (Command.List strict) image = IsSequenceOfSentences strict image
GoesThrough c image = IsSequenceOfSentences false image

-- A command that goes through the image of a clean text is done at its end.
abbrev pub CompletesTexts : Type 0
CompletesTexts = (command : Command) (t : Text) → t.ending ≡ Clean → GoesThrough command t.image → (listing_for command t).status ≡ Done
