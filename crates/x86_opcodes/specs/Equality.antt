-- What == answers of two values of a type.
use Rattle.std.specs.Prelude.{ℕ, Bool}
use Rattle.x86_opcodes.specs.declared.ConditionCode.{ConditionCode}
use Rattle.x86_opcodes.specs.contracts.OpcodePartialEq.TheImpl as opcode_eq
use Rattle.x86_opcodes.specs.contracts.ConditionCodePartialEq.TheImpl as code_eq

unfoldable pub equal_opcodes : ℕ → ℕ → Bool
equal_opcodes = (opcode_eq.ghosts).eq

unfoldable pub equal_codes : ConditionCode → ConditionCode → Bool
equal_codes = (code_eq.ghosts).eq
