-- Operands, one after the other.
use Rattle.std.proofs.Common.{◌≡◌, ℕ, suc, zero, ◌≤◌, length, refl, arith, ◌∙◌, Option, Some, None}
use Rattle.std.proofs.Math.Dec.{eqb-suc-zero}
use Rattle.std.specs.Prelude.{◌==◌, if◌then◌else◌}
use Rattle.x86_operands.specs.declared.operands.MemoryAccessSize.{MemoryAccessSize}
use Rattle.x86_fields.specs.declared.errors.DecodeError.{DecodeError}
use Rattle.x86_fields.specs.declared.errors.DecodeError.TheVariants.{ExhaustedInput, InvalidOpcode, InvalidOperand, InvalidPrefixes, TooLong, IncompleteDecoder}
use Rattle.x86_fields.specs.Errors.{description_of}

pub no_size : (m : ℕ) (o : Option MemoryAccessSize) (s : MemoryAccessSize) → o ≡ (if m == 0 then None else Some s) → o ≡ None → m ≡ 0
no_size zero o s e f = refl
no_size (suc m) o s e f = let g : o ≡ Some s = e ∙ rw eqb-suc-zero refl in cc

pub description_short : (e : DecodeError) → length (description_of e) ≤ 26
description_short ExhaustedInput = omega arith
description_short InvalidOpcode = omega arith
description_short InvalidOperand = omega arith
description_short InvalidPrefixes = omega arith
description_short TooLong = omega arith
description_short IncompleteDecoder = omega arith
