-- The errors of a decode: their kinds and their texts.
use Rattle.std.specs.Prelude.{ℕ, Bool, true, false, List, codes}
use Rattle.x86_fields.specs.declared.errors.DecodeError.{DecodeError}
use Rattle.x86_fields.specs.declared.errors.DecodeError.TheVariants.{ExhaustedInput, InvalidOpcode, InvalidOperand, InvalidPrefixes, TooLong, IncompleteDecoder}

abbrev pub is_exhausted : DecodeError → Bool
is_exhausted ExhaustedInput = true
is_exhausted e = false

abbrev pub is_bad_opcode : DecodeError → Bool
is_bad_opcode InvalidOpcode = true
is_bad_opcode e = false

abbrev pub is_bad_operand : DecodeError → Bool
is_bad_operand InvalidOperand = true
is_bad_operand e = false

-- what a listing says of each error
abbrev pub description_of : DecodeError → List ℕ
description_of ExhaustedInput = codes "exhausted input"
description_of InvalidOpcode = codes "invalid opcode"
description_of InvalidOperand = codes "invalid operand"
description_of InvalidPrefixes = codes "invalid prefixes"
description_of TooLong = codes "too long"
description_of IncompleteDecoder = codes "the decoder is incomplete"
