-- What a row has after its opcode byte, known from a ModRM byte alone.
use Rattle.std.specs.Prelude.{ℕ, ◌+◌, Bool, true, false, Option, List, [], ◌∷◌}
use Rattle.std.specs.Int.{byte_len}
use Rattle.std.specs.Option.{option_map_or}
use Rattle.x86_operands.specs.Vocabulary.{Verdict, NamedBySuffix, ModrmUse, Absent, EitherForm, Registers, Ask}
use Rattle.x86_operands.specs.Vocabulary.{RecordAt, OperandEncoding, Position, Nowhere, Prefixes, Template, absent_modrm, as_register}
use Rattle.x86_fields.specs.Pieces.{option_bytes}
use Rattle.x86_operands.specs.Records.{Instance, RowRecord, order_of}
use Rattle.x86_operands.specs.RowSteps.{immediate_read}
use Rattle.x86_operands.specs.Encodings.{resolved}
use Rattle.x86_operands.specs.Templates.{has_address}

abbrev pub uses_modrm : ModrmUse → Bool
uses_modrm Absent = false
uses_modrm usage = true

abbrev pub uses_suffix : Verdict → Bool
uses_suffix NamedBySuffix = true
uses_suffix verdict = false

-- how many bytes of immediate an operand encoding has
abbrev pub immediate_width : OperandEncoding → ℕ
immediate_width s = option_map_or (λ i. byte_len i.0) (immediate_read s) 0

-- that of an operand at a position, if it is somewhere
abbrev pub part_width : Position → OperandEncoding → ℕ
part_width Nowhere s = 0
part_width at s = immediate_width s

-- how many bytes the immediates have together; those of an absolute address count
abbrev pub immediates_width : Instance → ℕ
immediates_width instance = part_width (order_of instance).last instance.last + part_width (order_of instance).extra instance.extra

abbrev pub first_or : ℕ → List ℕ → ℕ
first_or n [] = n
first_or n (b ∷ rest) = b

-- ModRM as the row uses it: C0 where there is none, and mod 11 where mod isn't looked at
abbrev pub modrm_of : ModrmUse → List ℕ → ℕ
modrm_of Absent bytes = absent_modrm
modrm_of EitherForm bytes = first_or absent_modrm bytes
modrm_of Registers bytes = as_register (first_or absent_modrm bytes)

-- a ModRM byte as the row uses it
abbrev pub used_modrm : ModrmUse → ℕ → ℕ
used_modrm usage m = modrm_of usage (m ∷ [])

-- what an instance has at a ModRM byte that is used so
abbrev pub instance_ask : ModrmUse → ℕ → Instance → Ask
instance_ask usage m instance = record {
  modrm = uses_modrm usage;
  memory = has_address (order_of instance).rm m;
  immediate = immediates_width instance;
  suffix = uses_suffix instance.verdict;
}

-- what a template has there, where the opcode byte has n
abbrev pub template_ask : ModrmUse → ℕ → Template → ℕ → Prefixes → Verdict → Ask
template_ask usage m t n p verdict = record {
  modrm = uses_modrm usage;
  memory = has_address t.order.rm m;
  immediate = part_width t.order.last (resolved t.last n p) + part_width t.order.extra (resolved t.extra n p);
  suffix = uses_suffix verdict;
}

-- what a row has at a ModRM byte
unfoldable pub ask_of : RowRecord → ℕ → Ask
ask_of r m = instance_ask r.modrm (used_modrm r.modrm m) (r.instance (used_modrm r.modrm m))

-- a record at a ModRM byte; one that isn't there reads as C0
unfoldable pub record_at : RowRecord → Option ℕ → RecordAt
record_at r modrm = record {
  at_opcode = r.at_opcode;
  modrm = modrm_of r.modrm (option_bytes modrm);
  ask = instance_ask r.modrm (modrm_of r.modrm (option_bytes modrm)) (r.instance (modrm_of r.modrm (option_bytes modrm)));
  verdict = (r.instance (modrm_of r.modrm (option_bytes modrm))).verdict;
}
