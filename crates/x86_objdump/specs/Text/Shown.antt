-- The encoding of an instruction that is shown, and its parts.
use Rattle.std.specs.Prelude.{◌≡◌, Ok}
use Rattle.x86_decode.specs.Answer.{answer_of}
use Rattle.x86_decode.specs.Decoder.{is_strict}
use Rattle.x86_fields.specs.Parts.{PartLists}
use Rattle.x86_layout.specs.Parts.OfBytes.{parts_of}
use Rattle.x86_objdump.specs.declared.text.shown.Shown.{Shown}

-- the decoder reads the bytes as the instruction
abbrev pub IsRead : Shown → Type 0
IsRead s = answer_of (is_strict s.decoder.now) s.bytes.now ≡ Ok s.inst.now

abbrev pub parts_in : Shown → PartLists
parts_in s = parts_of (is_strict s.decoder.now) s.bytes.now
