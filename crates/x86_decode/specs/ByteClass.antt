-- What a byte is at the beginning of an encoding.
use Rattle.std.specs.Prelude.{ℕ, ◌==◌, if◌then◌else◌, List, map}
use Rattle.std.specs.List.{range_with_len}
use Rattle.x86_fields.specs.Run.{is_legacy, is_rex}
use Rattle.x86_decode.specs.declared.head.ByteClass.{ByteClass}
use Rattle.x86_decode.specs.declared.head.ByteClass.TheVariants.{Opcode, Legacy, Rex, Escape, Vex}
use Rattle.x86_decode.specs.Head.{is_vex}

abbrev pub byte_class : ℕ → ByteClass
byte_class b =
    if is_vex b then Vex
    else (if b == 0x0f then Escape
    else (if is_legacy b then Legacy
    else (if is_rex b then Rex
    else Opcode)))

-- that of each byte
unfoldable pub byte_classes : List ByteClass
byte_classes = map byte_class (range_with_len 0 256)
