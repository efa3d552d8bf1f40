-- What the table of byte_classes says of a byte.
use Rattle.std.proofs.Common.{◌≡◌, ◌==◌, ℕ, Bool, true, false, refl, arith}
use Rattle.std.proofs.lemmas.Bool.Decides.{nat_tests}
use Rattle.x86_fields.specs.Run.{is_prefix}
use Rattle.x86_decode.specs.declared.head.TheConstants.{BYTE_CLASSES}
use Rattle.x86_decode.specs.declared.head.ByteClass.{ByteClass}
use Rattle.x86_decode.specs.declared.head.ByteClass.TheVariants.{Legacy, Rex, Escape, Vex}
use Rattle.x86_decode.specs.Head.{is_vex}
use Rattle.x86_decode.specs.ByteClass.{byte_class, byte_classes}

pub table : BYTE_CLASSES.now ≡ byte_classes
unfolding byte_classes
table = refl

abbrev pub of_prefix : ByteClass → Bool
of_prefix Legacy = true
of_prefix Rex = true
of_prefix x = false

pub prefix_class : (b : ℕ) → is_prefix b ≡ of_prefix (byte_class b)
prefix_class b = grind (arith, nat_tests)

pub vex_class : (b : ℕ) → byte_class b ≡ Vex → is_vex b ≡ true
vex_class b h = grind (arith, nat_tests)

-- an escape is 0F
pub escape_class : (b : ℕ) → byte_class b ≡ Escape → b ≡ 0x0f
escape_class b h = grind (arith, nat_tests)

abbrev pub is_plain : ByteClass → Bool
is_plain Vex = false
is_plain Escape = false
is_plain x = true

pub plain_class : (b : ℕ) → is_plain (byte_class b) ≡ true → (is_vex b ≡ false) × ((b == 0x0f) ≡ false)
plain_class b h = grind (arith, nat_tests)

pub plain_not : (l : ByteClass) → (l ≡ Escape → ⊥) → (l ≡ Vex → ⊥) → is_plain l ≡ true
plain_not l f g = grind arith
