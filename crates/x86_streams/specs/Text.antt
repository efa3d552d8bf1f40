-- A hex text: its image, and how it ends.
pub mod Beginning
pub mod Reader
pub mod Reading
pub mod Pairs
pub mod Spells
pub mod Window
use Rattle.std.specs.Prelude.{ℕ, ◌+◌, ◌-◌, ◌*◌, List, [], ◌∷◌, length, take, drop, Option, Some, None, ◌==◌, ◌||◌, ◌&&◌, nat_le, Bool, true}
use Rattle.std.specs.Prelude.{false, if◌then◌else◌, is_some}
use Rattle.std.specs.Option.{option_map}
use Rattle.x86_streams.specs.declared.text.reader.Ending.{Ending}
use Rattle.x86_streams.specs.declared.text.reader.Ending.TheVariants.{Clean, Bad, Large, Fault}
use Rattle.x86_streams.specs.Outside.Stop.{Stop, End, Failed}

-- a space, a tab, LF or CR
abbrev pub is_blank : ℕ → Bool
is_blank b = (b == 32) || (b == 9) || (b == 10) || (b == 13)

-- the value of a hex digit: 0 to 9, a to f, A to F
unfoldable pub value_of : ℕ → Option ℕ
value_of b =
    if nat_le 48 b && nat_le b 57 then Some (b - 48)
    else (if nat_le 97 b && nat_le b 102 then Some (b - 97 + 10)
    else (if nat_le 65 b && nat_le b 70 then Some (b - 65 + 10) else None))

abbrev pub paired : Option ℕ → Option ℕ → List ℕ → List ℕ
paired (Some high) (Some low) rest = (16 * high + low) ∷ rest
paired high low rest = []

-- the values of the whole pairs, up to the first byte that isn't allowed at its position
unfoldable pub image_of : List ℕ → List ℕ
image_of [] = []
image_of (a ∷ []) = []
image_of (a ∷ b ∷ s) = if is_blank a then image_of (b ∷ s) else paired (value_of a) (value_of b) (image_of s)

-- the position of the first byte that isn't allowed there
unfoldable pub bad_of : List ℕ → Option ℕ
bad_of [] = None
bad_of (a ∷ []) = if is_blank a || is_some (value_of a) then None else Some 0
bad_of (a ∷ b ∷ s) =
    if is_blank a then option_map (λ n. 1 + n) (bad_of (b ∷ s))
    else (if is_some (value_of a)
    then (if is_some (value_of b) then option_map (λ n. 2 + n) (bad_of s) else Some 1)
    else Some 0)

-- where no byte is bad: whether the bytes end inside a pair
unfoldable pub ends_in_half : List ℕ → Bool
ends_in_half [] = false
ends_in_half (a ∷ []) = is_some (value_of a)
ends_in_half (a ∷ b ∷ s) = if is_blank a then ends_in_half (b ∷ s) else ends_in_half s

-- the image and the end of a text
pub record Text : Type 0 where
  pub image : List ℕ
  pub ending : Ending

abbrev pub ending_by : ℕ → Option ℕ → List ℕ → Bool → ℕ → Stop → Ending
ending_by position (Some n) more half len stop = Bad (position + n)
ending_by position None (x ∷ more) half len stop = Large
ending_by position None [] true len End = Bad (position + len)
ending_by position None [] false len End = Clean
ending_by position None [] half len Failed = Fault

-- the text of the bytes from a position on, of which room many may be read, and of what stops them
unfoldable pub text_at : ℕ → ℕ → List ℕ → Stop → Text
text_at position room bytes stop =
    let part = take room bytes in record {
      image = image_of part;
      ending = ending_by position (bad_of part) (drop room bytes) (ends_in_half part) (length bytes) stop;
    }

-- the text of bytes of which max many may be read
abbrev pub text_of : ℕ → List ℕ → Stop → Text
text_of max bytes stop = text_at 0 max bytes stop
