-- What the row of an opcode byte says of the row in the opcode map.
use Rattle.std.specs.Prelude.{ℕ, ◌+◌, ◌<◌, Bool, true, false, not, Option, Some, None, ◌≡◌, ⊤}
use Rattle.x86_groups.specs.Vocabulary.{After, Form, Prefixes, TableRow, is_memory}
use Rattle.x86_groups.specs.declared.bytes.ByteRow.{ByteRow}
use Rattle.x86_groups.specs.declared.bytes.Next.{Next}
use Rattle.x86_groups.specs.declared.bytes.Next.TheVariants.{Chosen, Either, Nothing}
use Rattle.x86_groups.specs.declared.bytes.Choice.{Choice}
use Rattle.x86_groups.specs.declared.bytes.Choice.TheVariants as choice
use Rattle.x86_forms.specs.Groups.{is_group}
use Rattle.x86_forms.specs.Ordinals.{ordinal_of}
use Rattle.x86_opcodes.specs.Numbers.{IsNamed}
use Rattle.x86_operands.specs.Forms.{is_searched}
use Rattle.x86_operands.specs.Records.{template_instance}
use Rattle.x86_operands.specs.Templates.{has_free_sizes, is_read_at}
use Rattle.x86_groups.specs.Groups.{record_of}
use Rattle.x86_groups.specs.Heads.{Continues}

-- what follows the byte, without the form of its ModRM
abbrev pub after_byte : Next → After
after_byte Either = After.Fields
after_byte Nothing = After.Nothing
after_byte (Chosen (choice.Cells n)) = After.Cells
after_byte (Chosen choice.Search) = After.Search
after_byte n = After.Fields

-- whether form and mod alone choose the row, and it is at a ModRM byte; one that isn't there reads as C0
abbrev pub is_chosen_at : Choice → ℕ → Bool
is_chosen_at choice.Memory m = is_memory m
is_chosen_at choice.Register m = not (is_memory m)
is_chosen_at c m = false

abbrev pub is_direct_at : Next → ℕ → Bool
is_direct_at Either m = true
is_direct_at Nothing m = true
is_direct_at (Chosen c) m = is_chosen_at c m

-- a group that has cells, by the number of its form, which is its ordinal and 1
pub record IsCelled (n : ℕ) (f : Form) : Type 0 where
  pub group : is_group f ≡ true
  pub celled : is_searched f ≡ false
  pub numbered : n ≡ 1 + ordinal_of f

-- where form and mod alone choose the row, the template says its instance
pub record IsDirect (b : ByteRow) (row : TableRow) : Type 0 where
  pub small : b.register < 8
  pub named : IsNamed b.operation
  pub free : has_free_sizes b.template ≡ true
  pub fits : (m : ℕ) → is_direct_at b.next m ≡ true → is_read_at b.template m ≡ true
  pub instance : (m : ℕ) → is_direct_at b.next m ≡ true → (strict : Bool) (p : Prefixes) →
      template_instance b.template b.register b.operation p m ≡ (record_of strict row p).instance m

abbrev pub ChosenBy : Next → ByteRow → TableRow → Type 0
ChosenBy (Chosen choice.Search) b row = ⊤
ChosenBy (Chosen (choice.Cells n)) b row = IsCelled n row.form
ChosenBy n b row = IsDirect b row

pub record IsByteRow (b : ByteRow) (row : TableRow) : Type 0 where
  pub begins : (strict : Bool) (p : Prefixes) → Continues (after_byte b.next) (record_of strict row p)
  pub chosen : ChosenBy b.next b row

-- what it says of the printed row of its byte, if there is one
abbrev pub says : ByteRow → Option TableRow → Type 0
says b None = b.next ≡ Chosen choice.Search
says b (Some row) = IsByteRow b row

-- one that says what the row of some byte is
abbrev pub IsListed : ByteRow → Type 0
IsListed b = (row : Option TableRow) × says b row
