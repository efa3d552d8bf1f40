-- Address forms and their values. Source: Intel SDM volume 2, sections 2.1.5 and 2.2.1.6, and volume 1, section 3.7.5.
use Rattle.std.specs.Prelude.{◌≡◌, ℕ, ◌+◌, ◌*◌, ◌%◌, ◌^◌, ◌<◌, ◌==◌, nat_lt, Bool, true, false, IsTrue, if◌then◌else◌, Option, Some, None}
use Rattle.std.specs.Prelude.{ℤ, List, length, replicate, slice_set, slice_index}
use Rattle.std.specs.List.{list_all}
use Rattle.std.specs.Int.{w32, w64, cast_unsigned, sum_through}
use Rattle.x86_regs.specs.declared.RegisterClass.{RegisterClass}
use Rattle.x86_regs.specs.declared.RegisterClass.TheVariants.{EIP, RIP}
use Rattle.x86_regs.specs.declared.RegSpec.{RegSpec}
use Rattle.x86_regs.specs.Register.{num, class}
use Rattle.x86_fields.specs.declared.address_parts.AddressParts.{AddressParts}
use Rattle.x86_fields.specs.declared.raw.Raw.{Raw}
use Rattle.x86_fields.specs.Address.{base_of, index_of, scale_by}

-- A sum of registers times coefficients, the next instruction pointer times one, and a constant, modulo a power of two.
pub record Linear : Type 0 where
  pub modulus : ℕ
  pub registers : ℕ → ℕ
  pub next : ℕ
  pub constant : ℕ

abbrev pub modulus_by : Bool → ℕ
modulus_by short = if short then 2 ^ 32 else 2 ^ 64

abbrev pub is_pointer : RegisterClass → Bool
is_pointer EIP = true
is_pointer RIP = true
is_pointer c = false

-- what a named register adds to the coefficient of register r, and to that of the next pointer
abbrev pub adds_to : Option RegSpec → ℕ → ℕ → ℕ
adds_to None times r = 0
adds_to (Some reg) times r = if is_pointer (class reg) then 0 else (if num reg % 16 == r then times else 0)

abbrev pub adds_next : Option RegSpec → ℕ → ℕ
adds_next None times = 0
adds_next (Some reg) times = if is_pointer (class reg) then times else 0

-- the displacement modulo the modulus
abbrev pub constant_by : Bool → ℤ → ℕ
constant_by short d = if short then cast_unsigned w32 d else cast_unsigned w64 d

-- The form of a base, an index times a scale, and a displacement.
abbrev pub linear : Bool → Option RegSpec → Option RegSpec → ℕ → ℤ → Linear
linear short base index scale d = record {
  modulus = modulus_by short;
  registers = λ r. adds_to base 1 r + adds_to index scale r;
  next = adds_next base 1 + adds_next index scale;
  constant = constant_by short d;
}

-- the address form of raw fields
abbrev pub raw_form : Raw → Linear
raw_form raw = linear raw.address_size (base_of raw) (index_of raw) (scale_by raw.sib) raw.disp

abbrev pub parts_form : AddressParts → Linear
parts_form p = linear p.address_size p.base p.index p.scale p.disp

-- The value of a form at sixteen registers and a next pointer.
abbrev pub value_at : Linear → List ℕ → ℕ → ℕ
value_at f regs next = (sum_through (λ r. f.registers r * slice_index regs r) 15 + f.next * next + f.constant) % f.modulus

-- what a named register adds to the value
abbrev pub part_value : Option RegSpec → ℕ → List ℕ → ℕ → ℕ
part_value None times regs next = 0
part_value (Some reg) times regs next = times * (if is_pointer (class reg) then next else slice_index regs (num reg % 16))

-- Two forms are the same address where they are equal in every part.
pub record IsSameAddress (f g : Linear) : Type 0 where
  pub modulus : f.modulus ≡ g.modulus
  pub registers : (r : ℕ) → r < 16 → f.registers r ≡ g.registers r
  pub next : f.next ≡ g.next
  pub constant : f.constant ≡ g.constant

-- All coefficients and the constant are below the modulus.
pub record IsReduced (f : Linear) : Type 0 where
  pub registers : (r : ℕ) → r < 16 → f.registers r < f.modulus
  pub next : f.next < f.modulus
  pub constant : f.constant < f.modulus

-- sixteen numbers of 64 bits
pub record IsRegFile (regs : List ℕ) : Type 0 where
  pub sixteen : length regs ≡ 16
  pub small : IsTrue (list_all (λ n. nat_lt n (2 ^ 64)) regs)

abbrev pub zero_file : List ℕ
zero_file = replicate 16 0

-- 1 in register r, and 0 in the others
abbrev pub unit_file : ℕ → List ℕ
unit_file r = slice_set zero_file r 1

-- The values agree at every register file and next pointer.
abbrev pub AgreeEverywhere : Linear → Linear → Type 0
AgreeEverywhere f g = (regs : List ℕ) (next : ℕ) → IsRegFile regs → next < 2 ^ 64 → value_at f regs next ≡ value_at g regs next

-- The values agree at the zero file, at the sixteen unit files, and at the unit next pointer.
pub record AgreeAtUnits (f g : Linear) : Type 0 where
  pub zero : value_at f zero_file 0 ≡ value_at g zero_file 0
  pub units : (r : ℕ) → r < 16 → value_at f (unit_file r) 0 ≡ value_at g (unit_file r) 0
  pub next : value_at f zero_file 1 ≡ value_at g zero_file 1
