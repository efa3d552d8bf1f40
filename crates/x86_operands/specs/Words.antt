-- The words that rows are written in.
use Rattle.std.specs.Prelude.{ℕ, Bool, ◌==◌, if◌then◌else◌, false, true, List, [], ◌∷◌, pos, unwrap_or}
use Rattle.std.specs.Map.{lookup}
use Rattle.x86_regs.specs.declared.RegisterClass.TheVariants as class
use Rattle.x86_fields.specs.declared.sizes.Width.TheVariants as width
use Rattle.x86_operands.specs.declared.sizing.Size.TheVariants as sizes
use Rattle.x86_operands.specs.declared.sizing.Size.TheVariants.{V, Vq, Dq}
use Rattle.x86_opcodes.specs.Names.{Invalid}
use Rattle.x86_operands.specs.Vocabulary.{OperandEncoding, RegisterSlot, Width, Fault, BadOperand, PrefixChange}
use Rattle.x86_operands.specs.Vocabulary.{Keeps, Size, Template, Verdict, Accepts, NamedBySuffix, Refuses}
use Rattle.x86_operands.specs.Vocabulary.{Position, First, Second, Third, Fourth, Nowhere}
use Rattle.x86_operands.specs.RowVocabulary.{Bare, ByReg, ByRm, Either, Memory, Name, Names, Own, Place, Reg, Register, Rm, TemplateRow, When, Where}
use Rattle.x86_operands.specs.Templates.{somewhere}
use Rattle.x86_operands.specs.declared.vocabulary.RegisterSlot.TheVariants as slot
use Rattle.x86_operands.specs.declared.vocabulary.OperandEncoding.TheVariants as encoding
use Rattle.x86_operands.specs.declared.rows.When.TheVariants.{Always, RexW, With66}
use Rattle.x86_operands.specs.declared.rows.Reg.TheVariants as regs
use Rattle.x86_operands.specs.declared.rows.Rm.TheVariants as rms

-- ---- where

abbrev pub at : Place → Reg → Rm → Where
at place reg rm = record { place = place; reg = reg; rm = rm }

-- without a ModRM byte
abbrev pub bare : Where
bare = at Bare regs.Any rms.Any

-- the memory forms, the register forms, and both, at every reg
abbrev pub mem : Where
mem = at Memory regs.Any rms.Any

abbrev pub reg : Where
reg = at Register regs.Any rms.Any

abbrev pub both : Where
both = at Either regs.Any rms.Any

-- at one reg, and from one reg to another
abbrev pub mem_at : ℕ → Where
mem_at n = at Memory (regs.Is n) rms.Any

abbrev pub reg_at : ℕ → Where
reg_at n = at Register (regs.Is n) rms.Any

abbrev pub both_at : ℕ → Where
both_at n = at Either (regs.Is n) rms.Any

abbrev pub reg_from : ℕ → ℕ → Where
reg_from first last = at Register (regs.From first last) rms.Any

abbrev pub both_from : ℕ → ℕ → Where
both_from first last = at Either (regs.From first last) rms.Any

-- At one reg and one rm, at every reg and one rm, and at rm 0, where unless the choice is strict any other is as good.
abbrev pub reg_rm : ℕ → ℕ → Where
reg_rm n rm = at Register (regs.Is n) (rms.Is rm)

abbrev pub rm_at : ℕ → Where
rm_at rm = at Register regs.Any (rms.Is rm)

abbrev pub strict_rm : Where
strict_rm = at Register regs.Any rms.ZeroIfStrict

-- ---- names

abbrev pub by_reg : ℕ → ℕ → ℕ → ℕ → ℕ → ℕ → ℕ → ℕ → Names
by_reg a b c d e f g h = ByReg (a ∷ b ∷ c ∷ d ∷ e ∷ f ∷ g ∷ h ∷ [])

abbrev pub by_rm : ℕ → ℕ → ℕ → ℕ → ℕ → ℕ → ℕ → ℕ → Names
by_rm a b c d e f g h = ByRm (a ∷ b ∷ c ∷ d ∷ e ∷ f ∷ g ∷ h ∷ [])

-- ---- operands

-- the operand of rm in the memory form, and in the register form, where that is all that a row has
abbrev pub M : OperandEncoding
M = encoding.E width.Q

abbrev pub U : Width → OperandEncoding
U w = encoding.E w

abbrev pub Umm : OperandEncoding
Umm = encoding.Emm

-- the register of the opcode byte, whose number an instance has
abbrev pub Z : RegisterSlot → Width → OperandEncoding
Z at w = encoding.Z at w 0

-- numbers that no byte spells
abbrev pub signed_one : OperandEncoding
signed_one = encoding.ConstantI8 (pos 1)

abbrev pub unsigned_one : OperandEncoding
unsigned_one = encoding.ConstantU8 1

abbrev pub three : OperandEncoding
three = encoding.ConstantU8 3

-- registers that the name implies, in the slot of reg
abbrev pub cl : OperandEncoding
cl = encoding.Implied slot.Reg 1 class.B

abbrev pub rax : OperandEncoding
rax = encoding.A width.Q

abbrev pub eax : OperandEncoding
eax = encoding.A width.D

abbrev pub ecx : OperandEncoding
ecx = encoding.Implied slot.Reg 1 class.D

abbrev pub st0 : OperandEncoding
st0 = encoding.Implied slot.Reg 0 class.ST

-- and in the other slots
abbrev pub ecx_in_rm : OperandEncoding
ecx_in_rm = encoding.Implied slot.Rm 1 class.D

abbrev pub edx_in_rm : OperandEncoding
edx_in_rm = encoding.Implied slot.Rm 2 class.D

abbrev pub ecx_third : OperandEncoding
ecx_third = encoding.Implied slot.Third 1 class.D

-- ---- the operands of a row: each sets a part of the template

-- no operand
abbrev pub Zero : Template
Zero = record {
  order = record { count = 0; reg = Nowhere; rm = Nowhere; last = Nowhere; extra = Nowhere };
  reg = width.B;
  of_opcode = false;
  rm = width.B;
  last = encoding.ConstantU8 0;
  extra = encoding.ConstantU8 0;
  in_memory = sizes.Zero;
  in_register = sizes.Zero;
}

abbrev pub with_reg : Position → Width → Bool → Template → Template
with_reg at w of_opcode t = record t { order = record t.order { reg = at }; reg = w; of_opcode = of_opcode }

abbrev pub with_rm : Position → Width → Template → Template
with_rm at w t = record t { order = record t.order { rm = at }; rm = w }

-- one that is of neither reg nor rm, and another after it
abbrev pub with_last : Position → OperandEncoding → Template → Template
with_last at s t =
    if somewhere t.order.last then record t { order = record t.order { extra = at }; extra = s }
    else record t { order = record t.order { last = at }; last = s }

-- G is the register of reg, and E the operand of rm. A row without E may have the register of the opcode byte, or register 0,
-- in the place of G.
abbrev pub with_operand : Position → OperandEncoding → Template → Template
with_operand at (encoding.G w) t = with_reg at w false t
with_operand at encoding.Gmm t = with_reg at width.Mm false t
with_operand at (encoding.Z slot.Reg w n) t = with_reg at w true t
with_operand at (encoding.A w) t = with_reg at w false t
with_operand at (encoding.E w) t = with_rm at w t
with_operand at encoding.Emm t = with_rm at width.Mm t
with_operand at encoding.StRm t = with_rm at width.St t
with_operand at s t = with_last at s t

abbrev pub counted : ℕ → Template → Template
counted n t = record t { order = record t.order { count = n } }

-- one operand to four, in their order
abbrev pub One : OperandEncoding → Template
One a = counted 1 (with_operand First a Zero)

abbrev pub Two : OperandEncoding → OperandEncoding → Template
Two a b = counted 2 (with_operand Second b (One a))

abbrev pub Three : OperandEncoding → OperandEncoding → OperandEncoding → Template
Three a b c = counted 3 (with_operand Third c (Two a b))

abbrev pub Four : OperandEncoding → OperandEncoding → OperandEncoding → OperandEncoding → Template
Four a b c d = counted 4 (with_operand Fourth d (Three a b c))

-- ---- memory sizes, in the memory form and in the register form

-- that of v, of vq and of dq, of one form
abbrev pub of_v : Size
of_v = V

abbrev pub of_vq : Size
of_vq = Vq

abbrev pub of_dq : Size
of_dq = Dq

-- so many bytes, of one form
abbrev pub every_size : List (ℕ × Size)
every_size =
    (0, sizes.Zero) ∷ (1, sizes.One) ∷ (2, sizes.Two) ∷ (4, sizes.Four) ∷ (8, sizes.Eight) ∷ (10, sizes.Ten) ∷
    (16, sizes.Sixteen) ∷ (48, sizes.FortyEight) ∷ (64, sizes.SixtyFour) ∷ []

abbrev pub Bytes : ℕ → Size
Bytes n = unwrap_or (lookup (λ k. k == n) every_size) sizes.Undecided

-- The same in both forms: one that W and 66 or the operation decide, so many bytes, and one that the processor decides.
abbrev pub size_of : Size → Size × Size
size_of s = (s, s)

abbrev pub size : ℕ → Size × Size
size n = size_of (Bytes n)

abbrev pub undecided : Size × Size
undecided = size_of sizes.Undecided

abbrev pub size_v : Size × Size
size_v = size_of V

abbrev pub size_vq : Size × Size
size_vq = size_of Vq

abbrev pub size_dq : Size × Size
size_dq = size_of Dq

-- a size in the memory form, and that of v in the register form
abbrev pub or_v : Size → Size × Size
or_v s = (s, of_v)

-- ---- rows

-- a row: where, the prefixes, the name, the operands, the size, the change of the answer's prefixes, and the verdict
abbrev pub row : Where → When → Names → Template → Size × Size → PrefixChange → Verdict → TemplateRow
row at when names operands size change verdict =
    record {
      at = at;
      when = when;
      names = names;
      template = record operands { in_memory = size.0; in_register = size.1 };
      change = change;
      verdict = verdict;
    }

-- a row that is read; one that changes the prefixes of the answer; and one whose operation a last byte names
abbrev pub read : Where → When → Names → Template → Size × Size → TemplateRow
read at when names operands size = row at when names operands size Keeps Accepts

abbrev pub changing : PrefixChange → Where → When → Names → Template → Size × Size → TemplateRow
changing change at when names operands size = row at when names operands size change Accepts

abbrev pub suffixed : Where → When → Template → Size × Size → TemplateRow
suffixed at when operands size = row at when (Name Invalid) operands size Keeps NamedBySuffix

-- What a row takes after ModRM before it is refused: nothing, or SIB and displacement.
abbrev pub AtModRM : Template
AtModRM = Zero

abbrev pub AfterAddress : Template
AfterAddress = One M

-- A row that is refused, with the operands whose bytes it takes before. `otherwise` is wherever no row before it is.
abbrev pub refusal : Where → When → Fault → Template → TemplateRow
refusal at when fault operands = row at when (Name Invalid) operands (size 0) Keeps (Refuses fault)

abbrev pub otherwise : Fault → Template → TemplateRow
otherwise fault operands = refusal both Always fault operands

-- ---- forms with one row that is read, whose name is that of the opcode map

abbrev pub without_modrm : Template → Size × Size → List TemplateRow
without_modrm operands size = read bare Always Own operands size ∷ []

abbrev pub with_modrm : Template → Size × Size → List TemplateRow
with_modrm operands size = read both Always Own operands size ∷ []

-- names by W and 66, in the order of the widths: of a word, of a doubleword, of a quadword
abbrev pub named_by_v : ℕ → ℕ → ℕ → List TemplateRow
named_by_v word double quad =
    read bare RexW (Name quad) Zero (size 0) ∷
    read bare With66 (Name word) Zero (size 0) ∷
    read bare Always (Name double) Zero (size 0) ∷ []

-- a register form is refused after ModRM, and a memory form after its address
abbrev pub with_memory : Template → Size × Size → List TemplateRow
with_memory operands size = read mem Always Own operands size ∷ otherwise BadOperand AtModRM ∷ []

abbrev pub with_register : Template → Size × Size → List TemplateRow
with_register operands size = read reg Always Own operands size ∷ otherwise BadOperand AfterAddress ∷ []
