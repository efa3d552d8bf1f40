-- Classes of operands by the reading of a run. Source: Intel SDM volume 2, sections 2.2.1.2 and 3.1.1.3, and volume
-- 1, section 3.6.1.
use Rattle.std.specs.Prelude.{ℕ, Bool, true, false, nat_le, ◌&&◌, ◌||◌, not, if◌then◌else◌, is_some}
use Rattle.x86_regs.specs.declared.RegisterClass.{RegisterClass}
use Rattle.x86_regs.specs.declared.RegisterClass.TheVariants.{B, W, D, RB, Q, X, MM, ST}
use Rattle.x86_regs.specs.declared.RegSpec.{RegSpec}
use Rattle.x86_regs.specs.Register.{reg_spec}
use Rattle.x86_fields.specs.declared.prefixes.Prefixes.{Prefixes}
use Rattle.x86_fields.specs.declared.sizes.SizePrefixes.{SizePrefixes}
use Rattle.x86_fields.specs.declared.sizes.SizePrefixes.TheVariants as prefix
use Rattle.x86_fields.specs.declared.sizes.Width.{Width}
use Rattle.x86_fields.specs.declared.sizes.Width.TheVariants as width
use Rattle.x86_fields.specs.Raw.{has_w}
pub use Rattle.x86_regs.specs.Class.{width_of}

-- which of live W and 66 are in force
abbrev pub size_prefixes : Prefixes → SizePrefixes
size_prefixes p = if has_w p then (if p.operand_size then prefix.Both else prefix.W) else (if p.operand_size then prefix.OperandSize else prefix.Neither)

-- Q under live W, else W under 66, else D
abbrev pub v_class : Prefixes → RegisterClass
v_class p = if has_w p then Q else (if p.operand_size then W else D)

-- W under 66, else Q
abbrev pub vq_class : Prefixes → RegisterClass
vq_class p = if p.operand_size then W else Q

-- D under live W or without 66, else W
abbrev pub vd_class : Prefixes → RegisterClass
vd_class p = if has_w p || not p.operand_size then D else W

-- Q under live W, else D
abbrev pub dq_class : Prefixes → RegisterClass
dq_class p = if has_w p then Q else D

-- the class of a width
abbrev pub class_of : Width → Prefixes → RegisterClass
class_of width.B p = B
class_of width.Mm p = MM
class_of width.W p = W
class_of width.D p = D
class_of width.Q p = Q
class_of width.X p = X
class_of width.V p = v_class p
class_of width.Vq p = vq_class p
class_of width.Vd p = vd_class p
class_of width.Dq p = dq_class p
class_of width.St p = ST

-- Whether R and B extend the number of each register of a width, and a REX changes no name: of all but bytes, mm registers
-- and those of x87. Source: Intel SDM volume 2, section 2.2.1.2.
abbrev pub is_regular : Width → Bool
is_regular width.B = false
is_regular width.Mm = false
is_regular width.St = false
is_regular w = true

-- A byte register below 4 has class B; from 4 on it has class rB with a live REX, else class B.
abbrev pub byte_reg : Prefixes → ℕ → RegSpec
byte_reg p n = if is_some p.rex && nat_le 4 n then reg_spec n RB else reg_spec n B

-- a register of a class, where class B means the byte registers
abbrev pub register_of : RegisterClass → Prefixes → ℕ → RegSpec
register_of B p n = byte_reg p n
register_of c p n = reg_spec n c
