-- Classes of registers: their widths and codes, and how a listing writes a rounding.
use Rattle.std.specs.Prelude.{ℕ, Bool, true, false, IsTrue, List, codes}
use Rattle.x86_regs.specs.declared.RegisterClass.{RegisterClass}
use Rattle.x86_regs.specs.declared.RegisterClass.TheVariants.{B, W, D, RB, Q, CR, DR, S, X, Y, Z, ST, MM, K, EIP, RIP, EFlags, RFlags}
use Rattle.x86_regs.specs.declared.SaeMode.{SaeMode}
use Rattle.x86_regs.specs.declared.SaeMode.TheVariants.{RoundNearest, RoundDown, RoundUp, RoundZero}

-- How many bytes a register of a class has. Source: Intel SDM volume 1, sections 3.4, 8.1, 9.2, 10.2, 14.1 and 15.1.
abbrev pub width_of : RegisterClass → ℕ
width_of B = 1
width_of W = 2
width_of D = 4
width_of RB = 1
width_of Q = 8
width_of CR = 8
width_of DR = 8
width_of S = 2
width_of X = 16
width_of Y = 32
width_of Z = 64
width_of ST = 10
width_of MM = 8
width_of K = 8
width_of EIP = 4
width_of RIP = 8
width_of EFlags = 4
width_of RFlags = 8

-- the classes of the general registers of 64, 32 and 16 bits
abbrev pub is_word_class : RegisterClass → Bool
is_word_class Q = true
is_word_class D = true
is_word_class W = true
is_word_class c = false

abbrev pub IsWordClass : RegisterClass → Type 0
IsWordClass c = IsTrue (is_word_class c)

-- The numbers that order the classes.
abbrev pub class_code : RegisterClass → ℕ
class_code B = 1
class_code W = 2
class_code D = 4
class_code RB = 6
class_code Q = 8
class_code CR = 10
class_code DR = 12
class_code S = 14
class_code X = 15
class_code Y = 19
class_code Z = 23
class_code ST = 27
class_code MM = 28
class_code K = 29
class_code EIP = 30
class_code RIP = 31
class_code EFlags = 32
class_code RFlags = 33

-- how a listing writes a rounding
abbrev pub label : SaeMode → List ℕ
label RoundNearest = codes "{rn-sae}"
label RoundDown = codes "{rd-sae}"
label RoundUp = codes "{ru-sae}"
label RoundZero = codes "{rz-sae}"
