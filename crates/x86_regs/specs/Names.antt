-- The names of registers and of their classes.
use Rattle.std.specs.Prelude.{ℕ, List, [], ◌∷◌, codes, slice_get, unwrap_or}
use Rattle.x86_regs.specs.declared.RegisterClass.{RegisterClass}
use Rattle.x86_regs.specs.declared.RegisterClass.TheVariants.{B, W, D, RB, Q, CR, DR, S, X, Y, Z, ST, MM, K, EIP, RIP, EFlags, RFlags}
use Rattle.x86_regs.specs.declared.RegSpec.{RegSpec}

-- The registers of each class by number. Class rB has none below 4. Source: Intel SDM volume 1, sections 3.4, 3.7.2
-- and 8.1.2.
abbrev pub names_of : RegisterClass → List (List ℕ)
names_of B = codes "al" ∷ codes "cl" ∷ codes "dl" ∷ codes "bl" ∷ codes "ah" ∷ codes "ch" ∷ codes "dh" ∷ codes "bh" ∷ []
names_of W = codes "ax" ∷ codes "cx" ∷ codes "dx" ∷ codes "bx" ∷ codes "sp" ∷ codes "bp" ∷ codes "si" ∷ codes "di" ∷ codes "r8w" ∷
    codes "r9w" ∷ codes "r10w" ∷ codes "r11w" ∷ codes "r12w" ∷ codes "r13w" ∷ codes "r14w" ∷ codes "r15w" ∷ []
names_of D = codes "eax" ∷ codes "ecx" ∷ codes "edx" ∷ codes "ebx" ∷ codes "esp" ∷ codes "ebp" ∷ codes "esi" ∷ codes "edi" ∷ codes "r8d" ∷
    codes "r9d" ∷ codes "r10d" ∷ codes "r11d" ∷ codes "r12d" ∷ codes "r13d" ∷ codes "r14d" ∷ codes "r15d" ∷ []
names_of RB = [] ∷ [] ∷ [] ∷ [] ∷ codes "spl" ∷ codes "bpl" ∷ codes "sil" ∷ codes "dil" ∷ codes "r8b" ∷ codes "r9b" ∷ codes "r10b" ∷
    codes "r11b" ∷ codes "r12b" ∷ codes "r13b" ∷ codes "r14b" ∷ codes "r15b" ∷ []
names_of Q = codes "rax" ∷ codes "rcx" ∷ codes "rdx" ∷ codes "rbx" ∷ codes "rsp" ∷ codes "rbp" ∷ codes "rsi" ∷ codes "rdi" ∷ codes "r8" ∷
    codes "r9" ∷ codes "r10" ∷ codes "r11" ∷ codes "r12" ∷ codes "r13" ∷ codes "r14" ∷ codes "r15" ∷ []
names_of CR = codes "cr0" ∷ codes "cr1" ∷ codes "cr2" ∷ codes "cr3" ∷ codes "cr4" ∷ codes "cr5" ∷ codes "cr6" ∷ codes "cr7" ∷ codes "cr8" ∷
    codes "cr9" ∷ codes "cr10" ∷ codes "cr11" ∷ codes "cr12" ∷ codes "cr13" ∷ codes "cr14" ∷ codes "cr15" ∷ []
names_of DR = codes "dr0" ∷ codes "dr1" ∷ codes "dr2" ∷ codes "dr3" ∷ codes "dr4" ∷ codes "dr5" ∷ codes "dr6" ∷ codes "dr7" ∷ codes "dr8" ∷
    codes "dr9" ∷ codes "dr10" ∷ codes "dr11" ∷ codes "dr12" ∷ codes "dr13" ∷ codes "dr14" ∷ codes "dr15" ∷ []
names_of S = codes "es" ∷ codes "cs" ∷ codes "ss" ∷ codes "ds" ∷ codes "fs" ∷ codes "gs" ∷ []
names_of X = codes "xmm0" ∷ codes "xmm1" ∷ codes "xmm2" ∷ codes "xmm3" ∷ codes "xmm4" ∷ codes "xmm5" ∷ codes "xmm6" ∷ codes "xmm7" ∷
    codes "xmm8" ∷ codes "xmm9" ∷ codes "xmm10" ∷ codes "xmm11" ∷ codes "xmm12" ∷ codes "xmm13" ∷ codes "xmm14" ∷ codes "xmm15" ∷
    codes "xmm16" ∷ codes "xmm17" ∷ codes "xmm18" ∷ codes "xmm19" ∷ codes "xmm20" ∷ codes "xmm21" ∷ codes "xmm22" ∷ codes "xmm23" ∷
    codes "xmm24" ∷ codes "xmm25" ∷ codes "xmm26" ∷ codes "xmm27" ∷ codes "xmm28" ∷ codes "xmm29" ∷ codes "xmm30" ∷ codes "xmm31" ∷ []
names_of Y = codes "ymm0" ∷ codes "ymm1" ∷ codes "ymm2" ∷ codes "ymm3" ∷ codes "ymm4" ∷ codes "ymm5" ∷ codes "ymm6" ∷ codes "ymm7" ∷
    codes "ymm8" ∷ codes "ymm9" ∷ codes "ymm10" ∷ codes "ymm11" ∷ codes "ymm12" ∷ codes "ymm13" ∷ codes "ymm14" ∷ codes "ymm15" ∷
    codes "ymm16" ∷ codes "ymm17" ∷ codes "ymm18" ∷ codes "ymm19" ∷ codes "ymm20" ∷ codes "ymm21" ∷ codes "ymm22" ∷ codes "ymm23" ∷
    codes "ymm24" ∷ codes "ymm25" ∷ codes "ymm26" ∷ codes "ymm27" ∷ codes "ymm28" ∷ codes "ymm29" ∷ codes "ymm30" ∷ codes "ymm31" ∷ []
names_of Z = codes "zmm0" ∷ codes "zmm1" ∷ codes "zmm2" ∷ codes "zmm3" ∷ codes "zmm4" ∷ codes "zmm5" ∷ codes "zmm6" ∷ codes "zmm7" ∷
    codes "zmm8" ∷ codes "zmm9" ∷ codes "zmm10" ∷ codes "zmm11" ∷ codes "zmm12" ∷ codes "zmm13" ∷ codes "zmm14" ∷ codes "zmm15" ∷
    codes "zmm16" ∷ codes "zmm17" ∷ codes "zmm18" ∷ codes "zmm19" ∷ codes "zmm20" ∷ codes "zmm21" ∷ codes "zmm22" ∷ codes "zmm23" ∷
    codes "zmm24" ∷ codes "zmm25" ∷ codes "zmm26" ∷ codes "zmm27" ∷ codes "zmm28" ∷ codes "zmm29" ∷ codes "zmm30" ∷ codes "zmm31" ∷ []
names_of ST = codes "st(0)" ∷ codes "st(1)" ∷ codes "st(2)" ∷ codes "st(3)" ∷ codes "st(4)" ∷ codes "st(5)" ∷ codes "st(6)" ∷ codes "st(7)" ∷ []
names_of MM = codes "mm0" ∷ codes "mm1" ∷ codes "mm2" ∷ codes "mm3" ∷ codes "mm4" ∷ codes "mm5" ∷ codes "mm6" ∷ codes "mm7" ∷ []
names_of K = codes "k0" ∷ codes "k1" ∷ codes "k2" ∷ codes "k3" ∷ codes "k4" ∷ codes "k5" ∷ codes "k6" ∷ codes "k7" ∷ []
names_of EIP = codes "eip" ∷ []
names_of RIP = codes "rip" ∷ []
names_of EFlags = codes "eflags" ∷ []
names_of RFlags = codes "rflags" ∷ []

-- The register's name; the empty text for a number that no register of the class has.
abbrev pub name_of : RegSpec → List ℕ
name_of r = unwrap_or (slice_get (names_of r.class) r.num) []

-- what the classes are called
abbrev pub class_name : RegisterClass → List ℕ
class_name B = codes "byte"
class_name W = codes "word"
class_name D = codes "dword"
class_name RB = codes "rex-byte"
class_name Q = codes "qword"
class_name CR = codes "cr"
class_name DR = codes "dr"
class_name S = codes "segment"
class_name X = codes "xmm"
class_name Y = codes "ymm"
class_name Z = codes "zmm"
class_name ST = codes "x87-stack"
class_name MM = codes "mmx"
class_name K = codes "k"
class_name EIP = codes "eip"
class_name RIP = codes "rip"
class_name EFlags = codes "eflags"
class_name RFlags = codes "rflags"
