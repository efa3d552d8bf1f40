-- The groups: a row a line, from Intel SDM volume 2, appendix A.4, or the source that is named. Also rows that this
-- table leaves empty: SAL at /6 and TEST at /1, which processors read, and XABORT and XBEGIN at any reg of C6 F8 and
-- C7 F8, as `yaxpeax-x86` reads them (docs/DIFFERENCES.md). The first row that is there counts. The columns: where
-- (mem the memory forms of ModRM, reg the register forms, both; at a reg, or at a reg and an rm), the prefixes, the
-- name or the names of eight regs or rms (`none` where the row isn't), the operands, and the memory size (of the
-- memory form, and of the register form). A row that is refused has the error, and what it takes before. Of
-- x86_operands, specs/Words.antt has the words, specs/Columns.antt what they mean, and specs/RowSteps.antt what the
-- letters mean.
use Rattle.std.specs.Prelude.{List, [], ◌∷◌}
use Rattle.x86_opcodes.specs.Names.{ADC, ADD, AESDEC128KL, AESDEC256KL, AESDECWIDE128KL, AESDECWIDE256KL, AESENC128KL, AESENC256KL}
use Rattle.x86_opcodes.specs.Names.{AESENCWIDE128KL, AESENCWIDE256KL, AND, BT, BTC, BTR, BTS, CALL, CALLF, CLAC, CLFLUSH, CLFLUSHOPT, CLGI}
use Rattle.x86_opcodes.specs.Names.{CLRSSBSY, CLUI, CLWB, CLZERO, CMP, CMPXCHG16B, CMPXCHG8B, DEC, DIV, ENCLS, ENCLU, ENCLV, ENCODEKEY128}
use Rattle.x86_opcodes.specs.Names.{ENCODEKEY256, ENDBR32, ENDBR64, EXTRQ, F2XM1, FABS, FADD, FADDP, FBLD, FBSTP, FCHS, FCMOVB, FCMOVBE}
use Rattle.x86_opcodes.specs.Names.{FCMOVE, FCMOVNB, FCMOVNBE, FCMOVNE, FCMOVNU, FCMOVU, FCOM, FCOMI, FCOMIP, FCOMP, FCOMPP, FCOS, FDECSTP}
use Rattle.x86_opcodes.specs.Names.{FDISI8087_NOP, FDIV, FDIVP, FDIVR, FDIVRP, FENI8087_NOP, FFREE, FFREEP, FIADD, FICOM, FICOMP, FIDIV}
use Rattle.x86_opcodes.specs.Names.{FIDIVR, FILD, FIMUL, FINCSTP, FIST, FISTP, FISTTP, FISUB, FISUBR, FLD, FLD1, FLDCW, FLDENV, FLDL2E}
use Rattle.x86_opcodes.specs.Names.{FLDL2T, FLDLG2, FLDLN2, FLDPI, FLDZ, FMUL, FMULP, FNCLEX, FNINIT, FNOP, FNSAVE, FNSTCW, FNSTENV, FNSTSW}
use Rattle.x86_opcodes.specs.Names.{FPATAN, FPREM, FPREM1, FPTAN, FRNDINT, FRSTOR, FSCALE, FSETPM287_NOP, FSIN, FSINCOS, FSQRT, FST, FSTP}
use Rattle.x86_opcodes.specs.Names.{FSTPNCE, FSUB, FSUBP, FSUBR, FSUBRP, FTST, FUCOM, FUCOMI, FUCOMIP, FUCOMP, FUCOMPP, FXAM, FXCH, FXRSTOR}
use Rattle.x86_opcodes.specs.Names.{FXSAVE, FXTRACT, FYL2X, FYL2XP1, HRESET, IDIV, IMUL, INC, INCSSP, INSERTQ, INVLPG, INVLPGA, INVLPGB}
use Rattle.x86_opcodes.specs.Names.{JMP, JMPF, LDMXCSR, LFENCE, LGDT, LIDT, LLDT, LMSW, LOADIWKEY, LTR, MFENCE, MONITOR, MONITORX, MOV}
use Rattle.x86_opcodes.specs.Names.{MOVHLPS, MOVHPS, MOVLHPS, MOVLPS, MUL, MWAIT, MWAITX, NEG, NOP, NOT, OR, PCONFIG, POP, PREFETCH0}
use Rattle.x86_opcodes.specs.Names.{PREFETCH1, PREFETCH2, PREFETCHNTA, PREFETCHW, PSLLD, PSLLDQ, PSLLQ, PSLLW, PSMASH, PSRAD, PSRAW, PSRLD}
use Rattle.x86_opcodes.specs.Names.{PSRLDQ, PSRLQ, PSRLW, PTWRITE, PUSH, PVALIDATE, RCL, RCR, RDFSBASE, RDGSBASE, RDPID, RDPKRU, RDPRU}
use Rattle.x86_opcodes.specs.Names.{RDRAND, RDSEED, RDTSCP, RMPADJUST, RMPUPDATE, ROL, ROR, RSTORSSP, SAL, SAR, SAVEPREVSSP, SBB, SEAMCALL}
use Rattle.x86_opcodes.specs.Names.{SEAMOPS, SEAMRET, SENDUIPI, SETSSBSY, SFENCE, SGDT, SHL, SHR, SIDT, SKINIT, SLDT, SMSW, STAC, STGI}
use Rattle.x86_opcodes.specs.Names.{STMXCSR, STR, STUI, SUB, SWAPGS, TDCALL, TEST, TESTUI, TLBSYNC, TPAUSE, UIRET, UMONITOR, UMWAIT, VERR}
use Rattle.x86_opcodes.specs.Names.{VERW, VMCALL, VMCLEAR, VMFUNC, VMLAUNCH, VMLOAD, VMMCALL, VMPTRLD, VMPTRST, VMRESUME, VMRUN, VMSAVE}
use Rattle.x86_opcodes.specs.Names.{VMXOFF, VMXON, WRFSBASE, WRGSBASE, WRPKRU, XABORT, XBEGIN, XEND, XGETBV, XOR, XRESLDTRK, XRSTOR}
use Rattle.x86_opcodes.specs.Names.{XRSTORS, XRSTORS64, XSAVE, XSAVEC, XSAVEC64, XSAVEOPT, XSAVES, XSAVES64, XSETBV, XSUSLDTRK, XTEST}
use Rattle.x86_fields.specs.declared.sizes.Width.TheVariants.{B, W, D, Q, X, V, Vq, Dq}
use Rattle.x86_groups.specs.Vocabulary.{Form, BadOpcode, BadOperand, Incomplete, ClearsOperandSize, Own, Name, TemplateRow}
use Rattle.x86_forms.specs.declared.Form.TheVariants as form
use Rattle.x86_operands.specs.declared.vocabulary.OperandEncoding.TheVariants.{E, G, Gmm, Emm, Cr, Dr, I8, U8, Iv, X8, Jv, StRm, RdInReg}
use Rattle.x86_operands.specs.declared.rows.When.TheVariants.{Always, NoPrefix, NoRepeat, Only66, F2, F3, With66, RexW, RexR}
use Rattle.x86_operands.specs.Columns.{none}
use Rattle.x86_operands.specs.Words.{mem, reg, both, mem_at, reg_at, both_at, reg_from, reg_rm, rm_at, strict_rm, by_reg, by_rm, M, U, Umm}
use Rattle.x86_operands.specs.Words.{Zero, One, Two, Three, Four, Bytes}
use Rattle.x86_operands.specs.Words.{signed_one, cl, rax, eax, ecx, st0, ecx_in_rm, edx_in_rm, ecx_third, of_vq, of_dq, size, size_v}
use Rattle.x86_operands.specs.Words.{size_vq, or_v, undecided, read, changing, suffixed, refusal, otherwise, AtModRM, AfterAddress}

-- of the groups none is left to the last line, for forms that have no rows
unfoldable pub group_rows : Form → List TemplateRow
-- maps 0F38 and 0F3A: Key Locker
group_rows form.ModRM_0xf30f38d8 =
    read mem Always (by_reg AESENCWIDE128KL AESDECWIDE128KL none none none none none none) (One M) (size 48) ∷
    read mem Always (by_reg none none AESENCWIDE256KL AESDECWIDE256KL none none none none) (One M) (size 64) ∷
    refusal mem Always BadOpcode AfterAddress ∷
    otherwise BadOperand AtModRM ∷ []
group_rows form.ModRM_0xf30f38dc =
    read mem Always (Name AESENC128KL) (Two (G X) (E X)) (size 48) ∷
    read reg Always (Name LOADIWKEY) (Two (G X) (E X)) size_v ∷ []
group_rows form.ModRM_0xf30f38dd =
    read mem Always (Name AESDEC128KL) (Two (G X) M) (size 48) ∷
    otherwise BadOperand AtModRM ∷ []
group_rows form.ModRM_0xf30f38de =
    read mem Always (Name AESENC256KL) (Two (G X) M) (size 64) ∷
    otherwise BadOperand AtModRM ∷ []
group_rows form.ModRM_0xf30f38df =
    read mem Always (Name AESDEC256KL) (Two (G X) M) (size 64) ∷
    otherwise BadOperand AtModRM ∷ []
group_rows form.ModRM_0xf30f38fa =
    read reg Always (Name ENCODEKEY128) (Two (G D) (U D)) size_v ∷
    otherwise BadOpcode AfterAddress ∷ []
group_rows form.ModRM_0xf30f38fb =
    read reg Always (Name ENCODEKEY256) (Two (G D) (U D)) size_v ∷
    otherwise BadOpcode AfterAddress ∷ []
-- HRESET, which needs F3 as the only prefix (group_fault)
group_rows form.ModRM_0xf30f3af0 =
    read reg Always (Name HRESET) (One U8) (size 0) ∷
    otherwise BadOpcode AtModRM ∷ []
-- map 0F: group 6
group_rows form.ModRM_0x0f00 =
    read both Always (by_reg SLDT STR LLDT LTR VERR VERW none none) (One (E W)) (Bytes 2, Bytes 0) ∷
    otherwise BadOperand AtModRM ∷ []
-- group 7, and AMD APM volume 3, appendix A
group_rows form.ModRM_0x0f01 =
    read (mem_at 0) Always (Name SGDT) (One M) (size 10) ∷
    read (mem_at 1) Always (Name SIDT) (One M) (size 10) ∷
    read (mem_at 2) Always (Name LGDT) (One M) (size 10) ∷
    read (mem_at 3) Always (Name LIDT) (One M) (size 10) ∷
    read (mem_at 4) Always (Name SMSW) (One M) (size 2) ∷
    read (mem_at 5) F3 (Name RSTORSSP) (One M) (size 8) ∷
    read (mem_at 6) Always (Name LMSW) (One M) (size 2) ∷
    read (mem_at 7) Always (Name INVLPG) (One M) (size 1) ∷
    read (reg_at 0) NoPrefix (by_rm ENCLV VMCALL VMLAUNCH VMRESUME VMXOFF PCONFIG none none) Zero (size 0) ∷
    refusal (reg_at 0) NoPrefix BadOpcode AtModRM ∷
    read (reg_rm 1 0) NoPrefix (Name MONITOR) Zero (size 1) ∷
    read (reg_at 1) NoPrefix (by_rm none MWAIT CLAC STAC none none none ENCLS) Zero (size 0) ∷
    read (reg_at 1) Only66 (by_rm none none none none TDCALL SEAMRET SEAMOPS SEAMCALL) Zero (size 0) ∷
    read (reg_at 2) NoPrefix (by_rm XGETBV XSETBV none none VMFUNC XEND XTEST ENCLU) Zero (size 0) ∷
    refusal (reg_at 2) NoPrefix BadOpcode AtModRM ∷
    refusal (reg_at 0) Always BadOperand AtModRM ∷
    refusal (reg_at 2) Always BadOperand AtModRM ∷
    read (reg_rm 3 0) Always (Name VMRUN) (One rax) (size 0) ∷
    read (reg_rm 3 2) Always (Name VMLOAD) (One rax) (size 0) ∷
    read (reg_rm 3 3) Always (Name VMSAVE) (One rax) (size 0) ∷
    read (reg_rm 3 6) Always (Name SKINIT) (One eax) (size 0) ∷
    read (reg_rm 3 7) Always (Name INVLPGA) (Two rax ecx_in_rm) (size 0) ∷
    read (reg_at 3) Always (by_rm none VMMCALL none none STGI CLGI none none) Zero (size 0) ∷
    read (reg_at 4) Always (Name SMSW) (One (U V)) (size 2) ∷
    read (reg_at 5) F2 (by_rm XSUSLDTRK XRESLDTRK none none none none none none) Zero (size 0) ∷
    read (reg_at 5) F3 (by_rm SETSSBSY none SAVEPREVSSP none UIRET TESTUI CLUI STUI) Zero (size 0) ∷
    read (reg_at 5) NoPrefix (by_rm none none none none none none RDPKRU WRPKRU) Zero (size 0) ∷
    read (reg_at 6) Always (Name LMSW) (One (U W)) (size 2) ∷
    read (reg_at 7) Always (by_rm SWAPGS RDTSCP MONITORX MWAITX CLZERO none none none) Zero (size 0) ∷
    read (reg_rm 7 5) Always (Name RDPRU) (One ecx) (size 0) ∷
    refusal (reg_at 7) With66 BadOperand AtModRM ∷
    read (reg_at 7) F3 (by_rm none none none none none none RMPADJUST PSMASH) Zero (size 0) ∷
    read (reg_at 7) F2 (by_rm none none none none none none RMPUPDATE PVALIDATE) Zero (size 0) ∷
    read (reg_rm 7 6) Always (Name INVLPGB) (Three rax edx_in_rm ecx_third) (size 0) ∷
    read (reg_rm 7 7) Always (Name TLBSYNC) Zero (size 0) ∷
    otherwise BadOpcode AtModRM ∷ []
-- AMD APM volume 3, PREFETCH
group_rows form.ModRM_0x0f0d =
    read (mem_at 1) Always (Name PREFETCHW) (One M) (size 64) ∷
    read mem Always (Name NOP) (One M) (size 64) ∷
    otherwise BadOperand AtModRM ∷ []
-- 3DNow, whose last byte names the operation. AMD APM volume 3, appendix A.1.2
group_rows form.ModRM_0x0f0f = suffixed both Always (Two Gmm Emm) (or_v (Bytes 8)) ∷ []
-- 0F 12 and 0F 16 without a prefix
group_rows form.ModRM_0x0f12 =
    read mem Always (Name MOVLPS) (Two (G X) (E X)) (size 8) ∷
    read reg Always (Name MOVHLPS) (Two (G X) (E X)) size_v ∷ []
group_rows form.ModRM_0x0f16 =
    read mem Always (Name MOVHPS) (Two (G X) (E X)) (size 8) ∷
    read reg Always (Name MOVLHPS) (Two (G X) (E X)) size_v ∷ []
-- group 16
group_rows form.ModRM_0x0f18 =
    read mem Always (by_reg PREFETCHNTA PREFETCH0 PREFETCH1 PREFETCH2 none none none none) (One (E V)) (size 64) ∷
    read both Always (Name NOP) (One (E V)) (or_v (Bytes 64)) ∷ []
-- MOV-Move to/from Control Registers, to/from Debug Registers. Their ModRM is a register form at
-- every mod. There are the control registers 0, 2, 3, 4 and 8, and the debug registers below 8
group_rows form.Rq_Cq_0 =
    read (reg_at 0) Always Own (Two (U Q) Cr) (size 0) ∷
    refusal (reg_from 2 4) RexR BadOperand AtModRM ∷
    read (reg_from 2 4) Always Own (Two (U Q) Cr) (size 0) ∷
    otherwise BadOperand AtModRM ∷ []
group_rows form.Cq_Rq_0 =
    read (reg_at 0) Always Own (Two Cr (U Q)) (size 0) ∷
    refusal (reg_from 2 4) RexR BadOperand AtModRM ∷
    read (reg_from 2 4) Always Own (Two Cr (U Q)) (size 0) ∷
    otherwise BadOperand AtModRM ∷ []
group_rows form.Rq_Dq_0 =
    refusal reg RexR BadOperand AtModRM ∷
    read reg Always Own (Two (U Q) Dr) (size 0) ∷ []
group_rows form.Dq_Rq_0 =
    refusal reg RexR BadOperand AtModRM ∷
    read reg Always Own (Two Dr (U Q)) (size 0) ∷ []
-- groups 12, 13 and 14
group_rows form.ModRM_0x0f71 =
    read reg Only66 (by_reg none none PSRLW none PSRAW none PSLLW none) (Two (U X) U8) size_v ∷
    read reg NoPrefix (by_reg none none PSRLW none PSRAW none PSLLW none) (Two Umm U8) size_v ∷
    refusal reg NoRepeat BadOpcode AfterAddress ∷
    otherwise BadOperand AfterAddress ∷ []
group_rows form.ModRM_0x0f72 =
    read reg Only66 (by_reg none none PSRLD none PSRAD none PSLLD none) (Two (U X) U8) size_v ∷
    read reg NoPrefix (by_reg none none PSRLD none PSRAD none PSLLD none) (Two Umm U8) size_v ∷
    refusal reg NoRepeat BadOpcode AfterAddress ∷
    otherwise BadOperand AfterAddress ∷ []
group_rows form.ModRM_0x0f73 =
    read reg Only66 (by_reg none none PSRLQ PSRLDQ none none PSLLQ PSLLDQ) (Two (U X) U8) size_v ∷
    read reg NoPrefix (by_reg none none PSRLQ none none none PSLLQ none) (Two Umm U8) size_v ∷
    refusal (reg_at 3) NoPrefix BadOperand AfterAddress ∷
    refusal (reg_at 7) NoPrefix BadOperand AfterAddress ∷
    refusal reg NoRepeat BadOpcode AfterAddress ∷
    otherwise BadOperand AfterAddress ∷ []
-- group 15
group_rows form.ModRM_0x0fae =
    read (reg_at 6) F2 (Name UMWAIT) (One RdInReg) (size 0) ∷
    refusal mem F2 BadOperand AtModRM ∷
    refusal (both_at 4) With66 BadOpcode AtModRM ∷
    read (both_at 4) F3 (Name PTWRITE) (One (E Dq)) (of_dq, Bytes 0) ∷
    read (mem_at 6) F3 (Name CLRSSBSY) (One M) (size 8) ∷
    refusal mem F3 BadOperand AtModRM ∷
    read reg F3 (by_reg RDFSBASE RDGSBASE WRFSBASE WRGSBASE none INCSSP none none) (One (U Dq)) (size 0) ∷
    read (reg_at 6) F3 (Name UMONITOR) (One (U Q)) (size 0) ∷
    changing ClearsOperandSize (mem_at 6) Only66 (Name CLWB) (One M) (size 64) ∷
    changing ClearsOperandSize (mem_at 7) Only66 (Name CLFLUSHOPT) (One M) (size 64) ∷
    changing ClearsOperandSize (reg_at 6) Only66 (Name TPAUSE) (One (U D)) (size 0) ∷
    read mem NoPrefix (by_reg FXSAVE FXRSTOR none none XSAVE XRSTOR XSAVEOPT none) (One M) undecided ∷
    read mem NoPrefix (by_reg none none LDMXCSR STMXCSR none none none none) (One M) (size 4) ∷
    read (mem_at 7) NoPrefix (Name CLFLUSH) (One M) (size 64) ∷
    read strict_rm NoPrefix (by_reg none none none none none LFENCE MFENCE SFENCE) Zero (size 0) ∷
    refusal (reg_from 5 7) NoPrefix BadOperand AtModRM ∷
    otherwise BadOpcode AtModRM ∷ []
-- group 8
group_rows form.ModRM_0x0fba =
    read both Always (by_reg none none none none BT BTS BTR BTC) (Two (E Vq) I8) (of_vq, Bytes 0) ∷
    otherwise BadOpcode AtModRM ∷ []
-- group 9
group_rows form.ModRM_0x0fc7 =
    read (mem_at 1) RexW (Name CMPXCHG16B) (One M) (size 16) ∷
    read (mem_at 1) Always (Name CMPXCHG8B) (One M) (size 8) ∷
    refusal (both_at 1) Always BadOperand AtModRM ∷
    refusal both F2 BadOperand AtModRM ∷
    read (mem_at 6) With66 (Name VMCLEAR) (One M) (size 8) ∷
    read reg With66 (by_reg none none none none none none RDRAND RDSEED) (One (U W)) (size 0) ∷
    refusal (mem_at 7) With66 BadOpcode AfterAddress ∷
    refusal both With66 BadOpcode AtModRM ∷
    read (mem_at 6) F3 (Name VMXON) (One M) (size 8) ∷
    read reg F3 (by_reg none none none none none none SENDUIPI RDPID) (One (U Q)) (size 0) ∷
    refusal (mem_at 7) F3 BadOperand AfterAddress ∷
    refusal both F3 BadOpcode AtModRM ∷
    read mem RexW (by_reg none none none XRSTORS64 XSAVEC64 XSAVES64 none none) (One M) undecided ∷
    read mem Always (by_reg none none none XRSTORS XSAVEC XSAVES none none) (One M) undecided ∷
    read mem Always (by_reg none none none none none none VMPTRLD VMPTRST) (One M) (size 8) ∷
    read reg Always (by_reg none none none none none none RDRAND RDSEED) (One (U V)) (size 0) ∷
    otherwise BadOperand AtModRM ∷ []
-- AMD APM volume 4, EXTRQ and INSERTQ
group_rows form.ModRM_0x660f78 =
    read (reg_at 0) Always (Name EXTRQ) (Three (U X) U8 X8) (size 0) ∷
    otherwise BadOperand AtModRM ∷ []
group_rows form.ModRM_0xf20f78 =
    read reg Always (Name INSERTQ) (Four (G X) (U X) U8 X8) (size 0) ∷
    otherwise BadOperand AtModRM ∷ []
-- Intel SDM volume 2, ENDBR32 and ENDBR64
group_rows form.ModRM_0xf30f1e =
    read (reg_rm 7 2) Always (Name ENDBR64) Zero (size 0) ∷
    read (reg_rm 7 3) Always (Name ENDBR32) Zero (size 0) ∷
    read both Always (Name NOP) (Two (E V) (G V)) size_v ∷ []
-- the one-byte map: group 1
group_rows form.ModRM_0x80 = read both Always (by_reg ADD OR ADC SBB AND SUB XOR CMP) (Two (E B) I8) (size 1) ∷ []
group_rows form.ModRM_0x81 = read both Always (by_reg ADD OR ADC SBB AND SUB XOR CMP) (Two (E V) Iv) size_v ∷ []
group_rows form.ModRM_0x83 = read both Always (by_reg ADD OR ADC SBB AND SUB XOR CMP) (Two (E V) I8) size_v ∷ []
-- group 1A. Another reg is not built
group_rows form.ModRM_0x8f =
    read (both_at 0) With66 (Name POP) (One (E V)) size_v ∷
    read (both_at 0) Always (Name POP) (One (E V)) (or_v (Bytes 8)) ∷
    otherwise Incomplete AfterAddress ∷ []
-- group 2
group_rows form.ModRM_0xc0 = read both Always (by_reg ROL ROR RCL RCR SHL SHR SAL SAR) (Two (E B) I8) (size 1) ∷ []
group_rows form.ModRM_0xc1 = read both Always (by_reg ROL ROR RCL RCR SHL SHR SAL SAR) (Two (E V) I8) size_v ∷ []
group_rows form.ModRM_0xd0 = read both Always (by_reg ROL ROR RCL RCR SHL SHR SAL SAR) (Two (E B) signed_one) (size 1) ∷ []
group_rows form.ModRM_0xd1 = read both Always (by_reg ROL ROR RCL RCR SHL SHR SAL SAR) (Two (E V) signed_one) size_v ∷ []
group_rows form.ModRM_0xd2 = read both Always (by_reg ROL ROR RCL RCR SHL SHR SAL SAR) (Two (E B) cl) (size 1) ∷ []
group_rows form.ModRM_0xd3 = read both Always (by_reg ROL ROR RCL RCR SHL SHR SAL SAR) (Two (E V) cl) size_v ∷ []
-- group 11
group_rows form.ModRM_0xc6 =
    read (both_at 0) Always (Name MOV) (Two (E B) I8) (size 1) ∷
    read (rm_at 0) Always (Name XABORT) (One I8) (size 1) ∷
    otherwise BadOperand AfterAddress ∷ []
group_rows form.ModRM_0xc7 =
    read (both_at 0) Always (Name MOV) (Two (E V) Iv) size_v ∷
    read (rm_at 0) Always (Name XBEGIN) (One Jv) size_v ∷
    otherwise BadOperand AfterAddress ∷ []
-- group 3
group_rows form.ModRM_0xf6 =
    read both Always (by_reg TEST TEST none none none none none none) (Two (E B) I8) (size 1) ∷
    read both Always (by_reg none none NOT NEG MUL IMUL DIV IDIV) (One (E B)) (size 1) ∷ []
group_rows form.ModRM_0xf7 =
    read both Always (by_reg TEST TEST none none none none none none) (Two (E V) Iv) size_v ∷
    read both Always (by_reg none none NOT NEG MUL IMUL DIV IDIV) (One (E V)) size_v ∷ []
-- groups 4 and 5
group_rows form.ModRM_0xfe =
    read both Always (by_reg INC DEC none none none none none none) (One (E B)) (size 1) ∷
    otherwise BadOpcode AfterAddress ∷ []
group_rows form.ModRM_0xff =
    read both Always (by_reg INC DEC none none none none none none) (One (E V)) size_v ∷
    read (both_at 2) Always (Name CALL) (One (E Q)) (size 8) ∷
    read (mem_at 3) Always (Name CALLF) (One M) (size 10) ∷
    read (both_at 4) Always (Name JMP) (One (E Q)) (or_v (Bytes 8)) ∷
    read (mem_at 5) Always (Name JMPF) (One M) (size 10) ∷
    read (both_at 6) Always (Name PUSH) (One (E V)) size_vq ∷
    refusal (reg_at 3) Always BadOperand AtModRM ∷
    refusal (reg_at 5) Always BadOperand AtModRM ∷
    otherwise BadOpcode AfterAddress ∷ []
-- x87: Intel SDM volume 2, appendix A.5
group_rows form.x87_d8 =
    read mem Always (by_reg FADD FMUL FCOM FCOMP FSUB FSUBR FDIV FDIVR) (Two st0 M) (size 4) ∷
    read reg Always (by_reg FADD FMUL FCOM FCOMP FSUB FSUBR FDIV FDIVR) (Two st0 StRm) (size 0) ∷ []
group_rows form.x87_d9 =
    read (mem_at 0) Always (Name FLD) (Two st0 M) (size 4) ∷
    read (mem_at 2) Always (Name FST) (Two M st0) (size 4) ∷
    read (mem_at 3) Always (Name FSTP) (Two M st0) (size 4) ∷
    read mem Always (by_reg none none none none FLDENV none FNSTENV none) (One M) undecided ∷
    read mem Always (by_reg none none none none none FLDCW none FNSTCW) (One M) (size 2) ∷
    read reg Always (by_reg FLD FXCH none none none none none none) (Two st0 StRm) (size 0) ∷
    read (reg_rm 2 0) Always (Name FNOP) Zero (size 0) ∷
    read (reg_at 3) Always (Name FSTPNCE) (Two StRm st0) (size 0) ∷
    read (reg_at 4) Always (by_rm FCHS FABS none none FTST FXAM none none) Zero (size 0) ∷
    read (reg_at 5) Always (by_rm FLD1 FLDL2T FLDL2E FLDPI FLDLG2 FLDLN2 FLDZ none) Zero (size 0) ∷
    read (reg_at 6) Always (by_rm F2XM1 FYL2X FPTAN FPATAN FXTRACT FPREM1 FDECSTP FINCSTP) Zero (size 0) ∷
    read (reg_at 7) Always (by_rm FPREM FYL2XP1 FSQRT FSINCOS FRNDINT FSCALE FSIN FCOS) Zero (size 0) ∷
    otherwise BadOpcode AtModRM ∷ []
group_rows form.x87_da =
    read mem Always (by_reg FIADD FIMUL FICOM FICOMP FISUB FISUBR FIDIV FIDIVR) (Two st0 M) (size 4) ∷
    read reg Always (by_reg FCMOVB FCMOVE FCMOVBE FCMOVU none none none none) (Two st0 StRm) (size 0) ∷
    read (reg_rm 5 1) Always (Name FUCOMPP) Zero (size 0) ∷
    otherwise BadOpcode AtModRM ∷ []
group_rows form.x87_db =
    read (mem_at 0) Always (Name FILD) (Two st0 M) (size 4) ∷
    read mem Always (by_reg none FISTTP FIST FISTP none none none none) (Two M st0) (size 4) ∷
    read (mem_at 5) Always (Name FLD) (Two st0 M) (size 10) ∷
    read (mem_at 7) Always (Name FSTP) (Two M st0) (size 10) ∷
    read reg Always (by_reg FCMOVNB FCMOVNE FCMOVNBE FCMOVNU none FUCOMI FCOMI none) (Two st0 StRm) (size 0) ∷
    read (reg_at 4) Always (by_rm FENI8087_NOP FDISI8087_NOP FNCLEX FNINIT FSETPM287_NOP none none none) Zero (size 0) ∷
    otherwise BadOpcode AtModRM ∷ []
group_rows form.x87_dc =
    read mem Always (by_reg FADD FMUL FCOM FCOMP FSUB FSUBR FDIV FDIVR) (Two st0 M) (size 8) ∷
    read reg Always (by_reg none none FCOM FCOMP none none none none) (Two st0 StRm) (size 0) ∷
    read reg Always (by_reg FADD FMUL none none FSUBR FSUB FDIVR FDIV) (Two StRm st0) (size 0) ∷ []
group_rows form.x87_dd =
    read (mem_at 0) Always (Name FLD) (Two st0 M) (size 8) ∷
    read mem Always (by_reg none FISTTP FST FSTP none none none none) (Two M st0) (size 8) ∷
    read mem Always (by_reg none none none none FRSTOR none FNSAVE none) (One M) undecided ∷
    read (mem_at 7) Always (Name FNSTSW) (One M) (size 2) ∷
    read (reg_at 0) Always (Name FFREE) (One StRm) (size 0) ∷
    read reg Always (by_reg none FXCH none none FUCOM FUCOMP none none) (Two st0 StRm) (size 0) ∷
    read reg Always (by_reg none none FST FSTP none none none none) (Two StRm st0) (size 0) ∷
    otherwise BadOpcode AtModRM ∷ []
group_rows form.x87_de =
    read mem Always (by_reg FIADD FIMUL FICOM FICOMP FISUB FISUBR FIDIV FIDIVR) (Two st0 M) (size 2) ∷
    read (reg_at 2) Always (Name FCOMP) (Two st0 StRm) (size 0) ∷
    read (reg_rm 3 1) Always (Name FCOMPP) Zero (size 0) ∷
    read reg Always (by_reg FADDP FMULP none none FSUBRP FSUBP FDIVRP FDIVP) (Two StRm st0) (size 0) ∷
    otherwise BadOperand AtModRM ∷ []
group_rows form.x87_df =
    read (mem_at 0) Always (Name FILD) (Two st0 M) (size 2) ∷
    read mem Always (by_reg none FISTTP FIST FISTP none none none none) (Two M st0) (size 2) ∷
    read (mem_at 4) Always (Name FBLD) (Two st0 M) (size 10) ∷
    read (mem_at 5) Always (Name FILD) (Two st0 M) (size 8) ∷
    read (mem_at 6) Always (Name FBSTP) (Two M st0) (size 10) ∷
    read (mem_at 7) Always (Name FISTP) (Two M st0) (size 8) ∷
    read (reg_at 0) Always (Name FFREEP) (One StRm) (size 0) ∷
    read reg Always (by_reg none FXCH none none none FUCOMIP FCOMIP none) (Two st0 StRm) (size 0) ∷
    read reg Always (by_reg none none FSTP FSTP none none none none) (Two StRm st0) (size 0) ∷
    read (reg_rm 4 0) Always (Name FNSTSW) (One (U W)) (size 0) ∷
    otherwise BadOpcode AtModRM ∷ []
group_rows f = otherwise Incomplete AtModRM ∷ []
