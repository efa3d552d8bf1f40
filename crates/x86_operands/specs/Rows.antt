-- The plain forms: a row a line. The first row that is there counts. The letters are those of the Intel SDM, volume 2,
-- appendix A.2: G and E are the operands of ModRM's reg and rm, M and U that of rm in its memory and its register form, I an immediate,
-- Z the register of the opcode byte, A the accumulator. The columns: where (bare without ModRM, mem the memory forms of
-- ModRM, reg the register forms, both; at a reg), the prefixes, the name, the operands, and the memory size (of the memory
-- form, and of the register form). A form with one row whose name is that of the opcode map has a word for where.
-- specs/Words.antt has the words, specs/Columns.antt what they mean, and specs/RowSteps.antt what the letters mean.
use Rattle.std.specs.Prelude.{List, [], ◌∷◌}
use Rattle.x86_opcodes.specs.Names.{CBW, CDQ, CDQE, CQO, CWD, CWDE, ENQCMD, ENQCMDS, IRET, IRETD, IRETQ, JECXZ, LFS, LGS, LSS, MOVQ, NOP}
use Rattle.x86_opcodes.specs.Names.{PEXTRD, PEXTRQ, PINSRD, PINSRQ}
use Rattle.x86_fields.specs.declared.sizes.Width.TheVariants.{B, W, D, Q, X, V, Vq, Vd, Dq}
use Rattle.x86_operands.specs.Vocabulary.{Form, BadOperand, Incomplete, SetsEs}
use Rattle.x86_operands.specs.RowVocabulary.{TemplateRow, Own, Name}
use Rattle.x86_forms.specs.declared.Form.TheVariants as form
use Rattle.x86_operands.specs.declared.vocabulary.RegisterSlot.TheVariants.{Reg, Rm, Third}
use Rattle.x86_operands.specs.declared.vocabulary.PointerSlot.TheVariants.{Deref, DerefEsi, DerefEdi, DerefRsi, DerefRdi}
use Rattle.x86_regs.specs.declared.RegisterClass.TheVariants as class
use Rattle.x86_operands.specs.declared.sizing.Size.TheVariants.{FarPointer, Bare, Call, Return, Duplicate, Stream, Scalar, Extract, Insert, Unpack, Extend}
use Rattle.x86_operands.specs.declared.vocabulary.OperandEncoding.TheVariants.{E, G, Gmm, Emm, Sr, A, I8, U8, U16, I32, Iv, Ivq, Ip, X16, Offset}
use Rattle.x86_operands.specs.declared.vocabulary.OperandEncoding.TheVariants.{Source, Destination, At, Implied}
use Rattle.x86_operands.specs.declared.rows.When.TheVariants.{Always, With66, With67, RexW, RexR, Register0, Opcode}
use Rattle.x86_operands.specs.Words.{bare, mem, reg, both, both_at, both_from, Zero, One, Two, Three, M, U, Umm, Z, unsigned_one, three}
use Rattle.x86_operands.specs.Words.{Bytes, of_dq, size, size_of}
use Rattle.x86_operands.specs.Words.{size_v, size_dq, or_v, read, changing, refusal, otherwise, AtModRM, AfterAddress, named_by_v}
use Rattle.x86_operands.specs.Words.{without_modrm, with_modrm, with_memory, with_register}

-- of the plain forms none is left to the last line, for groups
unfoldable pub form_rows : Form → List TemplateRow
-- no ModRM: the register of the opcode byte, immediates, and nothing
form_rows (form.Zv_R n) = without_modrm (One (Z Reg Vq)) (size 8)
form_rows (form.Zb_Ib_R n) = without_modrm (Two (Z Reg B) U8) (size 0)
form_rows (form.Zv_Ivq_R n) = without_modrm (Two (Z Reg V) Ivq) (size 0)
form_rows (form.Zv_B n) = without_modrm (One (Z Reg V)) (size 0)
form_rows form.Nothing = without_modrm Zero (size_of Bare)
form_rows form.Ibs = without_modrm (One I8) (size 0)
form_rows form.Jvds = without_modrm (One I32) (size_of Call)
form_rows form.PushIbs = without_modrm (One I8) (size 8)
form_rows form.PushIvs = without_modrm (One Ip) (size 8)
form_rows form.Ib = without_modrm (One U8) (size 0)
form_rows form.I_3 = without_modrm (One three) (size 0)
form_rows form.I_1 = without_modrm (One unsigned_one) (size 0)
form_rows form.Iw = without_modrm (One U16) (size_of Return)
form_rows form.AH = without_modrm Zero (size 0)
form_rows form.AL_Ibs = without_modrm (Two (A B) I8) (size 0)
form_rows form.AX_Ivd = without_modrm (Two (A V) Iv) (size 0)
form_rows form.AL_Ib = without_modrm (Two (A B) U8) (size 0)
form_rows form.AX_Ib = without_modrm (Two (A Vd) U8) (size 0)
form_rows form.Ib_AL = without_modrm (Two U8 (A B)) (size 0)
form_rows form.Ib_AX = without_modrm (Two U8 (A Vd)) (size 0)
-- XCHG with the accumulator, and names by the prefixes
form_rows (form.Zv_AX_R n) =
    read bare Register0 (Name NOP) Zero (size 0) ∷
    read bare Always Own (Two (A V) (Z Rm V)) (size 0) ∷ []
form_rows form.CVT_AA = named_by_v CBW CWDE CDQE
form_rows form.CVT_DA = named_by_v CWD CDQ CQO
form_rows form.Fw = named_by_v IRET IRETD IRETQ
form_rows form.CXZ =
    read bare With67 (Name JECXZ) (One I8) (size 0) ∷
    read bare Always Own (One I8) (size 0) ∷ []
form_rows form.FS = without_modrm (One (Implied Reg 4 class.S)) (size 8)
form_rows form.GS = without_modrm (One (Implied Reg 5 class.S)) (size 8)
form_rows form.Iw_Ib = without_modrm (Two X16 U8) (size 8)
-- ports, absolute addresses and strings; 67 doesn't shorten those of INS and OUTS
form_rows form.AL_DX = without_modrm (Two (A B) (Implied Rm 2 class.W)) (size 0)
form_rows form.AX_DX = without_modrm (Two (A Vd) (Implied Rm 2 class.W)) (size 0)
form_rows form.DX_AL = without_modrm (Two (Implied Rm 2 class.W) (A B)) (size 0)
form_rows form.DX_AX = without_modrm (Two (Implied Rm 2 class.W) (A Vd)) (size 0)
form_rows form.AL_Ob = without_modrm (Two (A B) Offset) (size 1)
form_rows form.AX_Ov = without_modrm (Two (A V) Offset) size_v
form_rows form.Ob_AL = without_modrm (Two Offset (A B)) (size 1)
form_rows form.Ov_AX = without_modrm (Two Offset (A V)) size_v
form_rows form.AL_Xb = without_modrm (Two (A B) Source) (size 1)
form_rows form.AX_Xv = without_modrm (Two (A V) Source) size_v
form_rows form.Yb_AL = changing SetsEs bare Always Own (Two Destination (A B)) (size 1) ∷ []
form_rows form.Yv_AX = changing SetsEs bare Always Own (Two Destination (A V)) size_v ∷ []
form_rows form.Yb_Xb =
    read bare With67 Own (Two (At DerefEdi 7 class.D) (At DerefEsi 6 class.D)) (size 1) ∷
    read bare Always Own (Two (At DerefRdi 7 class.Q) (At DerefRsi 6 class.Q)) (size 1) ∷ []
form_rows form.Yv_Xv =
    read bare With67 Own (Two (At DerefEdi 7 class.D) (At DerefEsi 6 class.D)) size_v ∷
    read bare Always Own (Two (At DerefRdi 7 class.Q) (At DerefRsi 6 class.Q)) size_v ∷ []
form_rows form.Yb_DX = without_modrm (Two (At Deref 7 class.Q) (Implied Reg 2 class.B)) (size 1)
form_rows form.Yv_DX =
    read bare With66 Own (Two (At Deref 7 class.Q) (Implied Reg 2 class.W)) (size 2) ∷
    read bare Always Own (Two (At Deref 7 class.Q) (Implied Reg 2 class.W)) (size 4) ∷ []
form_rows form.DX_Xb = without_modrm (Two (Implied Reg 2 class.B) (At Deref 6 class.Q)) (size 1)
form_rows form.DX_Xv =
    read bare With66 Own (Two (Implied Reg 2 class.W) (At Deref 6 class.Q)) (size 2) ∷
    read bare Always Own (Two (Implied Reg 2 class.W) (At Deref 6 class.Q)) (size 4) ∷ []
-- general registers
form_rows form.Eb_Gb = with_modrm (Two (E B) (G B)) (size 1)
form_rows form.Gb_Eb = with_modrm (Two (G B) (E B)) (size 1)
form_rows form.Ev_Gv = with_modrm (Two (E V) (G V)) size_v
form_rows form.Gv_Ev = with_modrm (Two (G V) (E V)) size_v
form_rows form.Gv_M = with_memory (Two (G V) M) size_v
form_rows form.M_Gv = with_memory (Two M (G V)) size_v
form_rows form.Eb_R0 = with_modrm (One (E B)) (size 1)
form_rows form.Ev = with_modrm (One (E V)) size_v
form_rows form.Gv_Eb = with_modrm (Two (G V) (E B)) (Bytes 1, Bytes 0)
form_rows form.Gv_Ew = with_modrm (Two (G V) (E W)) (Bytes 2, Bytes 0)
form_rows form.Gdq_Ed = with_modrm (Two (G Q) (E D)) (or_v (Bytes 4))
form_rows form.Gd_Ed = with_modrm (Two (G D) (E D)) (or_v (Bytes 4))
form_rows form.Gdq_Ev = with_modrm (Two (G Dq) (E V)) (or_v (Bytes 4))
form_rows form.Gv_Ev_Ib = with_modrm (Three (G V) (E V) I8) size_v
form_rows form.Gv_Ev_Iv = with_modrm (Three (G V) (E V) Iv) size_v
form_rows form.Ev_Gv_Ib = with_modrm (Three (E V) (G V) I8) size_v
form_rows form.Ev_Gv_CL = with_modrm (Three (E V) (G V) (Implied Third 1 class.B)) size_v
form_rows form.Gv_Ew_LAR = with_modrm (Two (G V) (E V)) (or_v (Bytes 2))
form_rows form.Gv_Ew_LSL = with_modrm (Two (G V) (E Vd)) (or_v (Bytes 2))
form_rows form.Mdq_Gdq = with_memory (Two M (G Dq)) size_dq
form_rows form.G_E_q = with_modrm (Two (G Q) (E Q)) (or_v (Bytes 8))
form_rows form.E_G_q = with_modrm (Two (E Q) (G Q)) (or_v (Bytes 8))
-- xmm registers
form_rows form.G_E_xmm = with_modrm (Two (G X) (E X)) (or_v Duplicate)
form_rows form.E_G_xmm = with_modrm (Two (E X) (G X)) (or_v (Bytes 16))
form_rows form.G_Ed_xmm = with_modrm (Two (G X) (E X)) (or_v (Bytes 4))
form_rows form.Ed_G_xmm = with_modrm (Two (E X) (G X)) (or_v (Bytes 4))
form_rows form.G_M_xmm = with_memory (Two (G X) M) (size 16)
form_rows form.M_G_xmm = with_memory (Two M (G X)) (size_of Stream)
form_rows form.G_E_xmm_Ib = with_modrm (Three (G X) (E X) I8) (or_v Scalar)
form_rows form.G_E_xmm_Ub = with_modrm (Three (G X) (E X) U8) (or_v (Bytes 16))
form_rows form.PMOVX_G_E_xmm = with_modrm (Two (G X) (E X)) (or_v Extend)
form_rows form.G_Mq_xmm = with_memory (Two (G X) M) (size 8)
form_rows form.PMOVX_E_G_xmm = with_modrm (Two (E X) (G X)) (or_v (Bytes 8))
form_rows form.MOVQ_f30f = with_modrm (Two (G X) (E X)) (or_v (Bytes 8))
form_rows form.Gdq_Eq_xmm = with_modrm (Two (G V) (E X)) (or_v (Bytes 8))
form_rows form.Gv_E_xmm = with_modrm (Two (G V) (E X)) (or_v (Bytes 4))
form_rows form.Gd_U_xmm = with_register (Two (G D) (U X)) size_v
form_rows form.G_U_xmm = with_register (Two (G X) (U X)) size_v
form_rows form.MASKMOVDQU = with_register (Two (G X) (U X)) (size 16)
form_rows form.G_U_xmm_Ub = with_register (Three (G D) (U X) U8) size_v
form_rows form.Ev_G_xmm_Ib = with_modrm (Three (E V) (G X) U8) (size_of Extract)
form_rows form.G_Ev_xmm_Ib = with_modrm (Three (G X) (E X) U8) (or_v Insert)
form_rows form.G_xmm_Ew_Ib = with_modrm (Three (G X) (E D) U8) (or_v (Bytes 2))
form_rows form.G_xmm_Edq = with_modrm (Two (G X) (E Dq)) size_v
-- mm registers
form_rows form.G_xmm_E_mm = with_modrm (Two (G X) Emm) (or_v (Bytes 8))
form_rows form.G_mm_E_xmm = with_modrm (Two Gmm (E X)) (or_v (Bytes 16))
form_rows form.G_xmm_U_mm = with_register (Two (G X) Umm) size_v
form_rows form.G_mm_U_xmm = with_register (Two Gmm (U X)) size_v
form_rows form.G_U_mm = with_register (Two (G D) Umm) size_v
form_rows form.G_E_mm = with_modrm (Two Gmm Emm) (or_v Unpack)
form_rows form.G_mm_E = with_modrm (Two Gmm Emm) (or_v (Bytes 8))
form_rows form.E_G_mm = with_modrm (Two Emm Gmm) (or_v (Bytes 8))
form_rows form.G_E_mm_Ib = with_modrm (Three Gmm Emm I8) (Bytes 8, Bytes 0)
form_rows form.G_mm_Edq = with_modrm (Two Gmm (E Dq)) size_v
form_rows form.Edq_G_mm = with_modrm (Two (E Dq) Gmm) (or_v of_dq)
form_rows form.G_Mq_mm = with_memory (Two M Gmm) (size 8)
form_rows form.G_mm_U_mm = with_register (Two Gmm Umm) (size 8)
form_rows form.G_mm_Ew_Ib = with_modrm (Three Gmm (E D) I8) (or_v (Bytes 2))
-- segment registers: there are six, and CS isn't loaded
form_rows form.Ew_Sw =
    refusal both RexR BadOperand AfterAddress ∷
    read (both_from 0 5) Always Own (Two (E D) Sr) (or_v (Bytes 2)) ∷
    otherwise BadOperand AfterAddress ∷ []
form_rows form.Sw_Ew =
    refusal both RexR BadOperand AfterAddress ∷
    refusal (both_at 1) Always BadOperand AfterAddress ∷
    read (both_from 0 5) Always Own (Two Sr (E W)) (or_v (Bytes 2)) ∷
    otherwise BadOperand AfterAddress ∷ []
-- far loads and other loads of whole registers, by the opcode
form_rows form.INV_Gv_M =
    read mem (Opcode LFS) Own (Two (G V) M) (size_of FarPointer) ∷
    read mem (Opcode LGS) Own (Two (G V) M) (size_of FarPointer) ∷
    read mem (Opcode LSS) Own (Two (G V) M) (size_of FarPointer) ∷
    read mem (Opcode ENQCMD) Own (Two (G Q) M) (size 64) ∷
    read mem (Opcode ENQCMDS) Own (Two (G Q) M) (size 64) ∷
    read mem Always Own (Two (G Q) M) (size 16) ∷
    otherwise BadOperand AtModRM ∷ []
form_rows form.MOVDIR64B =
    read mem With67 Own (Two (G D) M) (size 64) ∷
    read mem Always Own (Two (G Q) M) (size 64) ∷
    otherwise BadOperand AtModRM ∷ []
-- W names the operation
form_rows form.Pextr_dq =
    read both RexW (Name PEXTRQ) (Three (E V) (G X) U8) size_dq ∷
    read both Always (Name PEXTRD) (Three (E V) (G X) U8) size_dq ∷ []
form_rows form.Pinsr_dq =
    read both RexW (Name PINSRQ) (Three (G X) (E X) U8) (or_v of_dq) ∷
    read both Always (Name PINSRD) (Three (G X) (E X) U8) (or_v of_dq) ∷ []
form_rows form.Edq_G_xmm =
    read both RexW (Name MOVQ) (Two (E Dq) (G X)) (or_v of_dq) ∷
    read both Always Own (Two (E Dq) (G X)) (or_v of_dq) ∷ []
-- a memory form is refused after the immediate
form_rows form.Rv_Gmm_Ib =
    read reg Always Own (Three (G D) Umm U8) size_v ∷
    otherwise BadOperand (Three (G D) Umm U8) ∷ []
form_rows f = otherwise Incomplete AtModRM ∷ []
