-- How objdump writes each operation: its name, where that isn't the mnemonic in lower case, and six letters, where one of
-- them isn't a dash. tools/tables.py writes src/text/tables from this list.
--
-- The letters, in their order:
--   name      what follows the name or replaces it (Names)
--   shape     which operands are written, and how (Operands)
--   size      how W and 66 are read, where the opcode byte leaves it to the operation (Words)
--   memory    the size of memory, where the row has another (Sizes)
--   reg, rm   the size of the register that the field names, where the row has another (Sizes)
use Rattle.std.specs.Prelude.{ℕ, ◌+◌, ◌-◌, ◌==◌, ◌&&◌, Bool, if◌then◌else◌, List, [], ◌∷◌, ◌++◌, map, length, replicate, slice_index, codes, nat_le, take}
use Rattle.x86_opcodes.specs.Names as opcode
use Rattle.x86_opcodes.specs.Mnemonics.{mnemonic}
use Rattle.x86_objdump.specs.declared.text.names.Entry.{Entry}

-- an operation, the name of it or nothing where that is its mnemonic, and its letters
pub record EntryRow : Type 0 where
  pub opcode : ℕ
  pub name : List ℕ
  pub letters : List ℕ

abbrev row : ℕ → List ℕ → List ℕ → EntryRow
row opcode name letters = record { opcode = opcode; name = name; letters = letters }

abbrev pub rows : List EntryRow
rows =
    row opcode.PUSH [] (codes "s-zppp") ∷
    row opcode.POP [] (codes "s-zppp") ∷
    row opcode.MOVSXD [] (codes "----vd") ∷
    row opcode.INS [] (codes "-s----") ∷
    row opcode.OUTS [] (codes "-s----") ∷
    row opcode.JO [] (codes "-j----") ∷
    row opcode.JNO [] (codes "-j----") ∷
    row opcode.JB [] (codes "-j----") ∷
    row opcode.JNB (codes "jae") (codes "-j----") ∷
    row opcode.JZ (codes "je") (codes "-j----") ∷
    row opcode.JNZ (codes "jne") (codes "-j----") ∷
    row opcode.JNA (codes "jbe") (codes "-j----") ∷
    row opcode.JA [] (codes "-j----") ∷
    row opcode.JS [] (codes "-j----") ∷
    row opcode.JNS [] (codes "-j----") ∷
    row opcode.JP [] (codes "-j----") ∷
    row opcode.JNP [] (codes "-j----") ∷
    row opcode.JL [] (codes "-j----") ∷
    row opcode.JGE [] (codes "-j----") ∷
    row opcode.JLE [] (codes "-j----") ∷
    row opcode.JG [] (codes "-j----") ∷
    row opcode.XCHG [] (codes "kr----") ∷
    row opcode.MOV [] (codes "kkv---") ∷
    row opcode.LEA [] (codes "---0--") ∷
    row opcode.WAIT (codes "fwait") (codes "------") ∷
    row opcode.PUSHF [] (codes "w-----") ∷
    row opcode.POPF [] (codes "w-----") ∷
    row opcode.MOVS [] (codes "-s----") ∷
    row opcode.CMPS [] (codes "-s----") ∷
    row opcode.STOS [] (codes "-s----") ∷
    row opcode.LODS [] (codes "-s----") ∷
    row opcode.SCAS [] (codes "-s----") ∷
    row opcode.RETURN (codes "ret") (codes "w-----") ∷
    row opcode.ENTER [] (codes "we----") ∷
    row opcode.LEAVE [] (codes "w-----") ∷
    row opcode.RETF (codes "retf") (codes "q-----") ∷
    row opcode.INT [] (codes "ki----") ∷
    row opcode.XLAT [] (codes "-x----") ∷
    row opcode.LOOPNZ (codes "loopne") (codes "-j----") ∷
    row opcode.LOOPZ (codes "loope") (codes "-j----") ∷
    row opcode.LOOP [] (codes "-j----") ∷
    row opcode.JMP [] (codes "-Jzp-p") ∷
    row opcode.JRCXZ [] (codes "-j----") ∷
    row opcode.CALL [] (codes "-Jzp-p") ∷
    row opcode.LAR [] (codes "----vv") ∷
    row opcode.LSL [] (codes "----vv") ∷
    row opcode.SYSRET [] (codes "d-----") ∷
    row opcode.WBINVD [] (codes "k-----") ∷
    row opcode.NOP [] (codes "kh-h-v") ∷
    row opcode.SYSEXIT [] (codes "d-----") ∷
    row opcode.CMOVNB (codes "cmovae") (codes "------") ∷
    row opcode.CMOVZ (codes "cmove") (codes "------") ∷
    row opcode.CMOVNZ (codes "cmovne") (codes "------") ∷
    row opcode.CMOVNA (codes "cmovbe") (codes "------") ∷
    row opcode.SETZ (codes "sete") (codes "------") ∷
    row opcode.SETNZ (codes "setne") (codes "------") ∷
    row opcode.BT [] (codes "---v-v") ∷
    row opcode.BTS [] (codes "---v-v") ∷
    row opcode.BTR [] (codes "---v-v") ∷
    row opcode.BTC [] (codes "---v-v") ∷
    row opcode.UD1 [] (codes "---vvv") ∷
    row opcode.LSS [] (codes "---f--") ∷
    row opcode.LFS [] (codes "---f--") ∷
    row opcode.LGS [] (codes "---f--") ∷
    row opcode.UD0 [] (codes "---vvv") ∷
    row opcode.CVTTPS2PI [] (codes "---8--") ∷
    row opcode.CVTPS2PI [] (codes "---8--") ∷
    row opcode.MOVMSKPS [] (codes "----y-") ∷
    row opcode.MOVD (codes "mov") (codes "d-yy-y") ∷
    row opcode.CMPPS [] (codes "cc----") ∷
    row opcode.MOVNTI [] (codes "---y--") ∷
    row opcode.PINSRW [] (codes "-----d") ∷
    row opcode.PEXTRW [] (codes "----et") ∷
    row opcode.PMOVMSKB [] (codes "----y-") ∷
    row opcode.MOVMSKPD [] (codes "----y-") ∷
    row opcode.CMPPD [] (codes "cc----") ∷
    row opcode.EXTRQ [] (codes "-2----") ∷
    row opcode.CVTSI2SS [] (codes "--yy--") ∷
    row opcode.CVTTSS2SI [] (codes "--y-y-") ∷
    row opcode.CVTSS2SI [] (codes "--y-y-") ∷
    row opcode.CMPSS [] (codes "cc----") ∷
    row opcode.CVTSI2SD [] (codes "--yy--") ∷
    row opcode.CVTTSD2SI [] (codes "--y-y-") ∷
    row opcode.CVTSD2SI [] (codes "--y-y-") ∷
    row opcode.CMPSD [] (codes "cc----") ∷
    row opcode.INSERTQ [] (codes "-2----") ∷
    row opcode.LDDQU [] (codes "---0--") ∷
    row opcode.MOVBE [] (codes "--u---") ∷
    row opcode.SHA256RNDS2 [] (codes "-m----") ∷
    row opcode.WRSS [] (codes "d--0y-") ∷
    row opcode.MOVDIRI [] (codes "---y--") ∷
    row opcode.PBLENDVB [] (codes "-m----") ∷
    row opcode.BLENDVPS [] (codes "-m----") ∷
    row opcode.BLENDVPD [] (codes "-m----") ∷
    row opcode.INVEPT [] (codes "---o--") ∷
    row opcode.INVVPID [] (codes "---o--") ∷
    row opcode.INVPCID [] (codes "---0--") ∷
    row opcode.WRUSS [] (codes "d--0y-") ∷
    row opcode.ADCX [] (codes "---yyy") ∷
    row opcode.MOVDIR64B [] (codes "---0a-") ∷
    row opcode.ADOX [] (codes "---yyy") ∷
    row opcode.ENQCMDS [] (codes "---0a-") ∷
    row opcode.CRC32 [] (codes "--bbyb") ∷
    row opcode.ENQCMD [] (codes "---0a-") ∷
    row opcode.PCLMULQDQ [] (codes "pc----") ∷
    row opcode.PCMPESTRM [] (codes "i-----") ∷
    row opcode.PCMPESTRI [] (codes "i-----") ∷
    row opcode.PEXTRB [] (codes "-----d") ∷
    row opcode.EXTRACTPS [] (codes "-----d") ∷
    row opcode.PEXTRD (codes "pextr") (codes "d--y-y") ∷
    row opcode.PINSRB [] (codes "-----d") ∷
    row opcode.PINSRD (codes "pinsr") (codes "d--y-y") ∷
    row opcode.AESDEC128KL [] (codes "---0--") ∷
    row opcode.AESDEC256KL [] (codes "---0--") ∷
    row opcode.AESDECWIDE128KL [] (codes "---0--") ∷
    row opcode.AESDECWIDE256KL [] (codes "---0--") ∷
    row opcode.AESENC128KL [] (codes "---0--") ∷
    row opcode.AESENC256KL [] (codes "---0--") ∷
    row opcode.AESENCWIDE128KL [] (codes "---0--") ∷
    row opcode.AESENCWIDE256KL [] (codes "---0--") ∷
    row opcode.CALLF (codes "call") (codes "--af--") ∷
    row opcode.CLFLUSH [] (codes "---1--") ∷
    row opcode.CLFLUSHOPT [] (codes "---1--") ∷
    row opcode.CLWB [] (codes "---1--") ∷
    row opcode.CMPXCHG16B [] (codes "--yo--") ∷
    row opcode.CMPXCHG8B [] (codes "--y8--") ∷
    row opcode.DEC [] (codes "--v---") ∷
    row opcode.F2XM1 [] (codes "-f----") ∷
    row opcode.FABS [] (codes "-f----") ∷
    row opcode.FADD [] (codes "-f----") ∷
    row opcode.FADDP [] (codes "-f----") ∷
    row opcode.FBLD [] (codes "-f----") ∷
    row opcode.FBSTP [] (codes "-f----") ∷
    row opcode.FCHS [] (codes "-f----") ∷
    row opcode.FCMOVB [] (codes "-f----") ∷
    row opcode.FCMOVBE [] (codes "-f----") ∷
    row opcode.FCMOVE [] (codes "-f----") ∷
    row opcode.FCMOVNB [] (codes "-f----") ∷
    row opcode.FCMOVNBE [] (codes "-f----") ∷
    row opcode.FCMOVNE [] (codes "-f----") ∷
    row opcode.FCMOVNU [] (codes "-f----") ∷
    row opcode.FCMOVU [] (codes "-f----") ∷
    row opcode.FCOM [] (codes "-l----") ∷
    row opcode.FCOMI [] (codes "-f----") ∷
    row opcode.FCOMIP [] (codes "-f----") ∷
    row opcode.FCOMP [] (codes "-l----") ∷
    row opcode.FCOMPP [] (codes "-f----") ∷
    row opcode.FCOS [] (codes "-f----") ∷
    row opcode.FDECSTP [] (codes "-f----") ∷
    row opcode.FDISI8087_NOP (codes "fndisi") (codes "8f----") ∷
    row opcode.FDIV [] (codes "-f----") ∷
    row opcode.FDIVP [] (codes "-f----") ∷
    row opcode.FDIVR [] (codes "-f----") ∷
    row opcode.FDIVRP [] (codes "-f----") ∷
    row opcode.FENI8087_NOP (codes "fneni") (codes "8f----") ∷
    row opcode.FFREE [] (codes "-t----") ∷
    row opcode.FFREEP [] (codes "-t----") ∷
    row opcode.FIADD [] (codes "-f----") ∷
    row opcode.FICOM [] (codes "-f----") ∷
    row opcode.FICOMP [] (codes "-f----") ∷
    row opcode.FIDIV [] (codes "-f----") ∷
    row opcode.FIDIVR [] (codes "-f----") ∷
    row opcode.FILD [] (codes "-f----") ∷
    row opcode.FIMUL [] (codes "-f----") ∷
    row opcode.FINCSTP [] (codes "-f----") ∷
    row opcode.FIST [] (codes "-f----") ∷
    row opcode.FISTP [] (codes "-f----") ∷
    row opcode.FISTTP [] (codes "-f----") ∷
    row opcode.FISUB [] (codes "-f----") ∷
    row opcode.FISUBR [] (codes "-f----") ∷
    row opcode.FLD [] (codes "-l----") ∷
    row opcode.FLD1 [] (codes "-f----") ∷
    row opcode.FLDCW [] (codes "-f----") ∷
    row opcode.FLDENV [] (codes "efa0--") ∷
    row opcode.FLDL2E [] (codes "-f----") ∷
    row opcode.FLDL2T [] (codes "-f----") ∷
    row opcode.FLDLG2 [] (codes "-f----") ∷
    row opcode.FLDLN2 [] (codes "-f----") ∷
    row opcode.FLDPI [] (codes "-f----") ∷
    row opcode.FLDZ [] (codes "-f----") ∷
    row opcode.FMUL [] (codes "-f----") ∷
    row opcode.FMULP [] (codes "-f----") ∷
    row opcode.FNCLEX [] (codes "-f----") ∷
    row opcode.FNINIT [] (codes "-f----") ∷
    row opcode.FNOP [] (codes "-f----") ∷
    row opcode.FNSAVE [] (codes "efa0--") ∷
    row opcode.FNSTCW [] (codes "-f----") ∷
    row opcode.FNSTENV [] (codes "efa0--") ∷
    row opcode.FNSTSW [] (codes "-w----") ∷
    row opcode.FPATAN [] (codes "-f----") ∷
    row opcode.FPREM [] (codes "-f----") ∷
    row opcode.FPREM1 [] (codes "-f----") ∷
    row opcode.FPTAN [] (codes "-f----") ∷
    row opcode.FRNDINT [] (codes "-f----") ∷
    row opcode.FRSTOR [] (codes "efa0--") ∷
    row opcode.FSCALE [] (codes "-f----") ∷
    row opcode.FSETPM287_NOP (codes "fnsetpm") (codes "2f----") ∷
    row opcode.FSIN [] (codes "-f----") ∷
    row opcode.FSINCOS [] (codes "-f----") ∷
    row opcode.FSQRT [] (codes "-f----") ∷
    row opcode.FST [] (codes "-t----") ∷
    row opcode.FSTP [] (codes "-t----") ∷
    row opcode.FSTPNCE (codes "fstp") (codes "-t----") ∷
    row opcode.FSUB [] (codes "-f----") ∷
    row opcode.FSUBP [] (codes "-f----") ∷
    row opcode.FSUBR [] (codes "-f----") ∷
    row opcode.FSUBRP [] (codes "-f----") ∷
    row opcode.FTST [] (codes "-f----") ∷
    row opcode.FUCOM [] (codes "-l----") ∷
    row opcode.FUCOMI [] (codes "-f----") ∷
    row opcode.FUCOMIP [] (codes "-f----") ∷
    row opcode.FUCOMP [] (codes "-l----") ∷
    row opcode.FUCOMPP [] (codes "-f----") ∷
    row opcode.FXAM [] (codes "-f----") ∷
    row opcode.FXCH [] (codes "-l----") ∷
    row opcode.FXRSTOR [] (codes "x-y0--") ∷
    row opcode.FXSAVE [] (codes "x-y0--") ∷
    row opcode.FXTRACT [] (codes "-f----") ∷
    row opcode.FYL2X [] (codes "-f----") ∷
    row opcode.FYL2XP1 [] (codes "-f----") ∷
    row opcode.INC [] (codes "--v---") ∷
    row opcode.INCSSP [] (codes "d-y---") ∷
    row opcode.INVLPG [] (codes "---1--") ∷
    row opcode.INVLPGA [] (codes "-n----") ∷
    row opcode.INVLPGB [] (codes "-n----") ∷
    row opcode.IRET (codes "iret") (codes "q-----") ∷
    row opcode.IRETD (codes "iret") (codes "q-----") ∷
    row opcode.IRETQ (codes "iret") (codes "q-----") ∷
    row opcode.JECXZ [] (codes "-j----") ∷
    row opcode.JMPF (codes "jmp") (codes "--af--") ∷
    row opcode.LGDT [] (codes "---0--") ∷
    row opcode.LIDT [] (codes "---0--") ∷
    row opcode.MONITORX [] (codes "k-----") ∷
    row opcode.PEXTRQ (codes "pextr") (codes "d--y-y") ∷
    row opcode.PINSRQ (codes "pinsr") (codes "d--y-y") ∷
    row opcode.PREFETCH0 (codes "prefetcht0") (codes "---1--") ∷
    row opcode.PREFETCH1 (codes "prefetcht1") (codes "---1--") ∷
    row opcode.PREFETCH2 (codes "prefetcht2") (codes "---1--") ∷
    row opcode.PREFETCHNTA [] (codes "---1--") ∷
    row opcode.PREFETCHW [] (codes "k--1--") ∷
    row opcode.PTWRITE [] (codes "--yy-y") ∷
    row opcode.RDFSBASE [] (codes "--v--v") ∷
    row opcode.RDGSBASE [] (codes "--v--v") ∷
    row opcode.RDPRU [] (codes "kn----") ∷
    row opcode.RDRAND [] (codes "--u--v") ∷
    row opcode.RDSEED [] (codes "--u--v") ∷
    row opcode.RMPADJUST [] (codes "k-----") ∷
    row opcode.SAL (codes "shl") (codes "------") ∷
    row opcode.SGDT [] (codes "---0--") ∷
    row opcode.SIDT [] (codes "---0--") ∷
    row opcode.SKINIT [] (codes "-n----") ∷
    row opcode.SLDT [] (codes "--r--v") ∷
    row opcode.SMSW [] (codes "--r--v") ∷
    row opcode.STR [] (codes "--r--v") ∷
    row opcode.TPAUSE [] (codes "--y-yy") ∷
    row opcode.UMONITOR [] (codes "----aa") ∷
    row opcode.UMWAIT [] (codes "--y-yy") ∷
    row opcode.VMLOAD [] (codes "-n----") ∷
    row opcode.VMMCALL [] (codes "k-----") ∷
    row opcode.VMRUN [] (codes "-n----") ∷
    row opcode.VMSAVE [] (codes "-n----") ∷
    row opcode.WRFSBASE [] (codes "--v--v") ∷
    row opcode.WRGSBASE [] (codes "--v--v") ∷
    row opcode.XBEGIN [] (codes "-jz---") ∷
    row opcode.XRSTOR [] (codes "x-y0--") ∷
    row opcode.XRSTORS [] (codes "x-y0--") ∷
    row opcode.XRSTORS64 (codes "xrstors") (codes "x-y0--") ∷
    row opcode.XSAVE [] (codes "x-y0--") ∷
    row opcode.XSAVEC [] (codes "x-y0--") ∷
    row opcode.XSAVEC64 (codes "xsavec") (codes "x-y0--") ∷
    row opcode.XSAVEOPT [] (codes "x-y0--") ∷
    row opcode.XSAVES [] (codes "x-y0--") ∷
    row opcode.XSAVES64 (codes "xsaves") (codes "x-y0--") ∷
    []

-- a letter in lower case
abbrev pub lower : ℕ → ℕ
lower byte = if nat_le 65 byte && nat_le byte 90 then byte + 32 else byte

-- a text in a block of sixteen bytes
abbrev pub in_block : List ℕ → List ℕ
in_block text = text ++ replicate (16 - length text) 32

abbrev pub entry_with : List ℕ → List ℕ → Entry
entry_with name letters = record { bytes = in_block name; len = length name; letters = letters }

-- the name in a row, or the mnemonic in lower case
abbrev pub name_or : List ℕ → List ℕ → List ℕ
name_or [] spelled = map lower spelled
name_or (b ∷ bs) spelled = b ∷ bs

-- the entry of an operation with this mnemonic
abbrev pub entry_in : List EntryRow → ℕ → List ℕ → Entry
entry_in [] opcode spelled = entry_with (map lower spelled) (codes "------")
entry_in (r ∷ rs) opcode spelled = if r.opcode == opcode then entry_with (name_or r.name spelled) r.letters else entry_in rs opcode spelled

unfoldable pub entry_for : ℕ → Entry
entry_for opcode = entry_in rows opcode (mnemonic opcode)

-- the parts of an entry
abbrev pub stem : Entry → List ℕ
stem e = take e.len e.bytes

abbrev pub name_letter : Entry → ℕ
name_letter e = slice_index e.letters 0

abbrev pub shape_letter : Entry → ℕ
shape_letter e = slice_index e.letters 1

abbrev pub own_size : Entry → ℕ
own_size e = slice_index e.letters 2

abbrev pub memory_letter : Entry → ℕ
memory_letter e = slice_index e.letters 3

abbrev pub reg_letter : Entry → ℕ
reg_letter e = slice_index e.letters 4

abbrev pub rm_letter : Entry → ℕ
rm_letter e = slice_index e.letters 5
