-- The derivations of worked sentences and refusals.
use Rattle.std.proofs.Common.{arith, ap, subst, ◌∙◌, ◌<◌, zero, suc, replicate, ◌≡◌, ◌≢◌, ◌≤◌, ℕ, Bool, true, false, List, [], ◌∷◌, ◌++◌}
use Rattle.std.proofs.Common.{Option, Some, None, pos, Ok, Err, length, refl, sym, append-nil}
use mathlib.Core.Bool.{true≢false}
use Rattle.x86_fields.specs.declared.errors.DecodeError.{DecodeError}
use Rattle.x86_fields.specs.declared.errors.DecodeError.TheVariants.{ExhaustedInput, IncompleteDecoder, InvalidOpcode, InvalidOperand, InvalidPrefixes, TooLong}
use Rattle.x86_fields.specs.declared.prefixes.Prefixes.{Prefixes}
use Rattle.x86_fields.specs.declared.raw.Raw.{Raw}
use Rattle.x86_fields.specs.Parts.{PartLists}
use Rattle.x86_fields.specs.Run.{reading_of}
use Rattle.x86_forms.specs.declared.Map.{Map}
use Rattle.x86_forms.specs.declared.Map.TheVariants.{One, Of, Of38, Of3a}
use Rattle.x86_forms.specs.declared.Column.TheVariants.{Plain, P66}
use Rattle.x86_forms.specs.declared.Form.TheVariants.{Gv_M, Ev_Gv, Gv_Ev, G_E_xmm, ModRM_0xf7}
use Rattle.x86_forms.specs.declared.TableRow.{TableRow}
use Rattle.x86_forms.specs.Rows.{printed_row}
use Rattle.x86_opcodes.specs.Names.{Invalid, ADD, LEA, MOV, PSHUFB}
use Rattle.x86_operands.specs.declared.vocabulary.Fault.TheVariants.{BadOperand}
use Rattle.x86_operands.specs.declared.vocabulary.Verdict.TheVariants.{Accepts}
use Rattle.x86_operands.specs.declared.reader.Reading.{Reading}
use Rattle.x86_operands.specs.Records.{order_of}
use Rattle.x86_operands.specs.declared.vocabulary.ModrmUse.TheVariants.{EitherForm}
use Rattle.x86_operands.specs.Asks.{immediates_width}
use Rattle.x86_operands.specs.Forms.{form_instance, form_record, modrm_use}
use Rattle.x86_operands.specs.Rows.{form_rows}
use Rattle.x86_operands.specs.Pieces.{SpellsMemory, past_opcode, reading_from}
use Rattle.x86_groups.proofs.AddressLemmas.{refuses_at_once}
use Rattle.x86_operands.specs.Operands.{shape}
use Rattle.x86_groups.specs.Rows.{group_rows}
use Rattle.x86_groups.specs.Groups.{group_instance, group_record, record_of}
use Rattle.x86_decode.specs.declared.instructions.Instruction.{Instruction}
use Rattle.x86_decode.specs.Answer.{answer_of}
use Rattle.x86_decode.specs.Grammar.{allows_lock}
use Rattle.x86_decode.specs.Head.{column_of, escape_bytes, is_opcode, is_run, is_vex, seen_by}
use Rattle.x86_decode.specs.Instruction.{instruction_of}
use Rattle.x86_layout.specs.declared.parts.fields.Fields.{Fields}
use Rattle.x86_layout.specs.Parts.Fields.{lists_in}
use Rattle.x86_layout.specs.Parts.Permitted.{IsPermitted}
use Rattle.x86_layout.specs.Parts.Split.{joined, sib_width}
use Rattle.x86_layout.specs.Tightening.Least.{least_length}
use Rattle.x86_cli.specs.Functions.{functions}
use Rattle.x86_cli.specs.Headline.{AreRelatives, Headline, IsByteString, Sentence}
use Rattle.x86_cli.specs.Sentences.{HasError, HasErrorByBytes, Encodes, by_bytes, case_1, case_2, case_3, case_4, case_5, part_ends}
use Rattle.x86_cli.proofs.HeadlineLemmas.Fields.{is_permitted, permits}
use Rattle.x86_cli.proofs.HeadlineLemmas.Sentences.{whole_in}
use Rattle.x86_cli.specs.Worked.{add_parts, no_row_parts, add_rax_rbx, mov_rax_at_rbp, neg_eax, add_at_rbx_rax, places_at, pshufb_xmm0_xmm1, add_eax_ebx}

-- An encoding with ModRM and without an immediate: a run, the opcode byte of a row, ModRM, and the SIB and displacement
-- of its memory operand.
module _ (strict : Bool) (run : List ℕ) (in_map : Map) (opcode : ℕ) (row : TableRow) (m : ℕ) (sib displacement : List ℕ) (memory : Option Raw) where
  abbrev pub parts_at : PartLists
  parts_at = record {
    prefixes = run;
    escape = escape_bytes in_map;
    opcode = opcode ∷ [];
    modrm = m ∷ [];
    sib = sib;
    displacement = displacement;
    immediate = [];
    suffix = [];
  }

  abbrev pub sentence_of : (lawful : Bool) (reading : Reading) → let p = seen_by in_map opcode (reading_of run) in let r =
      record_of strict row p in let instance = r.instance m in
      let s = run ++ (escape_bytes in_map ++ opcode ∷ m ∷ (sib ++ displacement)) in
      is_run run ≡ true → is_opcode in_map opcode ≡ true → printed_row in_map (column_of (reading_of run)) opcode ≡ Some row →
      r.at_opcode ≡ None → r.modrm ≡ EitherForm →
      instance.verdict ≡ Accepts → immediates_width instance ≡ 0 → SpellsMemory (order_of instance).rm p m (sib ++ displacement) memory →
      length sib ≡ sib_width m →
      reading ≡ reading_from instance p m instance.opcode memory [] → allows_lock reading ≡ lawful → length s ≤ 15 →
      Encodes printed_row strict lawful s (instruction_of reading (part_ends parts_at) (length s))
  sentence_of lawful reading prefixes is_opcode has_row passed modrm accepts none spelled long reads locks short =
      let p = seen_by in_map opcode (reading_of run) in
      let r = record_of strict row p in
      record {
        parts = parts_at;
        whole = ap (λ a. run ++ (escape_bytes in_map ++ opcode ∷ m ∷ a)) (sym (append-nil (sib ++ displacement)));
        short = short;
        run = prefixes;
        opcode_map = in_map;
        escaped = refl;
        byte = opcode;
        opcode_is = refl;
        in_map = is_opcode;
        row = row;
        has_row = has_row;
        seen = p;
        sees = refl;
        made = r;
        makes = refl;
        passed = passed;
        modrm_length = rw modrm refl;
        modrm = m;
        has_modrm = rw modrm refl;
        instance = r.instance m;
        has_instance = refl;
        accepted = rw accepts refl;
        memory = memory;
        address_spelled = spelled;
        sib_length = long;
        immediate_length = sym none;
        suffix_length = rw accepts refl;
        operation = (r.instance m).opcode;
        named = rw accepts refl;
        reading = reading;
        reads = reads;
        locks = locks;
        yields = refl;
      }

-- what ModRM says of memory, without SIB, B and a displacement
abbrev at_register : ℕ → Raw
at_register m = record { rex_b = false; rex_x = false; address_size = false; modrm = m; sib = None; disp = pos 0 }

module _ (strict : Bool) where
  abbrev Here : List ℕ → Instruction → Type 0
  Here s i = Sentence printed_row strict s i

  -- the run 48, no escape, the opcode byte 01 and its row, ModRM d8, and nothing after it
  pub add_sentence : Here (0x48 ∷ 0x01 ∷ 0xd8 ∷ []) (instruction_of add_rax_rbx (places_at 2 3) 3)
  unfolding form_record form_instance form_rows modrm_use printed_row
  add_sentence = sentence_of strict (0x48 ∷ []) One 0x01 (record { opcode = ADD; form = Ev_Gv }) 0xd8 [] [] None true add_rax_rbx
      refl refl refl refl refl refl refl (refl, refl) refl refl refl (omega arith)

  -- the run 48, no escape, the opcode byte 8b and its row, ModRM 45, and a displacement of one byte
  pub load_sentence : Here (0x48 ∷ 0x8b ∷ 0x45 ∷ 0x00 ∷ []) (instruction_of mov_rax_at_rbp (places_at 2 4) 4)
  unfolding form_record form_instance form_rows modrm_use printed_row shape
  load_sentence = sentence_of strict (0x48 ∷ []) One 0x8b (record { opcode = MOV; form = Gv_Ev }) 0x45 [] (0x00 ∷ [])
      (Some (at_register 0x45)) true mov_rax_at_rbp
      refl refl refl refl refl refl refl (
        refl,
        record {
          sib = None;
          disp = 0x00 ∷ [];
          spelled = refl;
          sib_present = refl;
          disp_length = refl;
          fields = refl;
        },
      ) refl refl refl (omega arith)

  -- the same with a displacement of four bytes
  pub long_load_sentence : Here (0x48 ∷ 0x8b ∷ 0x85 ∷ 0x00 ∷ 0x00 ∷ 0x00 ∷ 0x00 ∷ []) (instruction_of mov_rax_at_rbp (places_at 2 7) 7)
  unfolding form_record form_instance form_rows modrm_use printed_row shape
  long_load_sentence = sentence_of strict (0x48 ∷ []) One 0x8b (record { opcode = MOV; form = Gv_Ev }) 0x85 []
      (0x00 ∷ 0x00 ∷ 0x00 ∷ 0x00 ∷ []) (Some (at_register 0x85)) true mov_rax_at_rbp
      refl refl refl refl refl refl refl (
        refl,
        record {
          sib = None;
          disp = 0x00 ∷ 0x00 ∷ 0x00 ∷ 0x00 ∷ [];
          spelled = refl;
          sib_present = refl;
          disp_length = refl;
          fields = refl;
        },
      ) refl refl refl (omega arith)

  -- no run, no escape, the opcode byte f7 and its row, ModRM d8, whose reg chooses NEG, and nothing after it
  pub group_sentence : Here (0xf7 ∷ 0xd8 ∷ []) (instruction_of neg_eax (places_at 1 2) 2)
  unfolding group_record group_instance group_rows printed_row
  group_sentence = sentence_of strict [] One 0xf7 (record { opcode = Invalid; form = ModRM_0xf7 }) 0xd8 [] [] None true neg_eax
      refl refl refl refl refl refl refl (refl, refl) refl refl refl (omega arith)

  -- the run f0 48, no escape, the opcode byte 01 and its row, ModRM 03, and nothing after it
  pub locked_add_sentence : Here (0xf0 ∷ 0x48 ∷ 0x01 ∷ 0x03 ∷ []) (instruction_of add_at_rbx_rax (places_at 3 4) 4)
  unfolding form_record form_instance form_rows modrm_use printed_row shape
  locked_add_sentence = sentence_of strict (0xf0 ∷ 0x48 ∷ []) One 0x01 (record { opcode = ADD; form = Ev_Gv }) 0x03 [] []
      (Some (at_register 0x03)) true add_at_rbx_rax
      refl refl refl refl refl refl refl (
        refl,
        record {
          sib = None;
          disp = [];
          spelled = refl;
          sib_present = refl;
          disp_length = refl;
          fields = refl;
        },
      ) refl refl refl (omega arith)

  -- the run 66, the escape 0f 38, the opcode byte 00 and its row, ModRM c1, and nothing after it
  pub chosen_by_66_sentence : Here (0x66 ∷ 0x0f ∷ 0x38 ∷ 0x00 ∷ 0xc1 ∷ []) (instruction_of pshufb_xmm0_xmm1 (places_at 4 5) 5)
  unfolding form_record form_instance form_rows modrm_use printed_row
  chosen_by_66_sentence = sentence_of strict (0x66 ∷ []) Of38 0x00 (record { opcode = PSHUFB; form = G_E_xmm }) 0xc1 [] [] None true pshufb_xmm0_xmm1
      refl refl refl refl refl refl refl (refl, refl) refl refl refl (omega arith)

  abbrev Errs : List ℕ → DecodeError → Type 0
  Errs q e = HasError printed_row strict q e

  -- no run, and c5: an AVX encoding
  pub vex_errs : Errs (0xc5 ∷ []) IncompleteDecoder
  vex_errs = by_bytes (case_1 [] 0xc5 refl refl refl)

  -- the run 66, and c4
  pub vex_after_66_errs : Errs (0x66 ∷ 0xc4 ∷ []) InvalidPrefixes
  vex_after_66_errs = by_bytes (case_1 (0x66 ∷ []) 0xc4 refl refl refl)

  -- no run, no escape, and the opcode byte 06
  pub no_row_errs : Errs (0x06 ∷ []) InvalidOpcode
  unfolding printed_row
  no_row_errs = by_bytes (case_2 [] One 0x06 refl refl refl refl)

  -- no run, no escape, the opcode byte 8d and its row, and ModRM c0: the address of a register
  pub no_memory_errs : Errs (0x8d ∷ 0xc0 ∷ []) InvalidOperand
  unfolding form_record form_instance form_rows modrm_use printed_row
  no_memory_errs = by_bytes (case_3 [] One 0x8d (record { opcode = LEA; form = Gv_M }) (0xc0 ∷ []) _ BadOperand refl refl refl refl refl
      (past_opcode (0xc0 ∷ []) [] refl refl refl (refuses_at_once _ _ _ _ refl refl refl)))

  -- the run f0, no escape, the opcode byte 01 and its row, ModRM d8, and nothing after it: F0 before an operation that takes it, whose first slot is a register
  pub forbidden_lock_errs : Errs (0xf0 ∷ 0x01 ∷ 0xd8 ∷ []) InvalidPrefixes
  unfolding form_record form_instance form_rows modrm_use printed_row
  forbidden_lock_errs = by_bytes (case_4 _ (sentence_of strict (0xf0 ∷ []) One 0x01 (record { opcode = ADD; form = Ev_Gv }) 0xd8 [] [] None false add_eax_ebx
      refl refl refl refl refl refl refl (refl, refl) refl refl refl (omega arith)))

-- what the two clauses of a law say of a sentence
abbrev Headlines : Type 0
Headlines = (strict : Bool) → Headline printed_row strict (functions strict)

pub worked : Headlines → (s : List ℕ) (i : Instruction) → ((strict : Bool) → Sentence printed_row strict s i) →
    record { sentence : (strict : Bool) → Sentence printed_row strict s i; answer : (strict : Bool) (rest : List ℕ) → answer_of strict (s ++ rest) ≡ Ok i }
worked h s i is = record { sentence = is; answer = λ strict rest. ((h strict).answers (s ++ rest) (Ok i) (λ same. cc)).1 (s, rest, refl, is strict) }

-- the same of bytes that have an error
pub erring : Headlines → (q : List ℕ) (e : DecodeError) → e ≢ ExhaustedInput → length q ≤ 15 → ((strict : Bool) → HasError printed_row strict q e) →
    record { has : (strict : Bool) → HasError printed_row strict q e; answer : (strict : Bool) (rest : List ℕ) → answer_of strict (q ++ rest) ≡ Err e }
erring h q e differs short is = record {
  has = is;
  answer = λ strict rest. ((h strict).answers (q ++ rest) (Err e) (λ same. differs cc)).1 (q, rest, refl, (short, is strict));
}

-- ---- fifteen times 66

abbrev Are66 : List ℕ → Type 0
Are66 [] = Unit {0}
Are66 (x ∷ xs) = (x ≡ 0x66) × Are66 xs

left_of : (xs ys : List ℕ) → Are66 (xs ++ ys) → Are66 xs
left_of [] ys h = tt
left_of (x ∷ xs) ys h = (h.0, left_of xs ys h.1)

right_of : (xs ys : List ℕ) → Are66 (xs ++ ys) → Are66 ys
right_of [] ys h = h
right_of (x ∷ xs) ys h = right_of xs ys h.1

-- 66 is no escape, and no opcode byte
no_opcode : (in_map : Map) (byte : ℕ) (tail : List ℕ) → Are66 (escape_bytes in_map ++ byte ∷ tail) → is_opcode in_map byte ≡ true → ⊥
no_opcode One byte tail h is = true≢false (sym is ∙ ap (is_opcode One) h.0)
no_opcode Of byte tail h is = absurd (omega (arith, h.0))
no_opcode Of38 byte tail h is = absurd (omega (arith, h.0))
no_opcode Of3a byte tail h is = absurd (omega (arith, h.0))

module _ (strict : Bool) where
  no_sentence : (lawful : Bool) (s : List ℕ) (i : Instruction) → Encodes printed_row strict lawful s i → Are66 s → ⊥
  no_sentence lawful s i f h =
      let w = whole_in printed_row strict lawful s i f in
      no_opcode w.map w.opcode w.tail (right_of w.run (escape_bytes w.map ++ w.opcode ∷ w.tail) (subst Are66 w.spelled h)) w.in_map

  no_error : (q : List ℕ) (e : DecodeError) → HasErrorByBytes printed_row strict q e → Are66 q → ⊥
  no_error q e (case_1 run byte spelled prefixes vex) h = true≢false (sym vex ∙ ap is_vex (right_of run (byte ∷ []) (subst Are66 spelled h)).0)
  no_error q e (case_2 run in_map byte spelled prefixes is none) h =
      no_opcode in_map byte [] (right_of run (escape_bytes in_map ++ byte ∷ []) (subst Are66 spelled h)) is
  no_error q e (case_3 run in_map byte row tail seen fault spelled prefixes is has_row sees refuses) h =
      no_opcode in_map byte tail (right_of run (escape_bytes in_map ++ byte ∷ tail) (subst Are66 spelled h)) is
  no_error q e (case_4 i f) h = no_sentence false q i f h

  pub too_long_errs : HasError printed_row strict (replicate 15 0x66) TooLong
  too_long_errs =
      let all : Are66 (replicate 15 0x66) = (
        refl,
        (
          refl,
          (refl, (refl, (refl, (refl, (refl, (refl, (refl, (refl, (refl, (refl, (refl, (refl, (refl, tt))))))))))))),
        ),
      ) in
      case_5 refl (λ s rest i e f. no_sentence true s i f (left_of s rest (subst Are66 e all)))
      (λ s rest error e d. no_error s error d (left_of s rest (subst Are66 e all)))

-- ---- fields, and a spelling that is shorter

abbrev AreBytes : List ℕ → Type 0
AreBytes [] = Unit {0}
AreBytes (x ∷ xs) = (x < 256) × AreBytes xs

bytes : (xs : List ℕ) → AreBytes xs → IsByteString xs
bytes [] h k d less = absurd (omega (arith, less))
bytes (x ∷ xs) h zero d less = h.0
bytes (x ∷ xs) h (suc k) d less = bytes xs h.1 k d (omega (arith, less))

module _ (strict : Bool) (h : Headline printed_row strict (functions strict)) where
  pub add_permitted : (f : Fields) → lists_in f ≡ add_parts → IsPermitted strict f
  unfolding add_sentence
  add_permitted f same = is_permitted strict f ((h.permitted f).1 (_, _, add_sentence strict, sym same))

  -- 06 has an error, and so it is no sentence
  pub no_row_refused : (f : Fields) → lists_in f ≡ no_row_parts → IsPermitted strict f → ⊥
  no_row_refused f same permitted =
      let (s, i, is, parts) = (h.permitted f).0 (permits strict f permitted) in
      let all : s ++ [] ≡ (0x06 ∷ []) ++ [] = append-nil s ∙ is.whole ∙ ap joined (parts ∙ same) in
      absurd (cc ((h.unique s [] (0x06 ∷ []) [] (Ok i) (Err InvalidOpcode) all is (omega arith, no_row_errs strict)).1))

  loads_are_relatives : AreRelatives printed_row strict (long_load_sentence strict) (load_sentence strict)
  unfolding long_load_sentence load_sentence
  loads_are_relatives = record {
    prefixes = refl;
    escape = refl;
    byte = refl;
    register = refl;
    immediate = refl;
    suffix = refl;
    from = at_register 0x85;
    to = at_register 0x45;
    old = refl;
    new = refl;
    same = record { modulus = refl; registers = λ r small. refl; next = refl; constant = refl };
  }

  pub load_least : least_length strict (0x48 ∷ 0x8b ∷ 0x85 ∷ 0x00 ∷ 0x00 ∷ 0x00 ∷ 0x00 ∷ []) ≤ 4
  unfolding long_load_sentence form_record form_instance form_rows modrm_use printed_row
  load_least =
      let of_bytes = bytes (0x48 ∷ 0x8b ∷ 0x85 ∷ 0x00 ∷ 0x00 ∷ 0x00 ∷ 0x00 ∷ [])
      (omega arith, (omega arith, (omega arith, (omega arith, (omega arith, (omega arith, (omega arith, tt))))))) in
      let others = bytes (0x48 ∷ 0x8b ∷ 0x45 ∷ 0x00 ∷ []) (omega arith, (omega arith, (omega arith, (omega arith, tt)))) in
      h.least _ _ _ _ (long_load_sentence strict) (load_sentence strict) 1 (at_register 0x85) (refl, refl) refl of_bytes others loads_are_relatives
