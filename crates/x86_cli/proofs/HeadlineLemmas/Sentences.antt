-- A sentence of x86_decode is one in one record, and so is what decides an error.
use Rattle.std.proofs.Common.{◌≡◌, ◌↔◌, ℕ, Bool, true, false, List, [], ◌∷◌, ◌++◌, length, ◌+◌, ◌≤◌, Some, refl, sym, ap, ap₂, ◌∙◌, subst}
use Rattle.std.proofs.Common.{take, drop, arith, Option, None, is_some, ◌==◌, nat_lt}
use Rattle.std.proofs.lemmas.List.{take-append-drop}
use Rattle.x86_fields.specs.declared.errors.DecodeError.{DecodeError}
use Rattle.x86_fields.specs.declared.raw.Raw.{Raw}
use Rattle.x86_fields.specs.declared.prefixes.Prefixes.{Prefixes}
use Rattle.x86_fields.specs.ModRM.{is_memory, rm_field}
use Rattle.x86_fields.specs.Parts.{PartLists}
use Rattle.x86_fields.specs.Pieces.{option_bytes}
use Rattle.x86_fields.specs.Run.{reading_of}
use Rattle.x86_operands.specs.declared.places.Places.{Places}
use Rattle.x86_operands.specs.declared.vocabulary.Fault.{Fault}
use Rattle.x86_operands.specs.declared.reader.Reading.{Reading}
use Rattle.x86_operands.specs.Asks.{immediates_width, modrm_of}
use Rattle.x86_operands.specs.Pieces.{SpellsMemory, RefusesRow, modrm_width, suffix_width, opcode_by, reading_from}
use Rattle.x86_operands.specs.Records.{RowRecord, is_refusal, order_of}
use Rattle.x86_operands.specs.Templates.{has_address}
use Rattle.x86_operands.specs.declared.order.Position.{Position}
use Rattle.x86_groups.specs.Groups.{record_of}
use Rattle.x86_groups.proofs.AddressLemmas.{address_is}
use Rattle.x86_decode.specs.declared.instructions.Instruction.{Instruction}
use Rattle.x86_decode.specs.Instruction.{instruction_of}
use Rattle.x86_decode.specs.Head.{Rows, escape_bytes, seen_by}
use Rattle.x86_decode.specs.Grammar as was
use Rattle.x86_decode.specs.Grammar.{Whole, allows_lock, places_of}
use Rattle.x86_layout.specs.Parts.Split.{joined, sib_width}
use Rattle.x86_cli.specs.Sentences.{Encodes, HasErrorByBytes, case_1, case_2, case_3, case_4, HasError, by_bytes, case_5, part_ends}

-- the SIB of an address is as long as its ModRM says
pub sib_by : (m : ℕ) (sib : Option ℕ) (disp : List ℕ) → is_memory m ≡ true → is_some sib ≡ (rm_field m == 4) →
    length (take (sib_width m) (option_bytes sib ++ disp)) ≡ sib_width m
sib_by m None disp memory there = rw (memory, sym there) refl
sib_by m (Some b) disp memory there = rw (memory, sym there) refl

pub sib_long : (at : Position) (p : Prefixes) (m : ℕ) (bytes : List ℕ) (memory : Option Raw) → has_address at m ≡ is_memory m →
    SpellsMemory at p m bytes memory → length (take (sib_width m) bytes) ≡ sib_width m
sib_long at p m bytes None there h = rw (sym there ∙ h.0) refl
sib_long at p m bytes (Some raw) there h = rw h.1.spelled (sib_by m h.1.sib h.1.disp (sym there ∙ h.0) h.1.sib_present)

module _ (rows : Rows) (strict : Bool) where
  module _ (s : List ℕ) (reading : Reading) (w : Whole rows strict s reading) where
    -- the parts of a whole encoding
    abbrev pub parts_in : PartLists
    parts_in =
        let address = w.row_spelled.tail_spelled.pieces.address in
        let m = modrm_of (record_of strict w.row (seen_by w.map w.opcode (reading_of w.run))).modrm w.row_spelled.modrm in
        record {
          prefixes = w.run;
          escape = escape_bytes w.map;
          opcode = w.opcode ∷ [];
          modrm = w.row_spelled.modrm;
          sib = take (sib_width m) address;
          displacement = drop (sib_width m) address;
          immediate = w.row_spelled.tail_spelled.pieces.immediates;
          suffix = w.row_spelled.tail_spelled.pieces.suffix;
        }

    pub halves : parts_in.sib ++ parts_in.displacement ≡ w.row_spelled.tail_spelled.pieces.address
    halves = take-append-drop (sib_width (modrm_of (record_of strict w.row (seen_by w.map w.opcode (reading_of w.run))).modrm
        w.row_spelled.modrm)) w.row_spelled.tail_spelled.pieces.address

    pub ends : part_ends parts_in ≡ places_of rows strict s reading w
    ends = ap (λ a. record {
      opcode_end = length w.run + (length (escape_bytes w.map) + 1);
      address_end = length w.run + (length (escape_bytes w.map) + 1) + (length w.row_spelled.modrm + length a);
      has_suffix = nat_lt 0 (length w.row_spelled.tail_spelled.pieces.suffix);
    }) halves

    -- a whole encoding of at most 15 bytes in one record
    abbrev pub in_one : (lawful : Bool) (i : Instruction) → allows_lock reading ≡ lawful → length s ≤ 15 →
        i ≡ instruction_of reading (places_of rows strict s reading w) (length s) → Encodes rows strict lawful s i
    in_one lawful i lock short yields =
        let p = seen_by w.map w.opcode (reading_of w.run) in
        let r = record_of strict w.row p in
        let m = modrm_of r.modrm w.row_spelled.modrm in
        let t = w.row_spelled.tail_spelled in
        record {
          parts = parts_in;
          whole = w.spelled ∙ ap (λ t. w.run ++ (escape_bytes w.map ++ w.opcode ∷ t))
              (w.row_spelled.spelled ∙ ap (λ t. w.row_spelled.modrm ++ t) (t.pieces.spelled
              ∙ ap (λ a. a ++ (t.pieces.immediates ++ t.pieces.suffix)) (sym halves)));
          short = short;
          run = w.prefixes;
          opcode_map = w.map;
          escaped = refl;
          byte = w.opcode;
          opcode_is = refl;
          in_map = w.in_map;
          row = w.row;
          has_row = w.has_row;
          seen = p;
          sees = refl;
          made = r;
          makes = refl;
          passed = w.row_spelled.passed;
          modrm_length = w.row_spelled.modrm_length;
          modrm = m;
          has_modrm = refl;
          instance = r.instance m;
          has_instance = refl;
          accepted = t.accepted;
          memory = t.pieces.memory;
          address_spelled = subst (λ a. SpellsMemory (order_of (r.instance m)).rm p m a t.pieces.memory) (sym halves) t.pieces.address_spelled;
          sib_length = sib_long (order_of (r.instance m)).rm p m t.pieces.address t.pieces.memory
              (address_is strict w.row p w.row_spelled.modrm t.accepted) t.pieces.address_spelled;
          immediate_length = t.pieces.immediates_length;
          suffix_length = t.pieces.suffix_length;
          operation = t.opcode;
          named = t.named;
          reading = reading;
          reads = t.yields;
          locks = lock;
          yields = yields ∙ ap (λ e. instruction_of reading e (length s)) (sym ends);
        }

  module _ (lawful : Bool) (s : List ℕ) (i : Instruction) (f : Encodes rows strict lawful s i) where
    pub record_is : f.made ≡ record_of strict f.row (seen_by f.opcode_map f.byte (reading_of f.parts.prefixes))
    record_is = f.makes ∙ ap (λ p. record_of strict f.row p) f.sees

    pub modrm_is : f.modrm ≡ modrm_of (record_of strict f.row (seen_by f.opcode_map f.byte (reading_of f.parts.prefixes))).modrm f.parts.modrm
    modrm_is = f.has_modrm ∙ ap (λ r. modrm_of r.modrm f.parts.modrm) record_is

    pub instance_is : f.instance ≡ (let r = record_of strict f.row (seen_by f.opcode_map f.byte (reading_of f.parts.prefixes)) in
        r.instance (modrm_of r.modrm f.parts.modrm))
    instance_is = f.has_instance ∙ ap (λ m. f.made.instance m) f.has_modrm ∙ ap (λ r. r.instance (modrm_of r.modrm f.parts.modrm)) record_is

    -- the encoding that one record has
    abbrev pub whole_in : Whole rows strict s f.reading
    whole_in =
        let p = seen_by f.opcode_map f.byte (reading_of f.parts.prefixes) in
        let r = record_of strict f.row p in
        let m = modrm_of r.modrm f.parts.modrm in
        let address = f.parts.sib ++ f.parts.displacement in
        record {
          run = f.parts.prefixes;
          map = f.opcode_map;
          opcode = f.byte;
          row = f.row;
          tail = f.parts.modrm ++ (address ++ (f.parts.immediate ++ f.parts.suffix));
          spelled = f.whole ∙ ap₂ (λ e o. f.parts.prefixes
              ++ (e ++ (o ++ (f.parts.modrm ++ (address ++ (f.parts.immediate ++ f.parts.suffix)))))) f.escaped f.opcode_is;
          prefixes = f.run;
          in_map = f.in_map;
          has_row = f.has_row;
          row_spelled = record {
            modrm = f.parts.modrm;
            tail = address ++ (f.parts.immediate ++ f.parts.suffix);
            passed = subst (λ r. r.at_opcode ≡ None) record_is f.passed;
            spelled = refl;
            modrm_length = subst (λ r. length f.parts.modrm ≡ modrm_width r.modrm) record_is f.modrm_length;
            tail_spelled = record {
              pieces = record {
                memory = f.memory;
                address = address;
                immediates = f.parts.immediate;
                suffix = f.parts.suffix;
                spelled = refl;
                address_spelled = subst (λ q. SpellsMemory (order_of q).rm p m address f.memory) instance_is
                    (subst (λ p. SpellsMemory (order_of f.instance).rm p m address f.memory) f.sees
                    (subst (λ m. SpellsMemory (order_of f.instance).rm f.seen m address f.memory) modrm_is f.address_spelled));
                immediates_length = subst (λ q. length f.parts.immediate ≡ immediates_width q) instance_is f.immediate_length;
                suffix_length = subst (λ q. length f.parts.suffix ≡ suffix_width q.verdict) instance_is f.suffix_length;
              };
              opcode = f.operation;
              named = subst (λ q. opcode_by q.verdict q.opcode f.parts.suffix ≡ Some f.operation) instance_is f.named;
              accepted = subst (λ q. is_refusal q.verdict ≡ false) instance_is f.accepted;
              yields = subst (λ q. f.reading ≡ reading_from q p m f.operation f.memory f.parts.immediate) instance_is
                  (subst (λ p. f.reading ≡ reading_from f.instance p m f.operation f.memory f.parts.immediate) f.sees
                  (subst (λ m. f.reading ≡ reading_from f.instance f.seen m f.operation f.memory f.parts.immediate) modrm_is f.reads));
            };
          };
        }

    pub yields_by : i ≡ instruction_of f.reading (places_of rows strict s f.reading whole_in) (length s)
    yields_by = f.yields ∙ ap₂ (λ e o. instruction_of f.reading (record {
      opcode_end = length f.parts.prefixes + (length e + length o);
      address_end = length f.parts.prefixes + (length e + length o) + (length f.parts.modrm + length (f.parts.sib ++ f.parts.displacement));
      has_suffix = nat_lt 0 (length f.parts.suffix);
    }) (length s)) f.escaped f.opcode_is

  abbrev pub to : (s : List ℕ) (i : Instruction) → was.IsSentence rows strict s i → Encodes rows strict true s i
  to s i is = in_one s is.reading is.whole true i is.lock is.short is.yields

  abbrev pub back : (s : List ℕ) (i : Instruction) → Encodes rows strict true s i → was.IsSentence rows strict s i
  back s i f = record { reading = f.reading; whole = whole_in true s i f; lock = f.locks; short = f.short; yields = yields_by true s i f }

  bytes_to : (q : List ℕ) (e : DecodeError) → was.DecidesByBytes rows strict q e → HasErrorByBytes rows strict q e
  bytes_to q e (was.case_1 c) = case_1 c.run c.byte c.spelled c.prefixes c.vex
  bytes_to q e (was.case_2 c) = case_2 c.run c.map c.opcode c.spelled c.prefixes c.in_map c.no_row
  bytes_to q e (was.case_3 fault c) = case_3 c.run c.map c.opcode c.row c.tail _ fault c.spelled c.prefixes c.in_map c.has_row refl c.refuses
  bytes_to q e (was.case_4 c) =
      case_4 (instruction_of c.reading (places_of rows strict q c.reading c.whole) (length q)) (in_one q c.reading c.whole false _ c.locked c.short refl)

  bytes_back : (q : List ℕ) (e : DecodeError) → HasErrorByBytes rows strict q e → was.DecidesByBytes rows strict q e
  bytes_back q e (case_1 run byte spelled prefixes vex) = was.case_1 (record { run = run; byte = byte; spelled = spelled; prefixes = prefixes; vex = vex })
  bytes_back q e (case_2 run opcode_map byte spelled prefixes in_map none) =
      was.case_2 (record { run = run; map = opcode_map; opcode = byte; spelled = spelled; prefixes = prefixes; in_map = in_map; no_row = none })
  bytes_back q e (case_3 run opcode_map byte row tail seen fault spelled prefixes in_map has_row sees refuses) =
      was.case_3 fault (record {
        run = run;
        map = opcode_map;
        opcode = byte;
        row = row;
        tail = tail;
        spelled = spelled;
        prefixes = prefixes;
        in_map = in_map;
        has_row = has_row;
        refuses = subst (λ p. RefusesRow (record_of strict row p) p tail fault) sees refuses;
      })
  bytes_back q e (case_4 i f) = was.case_4 (record { reading = f.reading; whole = whole_in false q i f; short = f.short; locked = f.locks })

  pub error_to : (q : List ℕ) (e : DecodeError) → was.Decides rows strict q e → HasError rows strict q e
  error_to q e (was.by_bytes d) = by_bytes (bytes_to q e d)
  error_to q e (was.case_5 t) = case_5 t.long (λ s rest i h f. t.no_sentence s rest i h (back s i f))
      (λ s rest e h d. t.undecided s rest e h (bytes_back s e d))

  pub error_back : (q : List ℕ) (e : DecodeError) → HasError rows strict q e → was.Decides rows strict q e
  error_back q e (by_bytes d) = was.by_bytes (bytes_back q e d)
  error_back q e (case_5 long sentence decided) =
      was.case_5 (record {
        long = long;
        no_sentence = λ s rest i h is. sentence s rest i h (to s i is);
        undecided = λ s rest e h d. decided s rest e h (bytes_to s e d);
      })

  pub same_sentences : (s : List ℕ) (i : Instruction) → was.IsSentence rows strict s i ↔ Encodes rows strict true s i
  same_sentences s i = (to s i, back s i)

  pub same_errors : (q : List ℕ) (e : DecodeError) → was.Decides rows strict q e ↔ HasError rows strict q e
  same_errors q e = (error_to q e, error_back q e)
