-- The parts of the encoding at the beginning of bytes: the pieces of any whole encoding there, and their lengths.
use Rattle.std.proofs.Common.{◌≡◌, ℕ, Bool, true, false, if◌then◌else◌, List, [], ◌∷◌, ◌++◌, length, slice_index, Option, Some, None, is_some}
use Rattle.std.proofs.Common.{refl, sym, ap, ◌∙◌, append_assoc, arith, take, Result, Ok, subst, ◌≤◌, length-append}
use Rattle.std.specs.List.{prefix_len}
use Rattle.std.proofs.lemmas.Bool.{cond_both}
use Rattle.x86_fields.specs.declared.errors.DecodeError.{DecodeError}
use Rattle.x86_fields.specs.declared.prefixes.Prefixes.{Prefixes}
use Rattle.x86_fields.specs.declared.raw.Raw.{Raw}
use Rattle.x86_fields.specs.Run.{is_prefix, reading_of}
use Rattle.x86_fields.specs.ModRM.{is_memory}
use Rattle.x86_fields.specs.Raw.{displacement_width}
use Rattle.x86_fields.specs.Pieces.{option_bytes, first_byte}
use Rattle.x86_operands.specs.declared.asks.Ask.{Ask}
use Rattle.x86_operands.specs.declared.reader.Reading.{Reading}
use Rattle.x86_operands.specs.Records.{RowRecord, order_of}
use Rattle.x86_operands.specs.Asks.{modrm_of, used_modrm, ask_of, immediates_width}
use Rattle.x86_operands.specs.Pieces.{SpellsMemory, SpellsRow}
use Rattle.x86_operands.specs.Templates.{has_address}
use Rattle.x86_operands.specs.declared.order.Position.{Position}
use Rattle.x86_operands.specs.declared.order.Position.TheVariants.{First}
use Rattle.x86_decode.specs.Head.{escape_bytes, seen_by}
use Rattle.x86_fields.specs.Parts.{PartLists, HasFieldLengths}
use Rattle.x86_layout.specs.Parts.Heads.{one_if}
use Rattle.x86_layout.specs.Parts.Split.{Encoding, record_in, sib_width, HasParts, IsFirstSentence, joined}
use Rattle.x86_layout.specs.Parts.OfBytes.{ask_by, ask_after_run, displacement_length_by, run_in, after_run, map_in, opcode_in, tail_in}
use Rattle.x86_layout.specs.Parts.OfBytes.{ask_in, modrm_in, sib_in, displacement_in, immediate_in, suffix_in, parts_of}
use Rattle.x86_layout.proofs.PartLemmas.Part.{cut_is, halves, run_length_is, map_is, as_it_is, read_as, modrm_count, sib_count}
use Rattle.x86_layout.proofs.PartLemmas.Part.{immediate_count, suffix_count, immediates_long}
use Rattle.x86_forms.specs.Words.{rows_of, packed}
use Rattle.x86_decode.specs.declared.instructions.Instruction.{Instruction}
use Rattle.x86_decode.specs.Grammar.{IsAccepted, IsAnswer, IsSentence}
use Rattle.x86_decode.specs.Answer.{answer_of, count_of}
use Rattle.x86_forms.specs.declared.TableRow.{TableRow}
use Rattle.x86_forms.specs.Groups.{is_group}
use Rattle.x86_operands.specs.Forms.{form_record}
use Rattle.x86_operands.proofs.PlainLemmas.{plain_narrow}
use Rattle.x86_groups.specs.Groups.{group_record, record_of}
use Rattle.x86_groups.proofs.AddressLemmas.{address_is}
use Rattle.x86_groups.proofs.GroupLemmas.{group_narrow}

-- ---- SIB and displacement

pub record AddressParts (m : ℕ) (address : List ℕ) : Type 0 where
  pub sib : List ℕ
  pub disp : List ℕ
  pub spelled : address ≡ sib ++ disp
  pub sib_long : length sib ≡ sib_width m
  pub disp_long : length disp ≡ (if is_memory m then displacement_width m (first_byte sib) else 0)

pub option_count : (o : Option ℕ) → length (option_bytes o) ≡ one_if (is_some o)
option_count o = grind arith

pub first_of : (o : Option ℕ) → first_byte (option_bytes o) ≡ o
first_of o = grind arith

address_parts : (at : Position) (p : Prefixes) (m : ℕ) (address : List ℕ) (memory : Option Raw) → has_address at m ≡ is_memory m →
    SpellsMemory at p m address memory → AddressParts m address
address_parts at p m address None there h =
    let is : is_memory m ≡ false = sym there ∙ h.0 in record { sib = []; disp = []; spelled = h.1; sib_long = cc is; disp_long = cc is }
address_parts at p m address (Some raw) there h =
    let is : is_memory m ≡ true = sym there ∙ h.0 in
    let s = h.1 in
    record {
      sib = option_bytes s.sib;
      disp = s.disp;
      spelled = s.spelled;
      sib_long = cc (option_count s.sib, s.sib_present, is);
      disp_long = cc (s.disp_length, first_of s.sib, is);
    }

-- so it is as where the operand of rm is the first one
pub as_first : (at : Position) (p : Prefixes) (m : ℕ) (address : List ℕ) (memory : Option Raw) → has_address at m ≡ is_memory m →
    SpellsMemory at p m address memory → SpellsMemory First p m address memory
as_first at p m address None there h = (sym there ∙ h.0, h.1)
as_first at p m address (Some raw) there h = (sym there ∙ h.0, h.1)

-- in a memory form that is read as such, the byte is used as it is
disp_by : (memory : Bool) (raw used : ℕ) (sib : Option ℕ) → (memory ≡ true → used ≡ raw) →
    (if memory then displacement_width raw sib else 0) ≡ (if memory then displacement_width used sib else 0)
disp_by memory raw used sib h = grind arith

-- ---- after the opcode byte

-- These lists are the pieces of a row.
pub record HoldsPieces (r : RowRecord) (p : Prefixes) (tail : List ℕ) (reading : Reading) (a : SpellsRow r p tail reading)
    (modrm_bytes sib_bytes displacement_bytes immediate_bytes suffix_bytes : List ℕ) : Type 0 where
  pub modrm : modrm_bytes ≡ a.modrm
  pub sib : length sib_bytes ≡ sib_width (modrm_of r.modrm a.modrm)
  pub address : sib_bytes ++ displacement_bytes ≡ a.tail_spelled.pieces.address
  pub immediate : immediate_bytes ≡ a.tail_spelled.pieces.immediates
  pub suffix : suffix_bytes ≡ a.tail_spelled.pieces.suffix

module _ {r : RowRecord} {p : Prefixes} {tail : List ℕ} {reading : Reading} (a : SpellsRow r p tail reading) where
  abbrev m : ℕ
  m = modrm_of r.modrm a.modrm

  -- the address is there in the memory form
  abbrev pub IsThere : Type 0
  IsThere = has_address (order_of (r.instance m)).rm m ≡ is_memory m

  -- SIB as long as it says tells how long the displacement is
  pub displacement_long : IsThere → (sib disp : List ℕ) → sib ++ disp ≡ a.tail_spelled.pieces.address → length sib ≡ sib_width m →
      length disp ≡ (if is_memory m then displacement_width m (first_byte sib) else 0)
  displacement_long there sib disp e h =
      let x = address_parts (order_of (r.instance m)).rm p m _ _ there a.tail_spelled.pieces.address_spelled in
      let same = halves sib disp x.sib x.disp (e ∙ x.spelled) (h ∙ sym x.sib_long) in
      cc (same.0, same.1, x.disp_long)

  module _ {all : List ℕ} (rest : List ℕ) (e : all ≡ tail ++ rest) {ask : Ask} (k : ask ≡ ask_of r (slice_index all 0)) where
    abbrev first : ℕ
    first = slice_index all 0

    begins : all ≡ a.modrm ++ (a.tail ++ rest)
    begins = e ∙ ap (λ l. l ++ rest) a.spelled ∙ append_assoc a.modrm a.tail rest

    width_is : IsThere → (sib : List ℕ) → displacement_length_by ask first sib ≡ (if is_memory m then displacement_width m (first_byte sib) else 0)
    unfolding ask_of
    width_is there sib =
        let u = r.modrm in
        cc (
          k,
          disp_by (is_memory (used_modrm u first)) first (used_modrm u first) (first_byte sib) (as_it_is u first),
          read_as a (a.tail ++ rest) begins,
          there,
        )

    pub has_tail : IsThere →
        HoldsPieces r p tail reading a (modrm_in ask all) (sib_in ask all) (displacement_in ask all) (immediate_in ask all) (suffix_in ask all)
    has_tail there =
        let more : List ℕ = a.tail ++ rest in
        let s = a.tail_spelled.pieces in
        let x = address_parts (order_of (r.instance m)).rm p m _ _ there s.address_spelled in
        let last : List ℕ = s.immediates ++ (s.suffix ++ rest) in
        let modrm = cut_is a.modrm more begins (modrm_count a more begins k) in
        let spelled : more ≡ x.sib ++ (x.disp ++ last) = ap (λ l. l ++ rest) s.spelled
        ∙ ap (λ l. (l ++ (s.immediates ++ s.suffix)) ++ rest) x.spelled ∙ simp append_assoc in
        let sib = cut_is x.sib (x.disp ++ last) (modrm.1 ∙ spelled) (sib_count a more begins k there ∙ sym x.sib_long) in
        let disp = cut_is x.disp last sib.1 (ap (displacement_length_by ask first) sib.0 ∙ width_is there x.sib ∙ sym x.disp_long) in
        let immediate = cut_is s.immediates (s.suffix ++ rest) disp.1 (immediate_count a more begins k) in
        let suffix = cut_is s.suffix rest immediate.1 (suffix_count a more begins k) in
        record { modrm = modrm.0; sib = ap length sib.0 ∙ x.sib_long; address = cc (sib.0, disp.0, x.spelled); immediate = immediate.0; suffix = suffix.0 }

-- ---- the whole encoding

-- What is up to the opcode byte and after it, and which parts the row has.
pub record HasHead (strict : Bool) (bytes s rest : List ℕ) (reading : Reading) (w : Encoding strict s reading) : Type 0 where
  pub prefixes : run_in bytes ≡ w.run
  pub after_prefixes : after_run bytes ≡ escape_bytes w.map ++ w.opcode ∷ (w.tail ++ rest)
  pub map : map_in bytes ≡ w.map
  pub opcode : opcode_in bytes ≡ w.opcode ∷ []
  pub tail : tail_in bytes ≡ w.tail ++ rest
  pub ask : ask_in bytes strict ≡ ask_of (record_in strict s reading w) (slice_index (tail_in bytes) 0)

pub has_head : {strict : Bool} {bytes s : List ℕ} (rest : List ℕ) {reading : Reading} (w : Encoding strict s reading) → bytes ≡ s ++ rest →
    HasHead strict bytes s rest reading w
has_head {strict = strict} {bytes = bytes} rest w begins =
    let tail' : List ℕ = w.tail ++ rest in
    let after_prefixes : List ℕ = escape_bytes w.map ++ w.opcode ∷ tail' in
    let spelled : bytes ≡ w.run ++ after_prefixes = begins ∙ ap (λ l. l ++ rest) w.spelled ∙ simp append_assoc in
    let run_n = ap (prefix_len is_prefix) spelled ∙ run_length_is w.run w.map w.opcode tail' w.prefixes w.in_map in
    let run = cut_is w.run after_prefixes spelled run_n in
    let map : map_in bytes ≡ w.map = cc (run.1, map_is w.map w.opcode tail' w.in_map) in
    let escape = cut_is (escape_bytes w.map) (w.opcode ∷ tail') run.1 (ap (λ x. length (escape_bytes x)) map) in
    let opcode = cut_is (w.opcode ∷ []) tail' escape.1 refl in
    let first : ℕ = slice_index (tail_in bytes) 0 in
    record {
      prefixes = run.0;
      after_prefixes = run.1;
      map = map;
      opcode = opcode.0;
      tail = opcode.1;
      ask =
          ap (λ q. ask_after_run strict q (map_in bytes) (slice_index (opcode_in bytes) 0) first) run.0
          ∙ ap (λ q. ask_after_run strict w.run q (slice_index (opcode_in bytes) 0) first) map
          ∙ ap (λ l. ask_after_run strict w.run w.map (slice_index l 0) first) opcode.0
          ∙ ap (λ o. ask_by strict o (seen_by w.map w.opcode (reading_of w.run)) first) w.has_row;
    }

-- SIB and displacement of an encoding are there in the memory form.
pub there_in : {strict : Bool} {s : List ℕ} {reading : Reading} (w : Encoding strict s reading) → IsThere w.row_spelled
there_in {strict = strict} w =
    address_is strict w.row (seen_by w.map w.opcode (reading_of w.run)) w.row_spelled.modrm w.row_spelled.tail_spelled.accepted

-- The parts of bytes that begin with a whole encoding are its pieces.
pub parts_are : {strict : Bool} {bytes s : List ℕ} (rest : List ℕ) {reading : Reading} (w : Encoding strict s reading) → bytes ≡ s ++ rest →
    HasParts strict s reading w (parts_of strict bytes)
unfolding parts_of
parts_are rest w begins =
    let h = has_head rest w begins in
    let t = has_tail w.row_spelled rest h.tail h.ask (there_in w) in
    let escape = ap escape_bytes h.map in
    assumption (h, t, escape)

-- The parts of an encoding together are the encoding.
pub joined_is : {strict : Bool} {s : List ℕ} {reading : Reading} {w : Encoding strict s reading} {p : PartLists} → HasParts strict s reading w p → joined p ≡ s
joined_is {w = w} h =
    let a = w.row_spelled in
    let t = a.tail_spelled.pieces in
    cc (h.prefixes, h.escape, h.opcode, h.modrm, h.address, h.immediate, h.suffix, w.spelled, a.spelled, t.spelled)

-- ---- a whole encoding has its parts once

abbrev lists : List ℕ → List ℕ → List ℕ → List ℕ → List ℕ → List ℕ → List ℕ → List ℕ → PartLists
lists a b c d e f g h = record { prefixes = a; escape = b; opcode = c; modrm = d; sib = e; displacement = f; immediate = g; suffix = h }

pub parts_once : {strict : Bool} {s : List ℕ} {reading : Reading} {w : Encoding strict s reading} {a b : PartLists} →
    HasParts strict s reading w a → HasParts strict s reading w b → a ≡ b
parts_once {a = a} {b = b} h k =
    let address = halves a.sib a.displacement b.sib b.displacement (h.address ∙ sym k.address) (h.sib ∙ sym k.sib) in
    let same : lists a.prefixes a.escape a.opcode a.modrm a.sib a.displacement a.immediate a.suffix ≡ lists b.prefixes b.escape b.opcode
    b.modrm b.sib b.displacement b.immediate b.suffix = cc (address.0, address.1) in
    same

-- ---- the sentence that accepted bytes begin with

abbrev pub Only : Bool → Type 0
Only strict = (xs : List ℕ) (r : Result Instruction DecodeError) (n : ℕ) → IsAnswer (rows_of packed) strict xs r n →
    (r ≡ answer_of strict xs) × (n ≡ count_of strict xs)

-- As many bytes as the instruction has are that sentence.
pub beginning_of : (strict : Bool) (bytes : List ℕ) {encoding : List ℕ} {instruction : Instruction} {n : ℕ} → Only strict →
    answer_of strict bytes ≡ Ok instruction → IsAnswer (rows_of packed) strict bytes (answer_of strict bytes) (count_of strict bytes) →
    instruction.length ≡ count_of strict bytes → n ≡ instruction.length → encoding ≡ take n bytes → IsFirstSentence strict bytes encoding instruction
beginning_of strict bytes {encoding = encoding} {instruction = i} only value answer counted long beginning =
    let first = subst (λ r. IsAnswer (rows_of packed) strict bytes r (count_of strict bytes)) value answer in
    let same : encoding ≡ first.sentence = beginning ∙ (cut_is first.sentence first.rest first.begins (long ∙ counted ∙ sym first.long)).0 in
    let begins : bytes ≡ encoding ++ first.rest = cc (first.begins, same) in
    let all : length encoding ≡ count_of strict bytes = cc (same, first.long) in
    record {
      accepted = value;
      is = subst (λ l. IsSentence (rows_of packed) strict l i) (sym same) first.is;
      rest = first.rest;
      begins = begins;
      taken = cc (beginning, long);
      long = cc (all, counted);
      alone = λ s other a is e.
          let accepted : IsAccepted (rows_of packed) strict bytes a (length s) = record { sentence = s; rest = other; begins = e; long = refl; is = is } in
          let unique = only bytes (Ok a) (length s) accepted in
          ((halves s other encoding first.rest (sym e ∙ begins) (unique.1 ∙ sym all)).0, cc (unique.0, value));
    }

-- ---- the lengths of parts

immediate_small : (strict : Bool) (row : TableRow) (p : Prefixes) (m : ℕ) → immediates_width ((record_of strict row p).instance m) ≤ 8
immediate_small strict row p m =
    cond_both (is_group row.form) (group_record strict row p) (form_record row p) (λ r. immediates_width (r.instance m) ≤ 8)
    (λ _. group_narrow strict row p m) (λ _. plain_narrow row p m)

displacement_small : (m : ℕ) (sib : Option ℕ) (n : ℕ) → n ≡ (if is_memory m then displacement_width m sib else 0) → n ≤ 4
displacement_small m sib n h = grind arith

sib_small : (m n : ℕ) → n ≡ sib_width m → n ≤ 1
sib_small m n h = grind arith

pub lengths_of : {strict : Bool} {s : List ℕ} {reading : Reading} {w : Encoding strict s reading} {p : PartLists} →
    HasParts strict s reading w p → length s ≤ 15 → HasFieldLengths p
lengths_of {strict = strict} {w = w} {p = p} h short =
    let a = w.row_spelled in
    let r = record_in strict _ _ w in
    let m : ℕ = modrm_of r.modrm a.modrm in
    record {
      prefixes = omega (arith, length-append {A = ℕ}, ap length h.prefixes, ap length w.spelled, short);
      escape = grind (arith, ap length h.escape);
      opcode = ap length h.opcode;
      modrm = grind (arith, ap length h.modrm, a.modrm_length);
      sib = sib_small m _ h.sib;
      displacement = displacement_small m (first_byte p.sib) _ (displacement_long a (there_in w) p.sib p.displacement h.address h.sib);
      immediate = rw (ap length h.immediate ∙ immediates_long a) (immediate_small strict w.row _ m);
      suffix = grind (arith, ap length h.suffix, a.tail_spelled.pieces.suffix_length);
    }
