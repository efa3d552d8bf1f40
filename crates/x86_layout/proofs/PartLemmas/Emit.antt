-- Permitted fields are the parts of an accepted encoding, and the parts of an accepted encoding are permitted.
use Rattle.std.proofs.Common.{◌≡◌, ℕ, ◌↔◌, ◌≤◌, nat_le, Bool, true, if◌then◌else◌, List, [], ◌∷◌, ◌++◌, length, take, Option, Some, None}
use Rattle.std.proofs.Common.{Result, Ok, Err, IsOk, IfOk, refl, sym, ap, subst, ◌∙◌, arith, append-nil}
use Rattle.std.proofs.lemmas.Bool.Decides.{nat_tests}
use Rattle.x86_arch.specs.Reader.{State}
use Rattle.x86_fields.specs.declared.prefixes.Prefixes.{Prefixes}
use Rattle.x86_fields.specs.Run.{reading_of}
use Rattle.x86_fields.specs.Parts.{HasFieldLengths}
use Rattle.x86_forms.specs.declared.Map.{Map}
use Rattle.x86_forms.specs.declared.TableRow.{TableRow}
use Rattle.x86_forms.specs.Words.{rows_of, packed}
use Rattle.x86_operands.specs.declared.reader.Reading.{Reading}
use Rattle.x86_operands.specs.Records.{RowRecord}
use Rattle.x86_operands.specs.Pieces.{SpellsRow}
use Rattle.x86_operands.specs.RowSteps.{record_step}
use Rattle.x86_operands.proofs.RecordLemmas.{takes_row}
use Rattle.x86_decode.specs.declared.instructions.Instruction.{Instruction}
use Rattle.x86_decode.specs.Head.{column_of, escape_bytes, is_opcode, seen_by}
use Rattle.x86_fields.specs.Pieces.{option_bytes}
use Rattle.x86_groups.specs.Groups.{record_of}
use Rattle.x86_groups.proofs.AddressLemmas.{address_is}
use Rattle.x86_decode.specs.Grammar.{allows_lock, places_of, IsAccepted}
use Rattle.x86_decode.specs.Instruction.{instruction_of}
use Rattle.x86_decode.specs.Answer.{answer_of, count_of}
use Rattle.x86_layout.specs.declared.parts.fields.Fields as fields
use Rattle.x86_layout.specs.declared.parts.entries.Entry.{Entry}
use Rattle.x86_layout.specs.declared.parts.emit.EmitError.{EmitError}
use Rattle.x86_layout.specs.declared.parts.emit.EmitError.TheVariants as error
use Rattle.x86_layout.specs.Parts.Split.{Encoding, record_in, HasParts, joined}
use Rattle.x86_layout.specs.Parts.OfBytes.{parts_of, Decodes}
use Rattle.x86_layout.specs.Parts.Fields.{lists_in}
use Rattle.x86_layout.specs.Parts.Permitted.{map_named, entry_by, entry_at, entry_of, record_by, has_legal_run, passes_record}
use Rattle.x86_layout.specs.Parts.Permitted.{has_row_parts, tail_of, answer_allows_lock, has_lawful_lock, is_short, unless, failing_at}
use Rattle.x86_layout.specs.Parts.Permitted.{first_failing, IsPermitted, ArePartsOfSentence}
use Rattle.x86_layout.proofs.PartLemmas.Part.{cut_is}
use Rattle.x86_layout.proofs.PartLemmas.OfBytes.{Only, parts_are, parts_once, joined_is, lengths_of, there_in}
use Rattle.x86_layout.proofs.PartLemmas.Spell.{spelled, HoldsFields, passes, row_parts}

-- ---- the first that fails

abbrev unless_all : Bool → Bool → Bool → Bool → Bool → Option EmitError
unless_all run a b c d = unless run error.Prefixes (unless a error.Row (unless b error.Shape (unless c error.Lock (unless d error.Length None))))

all_pass : (run a b c d : Bool) → (unless_all run a b c d ≡ None) ↔ ((run ≡ true) × (a ≡ true) × (b ≡ true) × (c ≡ true) × (d ≡ true))
all_pass run a b c d = (λ h. (grind arith, grind arith, grind arith, grind arith, grind arith), λ h. grind arith)

abbrev Holds : Bool → fields.Fields → Entry → Type 0
Holds strict f e =
    (has_legal_run f ≡ true) × (passes_record (record_by strict e f) f ≡ true) × (has_row_parts (record_by strict e f) f ≡ true)
    × (has_lawful_lock strict e f ≡ true) × (is_short f ≡ true)

holds : (strict : Bool) (f : fields.Fields) (o : Option Entry) → unless (has_legal_run f) error.Prefixes (failing_at strict o f) ≡ None →
    (e : Entry) × (o ≡ Some e) × Holds strict f e
holds strict f None h = absurd (grind arith)
holds strict f (Some e) h =
    let at = record_by strict e f in
    (e, refl, (all_pass (has_legal_run f) (passes_record at f) (has_row_parts at f) (has_lawful_lock strict e f) (is_short f)).0 h)

-- ---- the row that fields name

record Names (f : fields.Fields) (e : Entry) : Type 0 where
  pub map : Map
  pub row : TableRow
  pub escape : f.escape.items ≡ escape_bytes map
  pub in_map : is_opcode map f.opcode ≡ true
  pub has_row : rows_of packed map (column_of (reading_of f.prefixes.items)) f.opcode ≡ Some row
  pub is : e ≡ record { row = row; prefixes = seen_by map f.opcode (reading_of f.prefixes.items) }

escape_is : (l : List ℕ) (map : Map) → map_named l ≡ Some map → l ≡ escape_bytes map
escape_is l map h = grind (arith, nat_tests)

row_is : (t : Bool) (o : Option TableRow) (q : Prefixes) (e : Entry) → (if t then entry_by o q else None) ≡ Some e → (row : TableRow)
    × (t ≡ true) × (o ≡ Some row) × (e ≡ record { row = row; prefixes = q })
row_is t o q e h = grind arith

names : (f : fields.Fields) (e : Entry) (o : Option Map) → map_named f.escape.items ≡ o → entry_at o (reading_of f.prefixes.items) f.opcode ≡ Some e → Names f e
names f e None k h = absurd cc
names f e (Some map) k h =
    let x = row_is (is_opcode map f.opcode) _ _ e h in
    record { map = map; row = x.0; escape = escape_is f.escape.items map k; in_map = x.1; has_row = x.2; is = x.3 }

-- ---- permitted fields spell a sentence

-- the reading of a row's pieces is the one that they spell
reading_is : (r : RowRecord) (p : Prefixes) (tail : List ℕ) (reading : Reading) → SpellsRow r p tail reading →
    answer_allows_lock (record_step r p (record { left = tail; since_mark = 0; since_made = 0 })).answer ≡ allows_lock reading
reading_is r p tail reading a =
    let start : State ℕ = record { left = tail; since_mark = 0; since_made = 0 } in
    ap (λ o. answer_allows_lock o.answer) ((takes_row r p tail reading a).takes [] start (sym (append-nil tail)))

short_is : (n : ℕ) → (nat_le n 15 ≡ true) ↔ (n ≤ 15)
short_is n = (λ h. grind (arith, nat_tests), λ h. grind (arith, nat_tests))

emitted_by : (strict : Bool) (f : fields.Fields) (e : Entry) (n : Names f e) →
    Holds strict f (record { row = n.row; prefixes = seen_by n.map f.opcode (reading_of f.prefixes.items) }) → ArePartsOfSentence strict f
emitted_by strict f e n h =
    let q : Prefixes = seen_by n.map f.opcode (reading_of f.prefixes.items) in
    let r = record_of strict n.row q in
    let s = spelled r q f (address_is strict n.row q (option_bytes f.modrm)) h.1 h.2 in
    let whole : Encoding strict (joined (lists_in f)) s.reading = record {
      run = f.prefixes.items;
      map = n.map;
      opcode = f.opcode;
      row = n.row;
      tail = tail_of f;
      spelled = ap (λ l. f.prefixes.items ++ (l ++ f.opcode ∷ tail_of f)) n.escape;
      prefixes = h.0;
      in_map = n.in_map;
      has_row = n.has_row;
      row_spelled = s.row;
    } in
    record {
      answer = instruction_of s.reading (places_of (rows_of packed) strict (joined (lists_in f)) s.reading whole) (length (joined (lists_in f)));
      sentence = record {
        reading = s.reading;
        whole = whole;
        lock = sym (reading_is r q (tail_of f) s.reading s.row) ∙ h.3;
        short = (short_is (length (joined (lists_in f)))).0 h.4;
        yields = refl;
      };
      parts = assumption (n.escape, s.parts);
    }

emitted : (strict : Bool) (f : fields.Fields) → IsPermitted strict f → ArePartsOfSentence strict f
unfolding first_failing
emitted strict f h =
    let x = holds strict f (entry_of f) h in
    let n = names f x.0 (map_named f.escape.items) refl x.1 in
    emitted_by strict f x.0 n (subst (Holds strict f) n.is x.2)

-- What emit wrote is accepted, whatever follows it, and its parts are the fields.
pub split_again : (strict : Bool) (f : fields.Fields) (rest : List ℕ) → Only strict → IsPermitted strict f → (i : Instruction)
    × (answer_of strict (joined (lists_in f) ++ rest) ≡ Ok i) × (parts_of strict (joined (lists_in f) ++ rest) ≡ lists_in f)
split_again strict f rest only h =
    let x = emitted strict f h in
    let s : List ℕ = joined (lists_in f) in
    let is = x.sentence in
    let accepted : IsAccepted (rows_of packed) strict (s ++ rest) x.answer (length s) =
    record { sentence = s; rest = rest; begins = refl; long = refl; is = is } in
    (x.answer, sym (only (s ++ rest) (Ok x.answer) (length s) accepted).0, parts_once (parts_are rest is.whole refl) x.parts)

-- So where bytes are written they decode, whatever follows them.
pub read_again : {X E : Type 0} (items : X → List ℕ) (strict : Bool) (f : fields.Fields) (r : Result X E) →
    ((rest : List ℕ) → IsPermitted strict f → (i : Instruction) × (answer_of strict (joined (lists_in f) ++ rest) ≡ Ok i)
    × (parts_of strict (joined (lists_in f) ++ rest) ≡ lists_in f)) → (IsOk r → IsPermitted strict f) →
    IfOk r (λ bytes. items bytes ≡ joined (lists_in f)) → IfOk r (λ bytes. (rest : List ℕ) → Decodes strict (items bytes ++ rest) (lists_in f))
read_again items strict f (Ok bytes) law permitted written = λ rest.
    let again = law rest (permitted refl) in
    record {
      instruction = again.0;
      accepted = ap (λ (xs : List ℕ). answer_of strict (xs ++ rest)) written ∙ again.1;
      same = ap (λ (xs : List ℕ). parts_of strict (xs ++ rest)) written ∙ again.2;
    }
read_again items strict f (Err error) law permitted written = tt

-- ---- the parts of an accepted encoding are permitted

map_back : (m : Map) → map_named (escape_bytes m) ≡ Some m
map_back m = grind arith

module _ {strict : Bool} {s : List ℕ} {reading : Reading} {w : Encoding strict s reading} (f : fields.Fields)
    (h : HasParts strict s reading w (lists_in f)) where
  abbrev q : Prefixes
  q = seen_by w.map w.opcode (reading_of w.run)

  abbrev entry : Entry
  entry = record { row = w.row; prefixes = q }

  entry_is : entry_of f ≡ Some entry
  entry_is = cc (map_back w.map, w.in_map, w.has_row)

  tail_is : tail_of f ≡ w.tail
  tail_is = cc (w.row_spelled.spelled, w.row_spelled.tail_spelled.pieces.spelled)

  lock_is : allows_lock reading ≡ true → has_lawful_lock strict entry f ≡ true
  lock_is k = ap (λ l. answer_allows_lock (record_step (record_in strict s reading w) q
      (record { left = l; since_mark = 0; since_made = 0 })).answer) tail_is ∙ reading_is (record_in strict s reading w) q w.tail reading w.row_spelled ∙ k

  pieces : HoldsFields (record_in strict s reading w) q w.tail reading f w.row_spelled
  pieces = assumption h

  pub permitted : allows_lock reading ≡ true → length s ≤ 15 → IsPermitted strict f
  unfolding first_failing
  permitted lock short =
      let legal : has_legal_run f ≡ true = cc (h.prefixes, w.prefixes) in
      let short' : is_short f ≡ true = cc (joined_is h, (short_is (length s)).1 short) in
      ap (λ o. unless (has_legal_run f) error.Prefixes (failing_at strict o f)) entry_is
      ∙ (all_pass (has_legal_run f) _ _ _ _).1 (legal, passes f w.row_spelled pieces, row_parts f w.row_spelled pieces (there_in w), lock_is lock, short')

-- Emitting the fields of a split yields the encoding's very bytes.
pub emitted_again : (strict : Bool) (bytes : List ℕ) (i : Instruction) (f : fields.Fields) →
    IsAccepted (rows_of packed) strict bytes i (count_of strict bytes) → i.length ≡ count_of strict bytes →
    lists_in f ≡ parts_of strict bytes → IsPermitted strict f × (joined (lists_in f) ≡ take i.length bytes)
emitted_again strict bytes i f a counted e =
    let h = subst (HasParts strict a.sentence a.is.reading a.is.whole) (sym e) (parts_are a.rest a.is.whole a.begins) in
    (permitted f h a.is.lock a.is.short, joined_is h ∙ sym (cut_is a.sentence a.rest a.begins (counted ∙ sym a.long)).0)

-- Fields are permitted exactly where they are the parts of a sentence.
pub permitted_are_parts : (strict : Bool) (f : fields.Fields) → IsPermitted strict f ↔ ArePartsOfSentence strict f
permitted_are_parts strict f = (emitted strict f, λ k. permitted f k.parts k.sentence.lock k.sentence.short)

-- The parts of an accepted encoding have lengths that fields can hold.
pub parts_fit : (strict : Bool) (bytes : List ℕ) (i : Instruction) → IsAccepted (rows_of packed) strict bytes i (count_of strict bytes) →
    HasFieldLengths (parts_of strict bytes)
parts_fit strict bytes i a = lengths_of (parts_are a.rest a.is.whole a.begins) a.is.short
