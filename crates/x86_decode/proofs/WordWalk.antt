-- The escape, the opcode byte and the word of its row.
use Rattle.std.proofs.Common.{◌≡◌, ℕ, ◌<◌, ◌≤◌, ◌==◌, ◌||◌, nat_lt, not, Bool, true, false, get_or, map, replicate, Result, Ok, Err, Option}
use Rattle.std.proofs.Common.{Some, is_some, refl, sym, ap, ◌∙◌, arith}
use Rattle.std.specs.List.{range_with_len}
use Rattle.std.proofs.lemmas.Bool.Decides.{nat_tests}
use Rattle.std.proofs.lemmas.List.{get_or-replicate}
use Rattle.std.proofs.lemmas.List.FromFn.{get_or-map-range_with_len}
use Rattle.x86_arch.specs.Reader.{State}
use Rattle.x86_fields.specs.declared.errors.DecodeError.{DecodeError}
use Rattle.x86_fields.specs.declared.prefixes.Prefixes.{Prefixes}
use Rattle.x86_fields.specs.Run.{is_prefix}
use Rattle.x86_fields.specs.Steps.{Step, Outcome, outcome, then_from, pure, ◌>>=◌, next_byte}
use Rattle.x86_forms.specs.declared.Map.{Map}
use Rattle.x86_forms.specs.declared.Map.TheVariants.{One, Of, Of38, Of3a}
use Rattle.x86_forms.specs.declared.Column.TheVariants.{Plain}
use Rattle.x86_forms.specs.declared.TableRow.{TableRow}
use Rattle.x86_forms.specs.Rows.{printed_row}
use Rattle.x86_forms.specs.Words.{packed, rows_of, unpack}
use Rattle.x86_forms.proofs.WordLemmas.{row_of_printed_word}
use Rattle.x86_operands.specs.Places.{Placed}
use Rattle.x86_decode.specs.declared.head.ByteClass.TheVariants.{Vex, Escape}
use Rattle.x86_decode.specs.Head.{Rows, column_of, is_opcode, vex_refusal, seen_by}
use Rattle.x86_decode.specs.ByteClass.{byte_class}
use Rattle.x86_decode.specs.Walk.{body_placed, escape_step, found_word, head_step, opcode_step, read_escaped, read_word, row_placed, some_row, walk_placed}
use Rattle.x86_decode.proofs.HeadWalk.{Headed, at_other}
use Rattle.x86_decode.proofs.ByteClassLemmas.{vex_class, escape_class, plain_class, is_plain}

pub found_vex : (rows : Rows) (p : Prefixes) (b : ℕ) (s : State ℕ) → byte_class b ≡ Vex → outcome (Err (vex_refusal p)) s ≡ read_word rows p b s
unfolding opcode_step
found_vex rows p b s h = rw (vex_class b h) refl

pub found_plain : (rows : Rows) (p : Prefixes) (b : ℕ) (s : State ℕ) → is_plain (byte_class b) ≡ true →
    outcome (Ok (rows One (column_of p) b, p)) s ≡ read_word rows p b s
unfolding opcode_step
found_plain rows p b s h = rw ((plain_class b h).0, (plain_class b h).1) refl

pub found_escaped : (rows : Rows) (p : Prefixes) (b : ℕ) (r : Result (Map × ℕ) DecodeError) (s t : State ℕ) →
    byte_class b ≡ Escape → outcome r t ≡ escape_step s →
    then_from r t (λ o. pure (rows o.0 (column_of p) o.1, seen_by o.0 o.1 p)) ≡ read_word rows p b s
unfolding opcode_step
found_escaped rows p b r s t h e = ap (λ q. then_from q.answer q.after (λ o. pure (rows o.0 (column_of p) o.1, seen_by o.0 o.1 p))) e
    ∙ rw (escape_class b h) refl

-- ---- the bytes after 0F

abbrev pub third_byte : Map → Step (Map × ℕ)
third_byte map = next_byte >>= λ b. pure (map, b)

pub then_escaped : (r : Result ℕ DecodeError) (s t : State ℕ) → outcome r t ≡ next_byte s → then_from r t (λ d. read_escaped d) ≡ escape_step s
then_escaped r s t e = ap (λ o. then_from o.answer o.after (λ d. read_escaped d)) e

pub then_third : (map : Map) (d : ℕ) (r : Result ℕ DecodeError) (s t u : State ℕ) → outcome (Ok d) t ≡ next_byte s →
    ((v : State ℕ) → third_byte map v ≡ read_escaped d v) → outcome r u ≡ next_byte t → then_from r u (λ b. pure (map, b)) ≡ escape_step s
then_third map d r s t u first is e = ap (λ o. then_from o.answer o.after (λ b. pure (map, b))) e ∙ is t ∙ then_escaped (Ok d) s t first

-- ---- what follows the row of a word

after_row : Bool → Outcome (Option TableRow × Prefixes) → Outcome Placed
after_row strict o = then_from o.answer o.after (λ x. some_row x.0 >>= λ row. row_placed strict row x.1)

module _ (rows : Rows) (strict : Bool) (b : ℕ) (p : Prefixes) (s : State ℕ) where
  row_follows : (r : Result (Map × ℕ) DecodeError) (t : State ℕ) →
      after_row strict (then_from r t (λ o. pure (rows o.0 (column_of p) o.1, seen_by o.0 o.1 p))) ≡ then_from r t
      (λ o. some_row (rows o.0 (column_of p) o.1) >>= λ row. row_placed strict row (seen_by o.0 o.1 p))
  unfolding after_row
  row_follows (Ok o) t = refl
  row_follows (Err e) t = refl

  body : after_row strict (read_word rows p b s) ≡ body_placed rows strict p b s
  body = row_follows (opcode_step p b s).answer (opcode_step p b s).after

  pub refused_after : (e : DecodeError) (t : State ℕ) → outcome (Err e) t ≡ read_word rows p b s → outcome (Err e) t ≡ body_placed rows strict p b s
  unfolding after_row
  refused_after e t h = ap (after_row strict) h ∙ body

  pub row_after : (q : Prefixes) (word : ℕ) (o : Option TableRow) (t : State ℕ) → found_word q word t ≡ read_word rows p b s →
      unpack word ≡ o → (some_row o >>= λ row. row_placed strict row q) t ≡ body_placed rows strict p b s
  unfolding after_row
  row_after q word o t h is = ap (λ o. (some_row o >>= λ row. row_placed strict row q) t) (sym is) ∙ ap (after_row strict) h ∙ body

  module _ (start : State ℕ) (head : Headed b p s (head_step start)) (plain : is_prefix b ≡ false) where
    -- what follows the run is the walk after its head
    pub within : body_placed rows strict p b s ≡ walk_placed rows strict start
    unfolding walk_placed
    within = ap (λ q. body_placed rows strict q b s) head.1
        ∙ ap (λ o. then_from o.answer o.after (λ h. body_placed rows strict h.0 h.1)) (at_other head.0 b s plain ∙ head.2)

-- ---- a printed row is at an opcode byte

at_opcode : Map → ℕ → Bool
at_opcode m b = not (is_some (printed_row m Plain b)) || is_opcode m b

at_opcodes : (m : Map) → map (at_opcode m) (range_with_len 0 256) ≡ replicate 256 true
unfolding at_opcode printed_row
at_opcodes One = refl
at_opcodes Of = refl
at_opcodes Of38 = refl
at_opcodes Of3a = refl

above : (m : Map) (b : ℕ) → 256 ≤ b → is_opcode m b ≡ true
above m b h = grind (arith, nat_tests)

opcode_at : (m : Map) (b : ℕ) (row : TableRow) → unpack (packed m Plain b) ≡ Some row → is_opcode m b ≡ true
unfolding at_opcode
opcode_at m b row is = by (nat_lt b 256) refl
  where
    by : (t : Bool) → nat_lt b 256 ≡ t → is_opcode m b ≡ true
    by true k =
        let fits : b < 256 = grind (arith, nat_tests) in
        let holds : at_opcode m b ≡ true = sym (get_or-map-range_with_len (at_opcode m) 0 256 b b true fits (omega arith))
        ∙ ap (λ l. get_or l b true) (at_opcodes m) ∙ get_or-replicate 256 b true true fits in
        sym (ap (λ o. not (is_some o) || is_opcode m b) (sym (row_of_printed_word m Plain b) ∙ is)) ∙ holds
    by false k = above m b (grind (arith, nat_tests))

one_is_plain : (b : ℕ) → is_opcode One b ≡ true → is_plain (byte_class b) ≡ true
one_is_plain b h = grind (arith, nat_tests)

one_is_other : (b : ℕ) → is_opcode One b ≡ true → is_prefix b ≡ false
one_is_other b h = grind arith

of_is_escaped : (o : ℕ) (s : State ℕ) → is_opcode Of o ≡ true → read_escaped o s ≡ outcome (Ok (Of, o)) s
of_is_escaped o s h = grind (arith, nat_tests)

-- ---- no legacy prefix, and an opcode byte that follows nothing or 0F

module _ (strict : Bool) (start now : State ℕ) (b : ℕ) (p : Prefixes) (head : Headed b p now (head_step start))
    (plain : column_of p ≡ Plain) (row : TableRow) where
  pub without_escape : unpack (packed One Plain b) ≡ Some row → row_placed strict row p now ≡ walk_placed (rows_of packed) strict start
  without_escape is =
      let opcode = opcode_at One b row is in
      let found : found_word p (packed One Plain b) now ≡ read_word (rows_of packed) p b now =
      ap (λ c. found_word p (packed One c b) now) (sym plain) ∙ found_plain (rows_of packed) p b now (one_is_plain b opcode) in
      row_after (rows_of packed) strict b p now p (packed One Plain b) (Some row) now found is
      ∙ within (rows_of packed) strict b p now start head (one_is_other b opcode)

  pub after_escape : (o : ℕ) (after : State ℕ) → (b == 0x0f) ≡ true → outcome (Ok o) after ≡ next_byte now →
      unpack (packed Of Plain o) ≡ Some row → row_placed strict row p after ≡ walk_placed (rows_of packed) strict start
  after_escape o after escape taken is =
      let opcode = opcode_at Of o row is in
      let lead : byte_class b ≡ Escape = grind (arith, nat_tests) in
      let other : is_prefix b ≡ false = grind (arith, nat_tests) in
      let escaped : outcome (Ok (Of, o)) after ≡ escape_step now = sym (of_is_escaped o after opcode) ∙ then_escaped (Ok o) now after taken in
      let found : found_word p (packed Of Plain o) after ≡ read_word (rows_of packed) p b now =
      ap (λ c. found_word p (packed Of c o) after) (sym plain) ∙ found_escaped (rows_of packed) p b (Ok (Of, o)) now after lead escaped in
      row_after (rows_of packed) strict b p now p (packed Of Plain o) (Some row) after found is
      ∙ within (rows_of packed) strict b p now start head other
