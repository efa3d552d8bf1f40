-- The fields of the headline, from the laws of the crates below, over the packed rows.
use Rattle.std.proofs.Common.{◌≡◌, ◌≢◌, ◌↔◌, ℕ, zero, suc, ◌+◌, ◌<◌, ◌≤◌, Bool, true, false, List, [], ◌∷◌, ◌++◌, length, map, drop, Result}
use Rattle.std.proofs.Common.{Ok, Err, Option, Some, None, is_none, refl, sym, ap, ◌∙◌, subst, arith, length-append}
use Rattle.std.proofs.Math.Seq.{take-append_seam, drop-append_seam}
use Rattle.std.proofs.lemmas.Bool.{and_parts}
use Rattle.x86_fields.specs.declared.errors.DecodeError.{DecodeError}
use Rattle.x86_fields.specs.declared.errors.DecodeError.TheVariants.{ExhaustedInput}
use Rattle.x86_fields.specs.declared.raw.Raw.{Raw}
use Rattle.x86_fields.specs.Parts.{PartLists}
use Rattle.x86_forms.specs.Words.{rows_of, packed}
use Rattle.x86_decode.specs.declared.instructions.Instruction.{Instruction}
use Rattle.x86_decode.specs.Head.{Rows, seen_by}
use Rattle.x86_fields.specs.Run.{reading_of}
use Rattle.x86_groups.specs.Groups.{record_of}
use Rattle.x86_operands.specs.Asks.{modrm_of}
use Rattle.x86_decode.specs.Addresses.{names_modrm, instance_within, writes_modrm}
use Rattle.x86_decode.specs.Answer.{answer_of, count_of}
use Rattle.x86_decode.specs.Grammar as was
use Rattle.x86_decode.specs.Grammar.{IsAnswer, IsRefusal}
use Rattle.x86_decode.proofs.AnswerLemmas.{at_most_fifteen}
use Rattle.x86_layout.specs.declared.parts.fields.Fields.{Fields}
use Rattle.x86_layout.specs.Parts.Fields.{lists_in}
use Rattle.x86_layout.specs.Parts.Permitted.{ArePartsOfSentence, IsPermitted, first_failing}
use Rattle.x86_layout.specs.Parts.Split.{HasParts, joined, sib_width}
use Rattle.x86_layout.specs.Sweeps.Cuts.{cut_length, cuts_from}
use Rattle.x86_layout.specs.Tightening.Registers.{is_ip_relative}
use Rattle.x86_layout.specs.Tightening.Tighten.{HasOperandForm, IsRelative, IsShortest}
use Rattle.x86_cli.specs.Headline.{AreRelatives, BeginsWith, HasRaw, IsByteString, Sentence, Settles}
use Rattle.x86_cli.specs.Sentences.{Encodes}
use Rattle.x86_cli.proofs.HeadlineLemmas.Sentences.{back, error_back, error_to, halves, modrm_is, parts_in, instance_is, to, whole_in}
use Rattle.x86_cli.proofs.ListingLemmas.Grammar.{GrammarLaws, some_cut, first_cut}

abbrev pub R : Rows
R = rows_of packed

-- ---- answers

module _ (strict : Bool) (laws : GrammarLaws strict)
    (decided : (q rest : List ℕ) (e : DecodeError) → length q ≤ 15 → was.Decides R strict q e → IsAnswer R strict (q ++ rest) (Err e) (length q)) where
  -- what settles an answer is the answer
  pub settled : (s rest : List ℕ) (r : Result Instruction DecodeError) → Settles R strict s r → IsAnswer R strict (s ++ rest) r (length s)
  settled s rest (Ok i) f = record { sentence = s; rest = rest; begins = refl; long = refl; is = back R strict s i f }
  settled s rest (Err e) h = decided s rest e h.0 (error_back R strict s e h.1)

  pub begins : (bytes : List ℕ) (r : Result Instruction DecodeError) → BeginsWith R strict bytes r → answer_of strict bytes ≡ r
  begins bytes r h = rw h.2 (sym (laws.only (h.0 ++ h.1) r (length h.0) (settled h.0 h.1 r h.3)))

  refused : (bytes : List ℕ) (e : DecodeError) (n : ℕ) → n ≤ 15 → IsRefusal R strict bytes e n → BeginsWith R strict bytes (Err e)
  refused bytes e n le a = (a.beginning, a.rest, a.begins, (omega (arith, a.long, le), error_to R strict a.beginning e a.decides))

  -- an answer but for that of open bytes is settled
  settles_by : (bytes : List ℕ) (r : Result Instruction DecodeError) (n : ℕ) → n ≤ 15 → r ≢ Err ExhaustedInput →
      IsAnswer R strict bytes r n → BeginsWith R strict bytes r
  settles_by bytes (Ok i) n le differs a = (a.sentence, a.rest, a.begins, to R strict a.sentence i a.is)
  settles_by bytes (Err ExhaustedInput) n le differs a = absurd (differs refl)
  settles_by bytes (Err e) n le differs a = refused bytes e n le a

  pub settles : (bytes : List ℕ) (r : Result Instruction DecodeError) → r ≢ Err ExhaustedInput → answer_of strict bytes ≡ r → BeginsWith R strict bytes r
  settles bytes r differs h =
      let a = subst (λ r. IsAnswer R strict bytes r (count_of strict bytes)) h (laws.there bytes) in
      settles_by bytes r (count_of strict bytes) (at_most_fifteen R strict bytes r (count_of strict bytes) a) differs a

  -- the first cut of bytes
  pub cut_of : (place : ℕ) (piece after : List ℕ) (a : Result Instruction DecodeError) → answer_of strict (piece ++ after) ≡ a → length piece ≡ cut_length a →
      cuts_from strict place (piece ++ after) ≡ record { place = place; length = length piece; answer = a } ∷ cuts_from strict (place + length piece) after
  cut_of place piece after a h long =
      let some = some_cut strict laws (piece ++ after) a h in
      let first = first_cut strict laws place (piece ++ after) a h some (omega (arith, some, long, length-append piece after)) in
      first ∙ ap (λ n. record { place = place; length = n; answer = a } ∷ cuts_from strict (place + n) (drop n (piece ++ after))) (sym long)
      ∙ ap (λ xs. record { place = place; length = length piece; answer = a } ∷ cuts_from strict (place + length piece) xs) (drop-append_seam piece after)

-- ---- parts

same_by : (p q : PartLists) → p.prefixes ≡ q.prefixes → p.escape ≡ q.escape → p.opcode ≡ q.opcode → p.modrm ≡ q.modrm → length p.sib ≡ length q.sib →
    p.sib ++ p.displacement ≡ q.sib ++ q.displacement → p.immediate ≡ q.immediate → p.suffix ≡ q.suffix → p ≡ q
same_by p q prefixes escape opcode modrm long tails immediate suffix =
    let sib : p.sib ≡ q.sib = sym (take-append_seam p.sib p.displacement) ∙ rw (long, tails) (take-append_seam q.sib q.displacement) in
    let disp : p.displacement ≡ q.displacement = sym (drop-append_seam p.sib p.displacement) ∙ rw (long, tails) (drop-append_seam q.sib q.displacement) in
    grind (arith, sib, disp, prefixes, escape, opcode, modrm, immediate, suffix)

none : {A : Type 0} (o : Option A) → is_none o ≡ true → o ≡ None
none None h = refl
none (Some x) h = absurd (cc (h))

module _ (strict : Bool) where
  module _ (s : List ℕ) (i : Instruction) (f : Encodes R strict true s i) where
    sib_is : length f.parts.sib ≡ sib_width (modrm_of (record_of strict f.row (seen_by f.opcode_map f.byte (reading_of f.parts.prefixes))).modrm f.parts.modrm)
    sib_is = f.sib_length ∙ ap sib_width (modrm_is R strict true s i f)

    -- parts of the bytes are those of the sentence
    pub parts_are : (p : PartLists) → HasParts strict s f.reading (whole_in R strict true s i f) p → p ≡ f.parts
    parts_are p h = same_by p f.parts h.prefixes (h.escape ∙ sym f.escaped) (h.opcode ∙ sym f.opcode_is) h.modrm
        (h.sib ∙ sym sib_is) h.address h.immediate h.suffix

    has_parts : HasParts strict s f.reading (whole_in R strict true s i f) f.parts
    has_parts = record {
      prefixes = refl;
      escape = f.escaped;
      opcode = f.opcode_is;
      modrm = refl;
      sib = sib_is;
      address = refl;
      immediate = refl;
      suffix = refl;
    }

  -- fields that are the parts of a sentence
  pub parts_to : (f : Fields) → ArePartsOfSentence strict f → (s : List ℕ) × (i : Instruction) × (is : Sentence R strict s i) × (is.parts ≡ lists_in f)
  parts_to f a =
      let s = joined (lists_in f) in
      let g = to R strict s a.answer a.sentence in
      let h = a.parts in (
        s,
        a.answer,
        g,
        same_by g.parts (lists_in f) (sym h.prefixes) (sym h.escape) (sym h.opcode) (sym h.modrm) (g.sib_length ∙ sym h.sib)
            (halves R strict s a.sentence.reading a.sentence.whole ∙ sym h.address) (sym h.immediate) (sym h.suffix),
      )

  -- no condition fails
  pub is_permitted : (f : Fields) → is_none (first_failing strict f) ≡ true → IsPermitted strict f
  is_permitted f h = none (first_failing strict f) h

  pub permits : (f : Fields) → IsPermitted strict f → is_none (first_failing strict f) ≡ true
  permits f h = ap is_none h

  at_joined : (p : PartLists) (s : List ℕ) (i : Instruction) (g : Sentence R strict s i) → g.parts ≡ p →
      (j : Instruction) × (is : was.IsSentence R strict (joined p) j) × HasParts strict (joined p) is.reading is.whole p
  at_joined p s i g e =
      let parts = subst (λ p. HasParts strict s g.reading (whole_in R strict true s i g) p) e (has_parts s i g) in
      subst (λ t. (j : Instruction) × (is : was.IsSentence R strict t j) × HasParts strict t is.reading is.whole p) (g.whole ∙ ap joined e)
      (i, back R strict s i g, parts)

  pub parts_from : (f : Fields) → ((s : List ℕ) × (i : Instruction) × (is : Sentence R strict s i) × (is.parts ≡ lists_in f)) → ArePartsOfSentence strict f
  parts_from f x = let a = at_joined (lists_in f) x.0 x.1 x.2 x.3 in record { answer = a.0; sentence = a.1; parts = a.2 }

-- ---- addresses

pub head_same : {p q : List ℕ} {a b : ℕ} → p ≡ a ∷ [] → q ≡ b ∷ [] → p ≡ q → a ≡ b
head_same {p} {q} {a} {b} e f g = cc

module _ (strict : Bool) (s : List ℕ) (i : Instruction) (f : Encodes R strict true s i) where
  -- the instance at its row
  pub named : (k : ℕ) (raw : Raw) → HasRaw R strict f k raw → names_modrm (instance_within R strict s f.reading (whole_in R strict true s i f)) k ≡ true
  named k raw has = subst (λ q. names_modrm q k ≡ true) (instance_is R strict true s i f) has.1

  pub operand_form : (k : ℕ) (raw : Raw) → HasRaw R strict f k raw → is_ip_relative raw ≡ false →
      HasOperandForm strict s f.reading (whole_in R strict true s i f) false
  operand_form k raw has differs = record {
    operand = record {
      raw = raw;
      read = has.0;
      written = (and_parts (writes_modrm (instance_within R strict s f.reading (whole_in R strict true s i f))) _ (named k raw has)).0;
    };
    form = differs;
  }

  module _ (t : List ℕ) (j : Instruction) where
    pub relative_to : (other : was.IsSentence R strict t j) → IsRelative strict s f.reading (whole_in R strict true s i f) t other.reading other.whole →
        AreRelatives R strict f (to R strict t j other)
    relative_to other h = record {
      prefixes = h.parts.prefixes;
      escape = h.parts.escape ∙ sym f.escaped;
      byte = ap (λ o. o ∷ []) h.parts.opcode ∙ sym f.opcode_is;
      register = h.parts.register;
      immediate = h.parts.immediate;
      suffix = h.parts.suffix;
      from = h.address.from;
      to = h.address.to;
      old = h.address.old;
      new = h.address.new;
      same = h.address.same;
    }

    abbrev pub relative_from : (g : Encodes R strict true t j) → AreRelatives R strict f g →
        IsRelative strict s f.reading (whole_in R strict true s i f) t g.reading (whole_in R strict true t j g)
    relative_from g h = record {
      parts = record {
        prefixes = h.prefixes;
        escape = sym g.escaped ∙ h.escape ∙ f.escaped;
        opcode = head_same g.opcode_is f.opcode_is h.byte;
        register = h.register;
        immediate = h.immediate;
        suffix = h.suffix;
      };
      address = record { from = h.from; to = h.to; old = h.old; new = h.new; same = h.same };
    }
