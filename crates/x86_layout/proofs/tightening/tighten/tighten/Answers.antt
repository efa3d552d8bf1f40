use Rattle.std.proofs.Common.{◌≡◌, Bool, false, List, ℕ, zero, suc, [], ◌∷◌, slice_index, Err, Fits, w8, sym, ap, subst, arith, ◌∙◌}
use Rattle.std.proofs.lemmas.Bool.Decides.{nat_tests}
use Rattle.x86_fields.specs.declared.raw.Raw.{Raw}
use Rattle.x86_fields.specs.Parts.{PartLists, lists_of}
use Rattle.x86_forms.specs.Words.{rows_of, packed}
use Rattle.x86_decode.proofs.ByteLemmas.{Bytes, bytes_before}
use Rattle.x86_decode.specs.declared.instructions.Instruction.{Instruction}
use Rattle.x86_decode.specs.Grammar.{IsSentence}
use Rattle.x86_layout.specs.declared.tightening.tighten.Addressed.{Addressed}
use Rattle.x86_layout.specs.declared.tightening.tighten.TightenError.{TightenError}
use Rattle.x86_layout.specs.declared.tightening.tighten.TightenError.TheVariants.{Refused, NoMemoryForm, IpRelative}
use Rattle.x86_layout.specs.Parts.Fields.{lists_in}
use Rattle.x86_layout.specs.Parts.Split.{IsFirstSentence, joined}
use Rattle.x86_layout.specs.Tightening.Shortest.{shortest, IsOfBytes}
use Rattle.x86_layout.specs.Tightening.Tighten.{respelled, OfFirstSentence, Statement, HasNoRelative, IsAddressed, IsNotTightened}
use Rattle.x86_layout.proofs.PartLemmas.OfBytes.{lengths_of}
use Rattle.x86_layout.proofs.TightenLemmas.Relative.{Bytes', fits, raw_of_bytes, shortest_relative}
use Rattle.x86_layout.proofs.TightenLemmas.Tighten.{keeps, least_beginning, least_of_shortest, operand_form, respelled_is}
use Rattle.x86_layout.proofs.tightening.tighten.tighten.Goals as goal

bytes_at : (l : List ℕ) → ((i : ℕ) → Fits w8 (slice_index l i)) → Bytes l
bytes_at [] h = tt
bytes_at (b ∷ l) h = (let f : Fits w8 b = h zero in omega (arith, f), bytes_at l (λ i. h (suc i)))

module _ {strict : Bool} {bytes encoding : List ℕ} {instruction : Instruction} (beginning : IsFirstSentence strict bytes encoding instruction) where
  abbrev Sentence : List ℕ → Instruction → Type 0
  Sentence s a = IsSentence (rows_of packed) strict s a

  -- what holds of an encoding at the beginning holds of each sentence there
  of_first_sentence : (Holds : Statement) → ((is : Sentence encoding instruction) → Holds strict encoding is.reading is.whole) →
      OfFirstSentence strict bytes Holds
  of_first_sentence Holds each = record {
    instruction = instruction;
    accepted = beginning.accepted;
    of_it = λ s rest a is begins.
        let same = beginning.alone s rest a is begins in
        let of_answer : (is : Sentence encoding a) → Holds strict encoding is.reading is.whole =
        subst (λ i. (is : Sentence encoding i) → Holds strict encoding is.reading is.whole) (sym same.1) each in
        subst (λ l. (is : Sentence l a) → Holds strict l is.reading is.whole) (sym same.0) of_answer is;
  }

  not_tightened : (error : TightenError) → ((is : Sentence encoding instruction) → HasNoRelative strict encoding is.reading is.whole error) →
      IsNotTightened strict bytes error
  not_tightened NoMemoryForm each = of_first_sentence _ each
  not_tightened IpRelative each = of_first_sentence _ each
  not_tightened (Refused error) each = absurd (each beginning.is)

  bytes_in : ((i : ℕ) → Fits w8 (slice_index bytes i)) → Bytes encoding
  bytes_in small = bytes_before encoding beginning.rest (subst Bytes beginning.begins (bytes_at bytes small))

module _ {strict : Bool} {s : List ℕ} {a : Instruction} (is : IsSentence (rows_of packed) strict s a) {found : Addressed}
    (h : IsAddressed strict s is.reading is.whole found) (all : Bytes s) where
  fit : IsOfBytes found.raw
  fit = raw_of_bytes is.whole found.raw h.read all

  spelled : {l : PartLists} {raw : Raw} → raw ≡ shortest found.raw → l ≡ respelled (lists_of found.parts) raw → joined l ≡ Bytes' is.whole h.read fit
  spelled e g = cc (e, g, respelled_is is.whole h.read (lists_of found.parts) h.parts fit)

pub addressed_in-requires : goal.addressed_in-requires
addressed_in-requires c = record { strict = c.args.decoder.now.strict; is = c.encoding_of.ensures.is }

in_err : (c : goal.After-from_residual) → c.from_residual.result ≡ Err c.in_err-found.field-0.0
in_err c = grind arith

pub returns-in_err-found-clause-shortest : goal.returns-in_err-found-clause-shortest
returns-in_err-found-clause-shortest c =
    rw (in_err c) (not_tightened c.encoding_of.ensures c.in_err-found.field-0.0 (c.in_err-found.ensures c.args.decoder.now.strict))

pub returns-in_err-found-clause-least : goal.returns-in_err-found-clause-least
returns-in_err-found-clause-least c =
    let first = c.encoding_of.ensures in
    let kept = keeps first.is.whole c.in_err-found.field-0.0 (c.in_err-found.ensures c.args.decoder.now.strict first.is) in
    rw (in_err c) (λ i e. cc (least_beginning first, kept, first.long, first.accepted, e))

pub respelled-requires : goal.respelled-requires
respelled-requires c = lengths_of (c.in_ok-found.ensures c.args.decoder.now.strict c.encoding_of.ensures.is).parts c.encoding_of.ensures.is.short

pub unwrap-requires : goal.unwrap-requires
unwrap-requires c =
    let is = c.encoding_of.ensures.is in
    let h = c.in_ok-found.ensures c.args.decoder.now.strict is in
    let all = bytes_in c.encoding_of.ensures c.type_inv.bytes in
    let short = fits is.whole h.read (fit is h all) _ (spelled is h all c.shortest.ensures c.respelled.ensures) is.short h.form in
    grind (arith, nat_tests, c.joined.ensures.short, short)

written : (c : goal.After-unwrap) → c.unwrap.result.items ≡ joined (lists_in c.respelled.result)
written c = rw c.unwrap.ensures at c.joined.ensures.bytes

pub returns-clause-shortest : goal.returns-clause-shortest
returns-clause-shortest c = of_first_sentence c.encoding_of.ensures _ (λ is.
    let h = c.in_ok-found.ensures c.args.decoder.now.strict is in
    let all = bytes_in c.encoding_of.ensures c.type_inv.bytes in
    record {
      form = operand_form is.whole c.in_ok-found.found.raw h.read false h.form;
      shortest = shortest_relative is.whole h.read (fit is h all) c.unwrap.result.items
          (written c ∙ spelled is h all c.shortest.ensures c.respelled.ensures) is.lock is.short h.form;
    })

pub returns-clause-least : goal.returns-clause-least
returns-clause-least c =
    let is = c.encoding_of.ensures.is in
    let h = c.in_ok-found.ensures c.args.decoder.now.strict is in
    let all = bytes_in c.encoding_of.ensures c.type_inv.bytes in
    least_of_shortest is.whole h.read (fit is h all) c.unwrap.result.items (written c ∙ spelled is h all c.shortest.ensures c.respelled.ensures) h.form
    ∙ sym (least_beginning c.encoding_of.ensures)
