-- What follows of the headline: it fixes its functions, and so what holds of those of the calls holds of any that have it.
use Rattle.std.proofs.Common.{◌≡◌, ◌≢◌, ◌↔◌, ℕ, zero, suc, ◌+◌, ◌<◌, ◌≤◌, Bool, IsTrue, true, false, List, [], ◌∷◌, ◌++◌, length, take, drop, Result}
use Rattle.std.proofs.Common.{Ok, Err, refl, sym, ap, ◌∙◌, subst, arith, append_assoc, length-append, take-append-drop}
use Rattle.std.proofs.Math.Seq.{take-append_seam}
use Rattle.x86_fields.specs.declared.errors.DecodeError.{DecodeError}
use Rattle.x86_fields.specs.declared.errors.DecodeError.TheVariants.{ExhaustedInput, InvalidOpcode, InvalidOperand, InvalidPrefixes, TooLong, IncompleteDecoder}
use Rattle.x86_fields.specs.declared.raw.Raw.{Raw}
use Rattle.x86_decode.specs.declared.instructions.Instruction.{Instruction}
use Rattle.x86_decode.specs.Head.{Rows}
use Rattle.x86_decode.specs.Instruction.{length_of}
use Rattle.x86_layout.specs.declared.parts.fields.Fields.{Fields}
use Rattle.x86_layout.specs.Sweeps.Cuts.{cut_length}
use Rattle.x86_layout.specs.Parts.Fields.{lists_in}
use Rattle.x86_layout.specs.Parts.Split.{joined}
use Rattle.x86_layout.specs.Tightening.Registers.{is_ip_relative}
use Rattle.x86_streams.specs.declared.text.reader.Ending.{Ending}
use Rattle.x86_cli.specs.Consequences.{AreSame}
use Rattle.x86_cli.specs.Headline.{BeginsWith, Functions, HasRaw, Headline, IsByteString, Sentence}
use Rattle.x86_cli.specs.Sentences.{Encodes}
use Rattle.x86_cli.specs.Listings.Line.{line}
use Rattle.x86_cli.specs.Listings.Listing.{with_lines}

-- an answer is that of open bytes, or another
pub by_kind : (r : Result Instruction DecodeError) (P : Type 0) → (r ≡ Err ExhaustedInput → P) → (r ≢ Err ExhaustedInput → P) → P
by_kind (Ok i) P here other = other (λ e. absurd (cc))
by_kind (Err ExhaustedInput) P here other = here refl
by_kind (Err InvalidOpcode) P here other = other (λ e. absurd (cc))
by_kind (Err InvalidOperand) P here other = other (λ e. absurd (cc))
by_kind (Err InvalidPrefixes) P here other = other (λ e. absurd (cc))
by_kind (Err TooLong) P here other = other (λ e. absurd (cc))
by_kind (Err IncompleteDecoder) P here other = other (λ e. absurd (cc))

accepts : {r : Result Instruction DecodeError} {i : Instruction} → r ≡ Ok i → r ≢ Err ExhaustedInput
accepts e f = absurd (cc (e, f))

alike : (a b : Bool) → (IsTrue a → IsTrue b) → (IsTrue b → IsTrue a) → a ≡ b
alike true b to back = sym (to refl)
alike false true to back = back refl
alike false false to back = refl

module _ (rows : Rows) (strict : Bool) where
  -- a sentence has a byte
  pub some_byte : (s : List ℕ) (i : Instruction) → Sentence rows strict s i → 0 < length s
  some_byte s i f =
      let p = f.parts in
      let tail = p.modrm ++ ((p.sib ++ p.displacement) ++ (p.immediate ++ p.suffix)) in
      omega (
        arith,
        ap length f.whole ∙ length-append p.prefixes (p.escape ++ (p.opcode ++ tail)),
        length-append p.escape (p.opcode ++ tail),
        length-append p.opcode tail,
        ap length f.opcode_is,
      )

  pub long_as : (s : List ℕ) (i : Instruction) → Sentence rows strict s i → length_of i ≡ length s
  long_as s i f = ap (λ i. i.length) f.yields

  module _ (a : Functions) (h : Headline rows strict a) where
    begins : (bytes : List ℕ) (i : Instruction) → a.answer bytes ≡ Ok i → BeginsWith rows strict bytes (Ok i)
    begins bytes i e = (h.answers bytes (Ok i) (accepts refl)).0 e

    pub first_bytes : (bytes : List ℕ) (i : Instruction) → (a.answer bytes ≡ Ok i) ↔ Sentence rows strict (take (length_of i) bytes) i
    first_bytes bytes i = (
      λ e.
          let w = begins bytes i e in
          let same : w.0 ≡ take (length_of i) bytes =
          sym (take-append_seam w.0 w.1) ∙ ap (λ n. take n (w.0 ++ w.1)) (sym (long_as w.0 i w.3)) ∙ ap (take (length_of i)) (sym w.2) in
          subst (λ s. Sentence rows strict s i) same w.3,
      λ f. (h.answers bytes (Ok i) (accepts refl)).1 (take (length_of i) bytes, drop (length_of i) bytes, sym (take-append-drop (length_of i) bytes), f),
    )

    pub stays : (bytes more : List ℕ) → a.answer bytes ≢ Err ExhaustedInput → a.answer (bytes ++ more) ≡ a.answer bytes
    stays bytes more differs =
        let w = (h.answers bytes (a.answer bytes) differs).0 refl in
        (h.answers (bytes ++ more) (a.answer bytes) differs).1
        (w.0, w.1 ++ more, ap (λ xs. xs ++ more) w.2 ∙ append_assoc w.0 w.1 more, w.3)

    module _ (b : Functions) (k : Headline rows strict b) where
      answers : (bytes : List ℕ) → a.answer bytes ≡ b.answer bytes
      answers bytes = by_kind (a.answer bytes) (a.answer bytes ≡ b.answer bytes)
          (λ is. by_kind (b.answer bytes) (a.answer bytes ≡ b.answer bytes) (λ both. is ∙ sym both)
          (λ differs. (h.answers bytes (b.answer bytes) differs).1 ((k.answers bytes (b.answer bytes) differs).0 refl)))
          (λ differs. sym ((k.answers bytes (a.answer bytes) differs).1 ((h.answers bytes (a.answer bytes) differs).0 refl)))

      fewer : (n : ℕ) (xs s rest : List ℕ) (i : Instruction) → length xs ≤ suc n → xs ≡ s ++ rest → Sentence rows strict s i → length rest ≤ n
      fewer n xs s rest i le begins f = omega (arith, le, ap length begins ∙ length-append s rest, some_byte s i f)

      module _ (text : ℕ → Instruction → List ℕ → List ℕ) (ending : Ending) where
        lists_by : (n place x : ℕ) (xs : List ℕ) → ((p : ℕ) (ys : List ℕ) → length ys ≤ n → a.lists text p ys ending ≡ b.lists text p ys ending) →
            length xs ≤ n → (r : Result Instruction DecodeError) → a.answer (x ∷ xs) ≡ r →
            a.lists text place (x ∷ xs) ending ≡ b.lists text place (x ∷ xs) ending
        lists_by n place x xs shorter le (Ok i) e =
            let w = begins (x ∷ xs) i e in
            subst (λ ys. a.lists text place ys ending ≡ b.lists text place ys ending) (sym w.2)
            (h.listed_sentence text place w.0 w.1 i ending w.3
            ∙ ap (with_lines (line (text place i w.0) ∷ [])) (shorter (place + length w.0) w.1 (fewer n (x ∷ xs) w.0 w.1 i (omega (arith, le)) w.2 w.3))
            ∙ sym (k.listed_sentence text place w.0 w.1 i ending w.3))
        lists_by n place x xs shorter le (Err error) e =
            h.listed_error text place x xs error ending e ∙ sym (k.listed_error text place x xs error ending (sym (answers (x ∷ xs)) ∙ e))

        lists : (n place : ℕ) (xs : List ℕ) → length xs ≤ n → a.lists text place xs ending ≡ b.lists text place xs ending
        lists n place [] le = h.listed_end text place ending ∙ sym (k.listed_end text place ending)
        lists zero place (x ∷ xs) le = absurd (omega (arith, le))
        lists (suc n) place (x ∷ xs) le = lists_by n place x xs (λ p ys. lists n p ys) (omega (arith, le)) (a.answer (x ∷ xs)) refl

      cut_and : (n place : ℕ) (piece after : List ℕ) (r : Result Instruction DecodeError) → a.answer (piece ++ after) ≡ r → length piece ≡ cut_length r →
          a.cuts (place + length piece) after ≡ b.cuts (place + length piece) after → a.cuts place (piece ++ after) ≡ b.cuts place (piece ++ after)
      cut_and n place piece after r e long rest =
          h.first_cut place piece after r e long ∙ ap (λ cs. record { place = place; length = length piece; answer = r } ∷ cs) rest
          ∙ sym (k.first_cut place piece after r (sym (answers (piece ++ after)) ∙ e) long)

      cuts_by : (n place x : ℕ) (xs : List ℕ) → ((p : ℕ) (ys : List ℕ) → length ys ≤ n → a.cuts p ys ≡ b.cuts p ys) → length xs ≤ n →
          (r : Result Instruction DecodeError) → a.answer (x ∷ xs) ≡ r → a.cuts place (x ∷ xs) ≡ b.cuts place (x ∷ xs)
      cuts_by n place x xs shorter le (Ok i) e =
          let w = begins (x ∷ xs) i e in
          subst (λ ys. a.cuts place ys ≡ b.cuts place ys) (sym w.2) (cut_and n place w.0 w.1 (Ok i) (ap a.answer (sym w.2) ∙ e) (sym (long_as w.0 i w.3))
          (shorter (place + length w.0) w.1 (fewer n (x ∷ xs) w.0 w.1 i (omega (arith, le)) w.2 w.3)))
      cuts_by n place x xs shorter le (Err error) e = cut_and n place (x ∷ []) xs (Err error) e refl (shorter (place + 1) xs le)

      cuts : (n place : ℕ) (xs : List ℕ) → length xs ≤ n → a.cuts place xs ≡ b.cuts place xs
      cuts n place [] le = h.no_cut place ∙ sym (k.no_cut place)
      cuts zero place (x ∷ xs) le = absurd (omega (arith, le))
      cuts (suc n) place (x ∷ xs) le = cuts_by n place x xs (λ p ys. cuts n p ys) (omega (arith, le)) (a.answer (x ∷ xs)) refl

      pub permits : (f : Fields) → IsTrue (a.permits f) → IsTrue (b.permits f)
      permits f p = (k.permitted f).1 ((h.permitted f).0 p)

      pub at_most : (s : List ℕ) (i : Instruction) (is : Sentence rows strict s i) (n : ℕ) (raw : Raw) → HasRaw rows strict is n raw →
          is_ip_relative raw ≡ false → IsByteString s → a.least s ≤ b.least s
      at_most s i is n raw has differs bytes =
          let t = k.shortest s i is n raw has differs bytes in
          omega (arith, t.5, h.least s t.0 i t.1 is t.2 n raw has differs bytes t.4 t.3)

  pub same : (a b : Functions) → Headline rows strict a → Headline rows strict b → AreSame rows strict a b
  same a b h k = record {
    answer = answers a h b k;
    lists = λ text place image ending. lists a h b k text ending (length image) place image (omega arith);
    cuts = λ place bytes. cuts a h b k (length bytes) place bytes (omega arith);
    parts = λ s rest i is. h.parts s rest i is ∙ sym (k.parts s rest i is);
    permits = λ f. alike (a.permits f) (b.permits f) (permits a h b k f) (permits b k a h f);
    least = λ s i is n raw has differs bytes.
        omega (arith, at_most a h b k s i is n raw has differs bytes, at_most b k a h s i is n raw has differs bytes);
  }
