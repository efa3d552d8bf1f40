-- Each answer comes exactly where its case decides.
use Rattle.std.proofs.Common.{◌≡◌, ◌≢◌, ◌↔◌, ℕ, inl, inr, Bool, if◌then◌else◌, List, length, Result, Ok, Err, IsOk, refl, subst, arith}
use Rattle.x86_fields.specs.declared.errors.DecodeError.{DecodeError}
use Rattle.x86_fields.specs.declared.errors.DecodeError.TheVariants.{ExhaustedInput, InvalidOpcode, InvalidOperand, InvalidPrefixes, TooLong, IncompleteDecoder}
use Rattle.x86_fields.specs.Run.{reading_of}
use Rattle.x86_operands.specs.declared.vocabulary.Fault.TheVariants.{BadOpcode, BadOperand, Incomplete}
use Rattle.std.proofs.lemmas.Bool.{cond_both}
use Rattle.x86_decode.specs.declared.instructions.Instruction.{Instruction}
use Rattle.x86_decode.specs.Head.{Rows, bars_vex}
use Rattle.x86_decode.specs.Grammar.{case_1, case_2, case_3, case_4, Decides, by_bytes, case_5, IsRefusal, IsTooLong, IsAnswer}
use Rattle.x86_decode.specs.Causes.{FaultsOpcode, FaultsOperand, FaultsPrefixes, LeavesOut, IsDecidedBy, IsUndecided, HasSentence}
use Rattle.x86_decode.proofs.Theorem.{refusal_iff}
use Rattle.x86_decode.proofs.AnswerLemmas.{once}

-- what a byte string is that decides an error
abbrev pub Faults : Rows → Bool → DecodeError → List ℕ → Type 0
Faults rows strict ExhaustedInput q = ⊥
Faults rows strict InvalidOpcode q = FaultsOpcode rows strict q
Faults rows strict InvalidOperand q = FaultsOperand rows strict q
Faults rows strict InvalidPrefixes q = FaultsPrefixes rows strict q
Faults rows strict TooLong q = IsTooLong rows strict q
Faults rows strict IncompleteDecoder q = LeavesOut rows strict q

module _ (rows : Rows) (strict : Bool) where
  -- what decides an error is one of its causes
  cause_of : (q : List ℕ) (e : DecodeError) → Decides rows strict q e → Faults rows strict e q
  cause_of q e (by_bytes (case_1 c)) = cond_both (bars_vex (reading_of c.run)) InvalidPrefixes IncompleteDecoder
      (λ e. Faults rows strict e q) (λ t. inl (c, t)) (λ t. inl (c, t))
  cause_of q e (by_bytes (case_2 c)) = inl c
  cause_of q e (by_bytes (case_3 BadOpcode c)) = inr c
  cause_of q e (by_bytes (case_3 BadOperand c)) = c
  cause_of q e (by_bytes (case_3 Incomplete c)) = inr c
  cause_of q e (by_bytes (case_4 c)) = inr c
  cause_of q e (case_5 c) = c

  -- and each of its causes decides it
  decided : (q : List ℕ) (e : DecodeError) → Faults rows strict e q → Decides rows strict q e
  decided q ExhaustedInput f = absurd f
  decided q InvalidOpcode (inl c) = by_bytes (case_2 c)
  decided q InvalidOpcode (inr c) = by_bytes (case_3 BadOpcode c)
  decided q InvalidOperand c = by_bytes (case_3 BadOperand c)
  decided q InvalidPrefixes (inl c) = subst (λ b. Decides rows strict q (if b then InvalidPrefixes else IncompleteDecoder)) c.1 (by_bytes (case_1 c.0))
  decided q InvalidPrefixes (inr c) = by_bytes (case_4 c)
  decided q TooLong c = case_5 c
  decided q IncompleteDecoder (inl c) = subst (λ b. Decides rows strict q (if b then InvalidPrefixes else IncompleteDecoder)) c.1 (by_bytes (case_1 c.0))
  decided q IncompleteDecoder (inr c) = by_bytes (case_3 Incomplete c)

  pub refused_for : (input : List ℕ) (r : Result Instruction DecodeError) (n : ℕ) → IsAnswer rows strict input r n → (e : DecodeError) →
      e ≢ ExhaustedInput → (r ≡ Err e) ↔ IsDecidedBy rows strict (Faults rows strict e) input
  refused_for input r n a e d = (
    λ same. let k : IsRefusal rows strict input e n = (refusal_iff rows strict input n e d).1 (rw same at a) in
        record {
          beginning = k.beginning;
          rest = k.rest;
          begins = k.begins;
          is = cause_of k.beginning e k.decides;
          shortest = λ q more f h g. omega (arith, k.shortest q more f h g, k.long);
          no_sentence = k.no_sentence;
        },
    λ k. (once rows strict input r (Err e) n (length k.beginning) a ((refusal_iff rows strict input (length k.beginning) e d).0
        (record {
          beginning = k.beginning;
          rest = k.rest;
          begins = k.begins;
          decides = decided k.beginning e k.is;
          long = refl;
          shortest = k.shortest;
          no_sentence = k.no_sentence;
        }))).0,
  )

  pub exhausted : (input : List ℕ) (r : Result Instruction DecodeError) (n : ℕ) → IsAnswer rows strict input r n →
      (r ≡ Err ExhaustedInput) ↔ IsUndecided rows strict input
  exhausted input (Ok i) n a = (λ e. absurd cc, λ u. absurd (u.no_sentence a.sentence a.rest i a.begins a.is))
  exhausted input (Err ExhaustedInput) n a = (λ e. record { no_sentence = a.no_sentence; undecided = a.undecided }, λ u. refl)
  exhausted input (Err f) n a = (λ e. absurd cc, λ u. absurd (u.undecided a.beginning a.rest f a.begins a.decides))

  -- a prefix is a sentence exactly where the answer is Ok
  pub accepted : (input : List ℕ) (r : Result Instruction DecodeError) (n : ℕ) → IsAnswer rows strict input r n → IsOk r ↔ HasSentence rows strict input
  accepted input (Ok i) n a = (λ ok. record { sentence = a.sentence; rest = a.rest; answer = i; begins = a.begins; is = a.is }, λ h. refl)
  accepted input (Err ExhaustedInput) n a = (λ ok. absurd cc, λ h. absurd (a.no_sentence h.sentence h.rest h.answer h.begins h.is))
  accepted input (Err e) n a = (λ ok. absurd cc, λ h. absurd (a.no_sentence h.sentence h.rest h.answer h.begins h.is))
