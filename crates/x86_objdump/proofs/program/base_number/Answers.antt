use Rattle.std.proofs.Common.{◌≡◌, ◌∙◌, ℕ, ◌+◌, ◌-◌, ◌≤◌, false, List, ◌++◌, length, take, Option, None, Some, Result, Ok, Err, ap, sym, refl, arith}
use Rattle.std.specs.Prelude.{⊤, ◌==◌, nat_lt, replicate, MatchResult}
use Rattle.std.specs.Result.{result_ok}
use Rattle.std.specs.Int.{w64, from_be_bytes}
use Rattle.std.proofs.lemmas.Bool.{le-ltb}
use Rattle.std.proofs.lemmas.List.{take-replicate, take_all}
use Rattle.hex.specs.declared.error.FromHexError.{FromHexError}
use Rattle.hex.specs.Hex.{decode_sized}
use Rattle.x86_objdump.specs.Program.{base_number, number_in}
use Rattle.x86_objdump.proofs.program.base_number.Goals as goal

decoded : (digits padded : List ℕ) (place : ℕ) → (length digits == 0) ≡ false → length digits ≤ 16 → length padded ≡ 16 →
    place ≡ 16 - length digits + length digits →
    take place padded ≡ take (16 - length digits) (replicate 16 48) ++ digits → base_number digits ≡ number_in (decode_sized padded 8)
decoded digits padded place some few long end text =
    let short : nat_lt 16 (length digits) ≡ false = le-ltb 16 (length digits) few in
    let is : padded ≡ replicate (16 - length digits) 48 ++ digits = sym (take_all place padded (omega (arith, long, end, few))) ∙ text
    ∙ ap (λ zeros. zeros ++ digits) (take-replicate (16 - length digits) 16 48 (omega arith)) in
    rw (some, short, is) refl

module _ (r : Result ⊤ FromHexError) (out : List ℕ) where
  number : (x : Result (List ℕ) FromHexError) → MatchResult x (λ bytes. (r ≡ Ok tt) × (out ≡ bytes)) (λ e. r ≡ Err e) →
      result_ok r ≡ Some tt → Some (from_be_bytes w64 out) ≡ number_in x
  number (Ok bytes) h ok = ap (λ bs. Some (from_be_bytes w64 bs)) h.1
  number (Err e) h ok = let f : result_ok {T = ⊤} {E = FromHexError} (Err e) ≡ Some tt = rw h at ok in absurd (cc)

  no_number : (x : Result (List ℕ) FromHexError) → MatchResult x (λ bytes. (r ≡ Ok tt) × (out ≡ bytes)) (λ e. r ≡ Err e) →
      result_ok r ≡ None → None ≡ number_in x
  no_number (Ok bytes) h bad = let f : result_ok {T = ⊤} {E = FromHexError} (Ok tt) ≡ None = rw h.0 at bad in absurd (cc)
  no_number (Err e) h bad = refl

pub returns-in_err-ok : goal.returns-in_err-ok
returns-in_err-ok c = c.from_residual.ensures ∙ no_number _ _ _ c.decode_to_slice.ensures.value (sym c.ok.ensures.value ∙ c.in_err-ok.was)
    ∙ sym (decoded _ _ _ (sym c.is_empty.ensures ∙ c.if-is_empty.false) c.if-digits-gt16.false c.put_bytes.auto.cells
    c.put_bytes.ensures.place c.put_bytes.ensures.text)

pub returns : goal.returns
returns c = ap (λ n. Some n) c.from_be_bytes.ensures
    ∙ number _ _ _ c.decode_to_slice.ensures.value (sym c.ok.ensures.value ∙ c.in_ok-ok.was)
    ∙ sym (decoded _ _ _ (sym c.is_empty.ensures ∙ c.if-is_empty.false) c.if-digits-gt16.false c.put_bytes.auto.cells
    c.put_bytes.ensures.place c.put_bytes.ensures.text)
