-- What a run reads as whose live REX has other bits X and B.
use Rattle.std.proofs.Common.{◌≡◌, ℕ, suc, ◌==◌, Bool, true, false, if◌then◌else◌, Option, Some, List, [], ◌∷◌, ◌++◌, length, refl, ap, arith}
use Rattle.std.specs.List.{filter, list_any}
use Rattle.std.proofs.lemmas.Bool.Decides.{nat_tests}
use Rattle.x86_fields.specs.declared.prefixes.Prefixes.{Prefixes}
use Rattle.x86_fields.specs.declared.rex.PrefixRex.{PrefixRex}
use Rattle.x86_fields.specs.Run.{is_rex, is_prefix, is_repeat_byte, is_segment_byte, last, rex_named, reading_of}
use Rattle.x86_forms.specs.declared.Map.{Map}
use Rattle.x86_decode.specs.Head.{is_run, column_of, seen_by}
use Rattle.x86_layout.specs.Tightening.Tighten.{bits_in, byte_with, run_with}

-- ---- the byte

stays_rex : (x b : Bool) (byte : ℕ) → is_rex (byte_with x b byte) ≡ is_rex byte
stays_rex x b byte = grind (arith, nat_tests)

cleared : (x b : Bool) (byte : ℕ) → byte_with false false (byte_with x b byte) ≡ byte_with false false byte
cleared x b byte = grind (arith, nat_tests)

-- ---- what is said of each byte

kept : (kind : ℕ → Bool) (n m : ℕ) → kind m ≡ kind n → (kind n ≡ true → m ≡ n) → (if kind m then m ∷ [] else []) ≡ (if kind n then n ∷ [] else [])
kept kind n m e f = grind arith

module _ (x b : Bool) (kind : ℕ → Bool) (stays : (n : ℕ) → kind (byte_with x b n) ≡ kind n) where
  any_stays : (run : List ℕ) → list_any kind (run_with x b run) ≡ list_any kind run
  unfolding run_with
  any_stays [] = refl
  any_stays (byte ∷ []) = cc (stays byte)
  any_stays (byte ∷ next ∷ rest) = cc (any_stays (next ∷ rest))

  module _ (same : (n : ℕ) → kind n ≡ true → byte_with x b n ≡ n) where
    filter_stays : (run : List ℕ) → filter kind (run_with x b run) ≡ filter kind run
    unfolding run_with
    filter_stays [] = refl
    filter_stays (byte ∷ []) = kept kind byte (byte_with x b byte) (stays byte) (same byte)
    filter_stays (byte ∷ next ∷ rest) = cc (filter_stays (next ∷ rest))

-- ---- the bits

named_by : (x b t : Bool) (byte : ℕ) → is_rex byte ≡ t → is_rex (byte_with x b byte) ≡ t →
    rex_named (Some (byte_with x b byte)) ≡ bits_in x b (rex_named (Some byte))
named_by x b t byte e f = grind (arith, nat_tests)

rex_stays : (x b : Bool) (run : List ℕ) → rex_named (last (run_with x b run)) ≡ bits_in x b (rex_named (last run))
unfolding run_with
rex_stays x b [] = refl
rex_stays x b (byte ∷ []) = named_by x b (is_rex byte) byte refl (stays_rex x b byte)
rex_stays x b (byte ∷ next ∷ []) = rex_stays x b (next ∷ [])
rex_stays x b (byte ∷ next ∷ other ∷ rest) = rex_stays x b (next ∷ other ∷ rest)

-- ---- the run

pub reading_is : (x b : Bool) (run : List ℕ) → reading_of (run_with x b run) ≡ record (reading_of run) { rex = bits_in x b (reading_of run).rex }
reading_is x b run =
    let first = any_stays x b (λ n. n == 0x66) (λ n. grind (arith, nat_tests)) run in
    let second = any_stays x b (λ n. n == 0x67) (λ n. grind (arith, nat_tests)) run in
    let third = any_stays x b (λ n. n == 0xf0) (λ n. grind (arith, nat_tests)) run in
    let fourth = filter_stays x b is_repeat_byte (λ n. grind (arith, nat_tests)) (λ n h. grind (arith, nat_tests)) run in
    let fifth = filter_stays x b is_segment_byte (λ n. grind (arith, nat_tests)) (λ n h. grind (arith, nat_tests)) run in
    rw (first, second, third, fourth, fifth, rex_stays x b run) refl

prefix_stays : (x b : Bool) (byte : ℕ) → is_prefix (byte_with x b byte) ≡ is_prefix byte
prefix_stays x b byte = grind (arith, nat_tests)

pub run_stays : (x b : Bool) (run : List ℕ) → is_run (run_with x b run) ≡ is_run run
unfolding run_with
run_stays x b [] = refl
run_stays x b (byte ∷ []) = cc (prefix_stays x b byte)
run_stays x b (byte ∷ next ∷ rest) = cc (run_stays x b (next ∷ rest))

pub length_stays : (x b : Bool) (run : List ℕ) → length (run_with x b run) ≡ length run
unfolding run_with
length_stays x b [] = refl
length_stays x b (byte ∷ []) = refl
length_stays x b (byte ∷ next ∷ rest) = ap suc (length_stays x b (next ∷ rest))

-- clearing the bits of a run with other bits
pub run_cleared : (x b : Bool) (run : List ℕ) → run_with false false (run_with x b run) ≡ run_with false false run
unfolding run_with
run_cleared x b [] = refl
run_cleared x b (byte ∷ []) = cc (cleared x b byte)
run_cleared x b (byte ∷ next ∷ []) = cc (cleared x b next)
run_cleared x b (byte ∷ next ∷ other ∷ rest) = cc (run_cleared x b (next ∷ other ∷ rest))

-- the last byte alone is another
pub run_at_end : (x b : Bool) (beginning : List ℕ) (byte : ℕ) → run_with x b (beginning ++ byte ∷ []) ≡ beginning ++ byte_with x b byte ∷ []
unfolding run_with
run_at_end x b [] byte = refl
run_at_end x b (first ∷ []) byte = refl
run_at_end x b (first ∷ next ∷ beginning) byte = cc (run_at_end x b (next ∷ beginning) byte)

-- ---- what a record sees

module _ (m : Map) (opcode : ℕ) (p : Prefixes) where
  pub seen_rex : (seen_by m opcode p).rex ≡ p.rex
  seen_rex = grind arith

  pub seen_67 : (seen_by m opcode p).address_size ≡ p.address_size
  seen_67 = grind arith

  seen_other : (rex : Option PrefixRex) → seen_by m opcode (record p { rex = rex }) ≡ record (seen_by m opcode p) { rex = rex }
  seen_other rex = grind arith

pub seen_with : (m : Map) (opcode : ℕ) (x b : Bool) (run : List ℕ) →
    seen_by m opcode (reading_of (run_with x b run)) ≡ record (seen_by m opcode (reading_of run)) { rex = bits_in x b (seen_by m opcode (reading_of run)).rex }
seen_with m opcode x b run = let p = reading_of run in cc (reading_is x b run, seen_other m opcode p (bits_in x b p.rex), seen_rex m opcode p)

pub column_stays : (x b : Bool) (run : List ℕ) → column_of (reading_of (run_with x b run)) ≡ column_of (reading_of run)
column_stays x b run = ap column_of (reading_is x b run)
