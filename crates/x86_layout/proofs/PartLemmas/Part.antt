-- Where the parts of an encoding are.
use Rattle.std.proofs.Common.{◌≡◌, ℕ, ◌≤◌, ◌==◌, ◌&&◌, Bool, true, List, [], ◌∷◌, ◌++◌, length, take, drop, slice_index, Option, refl, arith}
use Rattle.std.specs.List.{list_all, prefix_len, take_while}
use Rattle.std.proofs.lemmas.List.Sums.{take_while-cons}
use Rattle.std.proofs.Math.Seq.{take-append_seam, drop-append_seam}
use Rattle.std.proofs.lemmas.Bool.{and_parts}
use Rattle.std.proofs.lemmas.Bool.Decides.{nat_tests}
use Rattle.x86_fields.specs.Run.{is_prefix}
use Rattle.x86_fields.specs.ModRM.{rm_field, is_memory}
use Rattle.x86_fields.specs.Pieces.{option_bytes}
use Rattle.x86_fields.specs.declared.prefixes.Prefixes.{Prefixes}
use Rattle.x86_forms.specs.declared.Map.{Map}
use Rattle.x86_operands.specs.declared.vocabulary.Verdict.{Verdict}
use Rattle.x86_operands.specs.declared.vocabulary.ModrmUse.{ModrmUse}
use Rattle.x86_operands.specs.Records.{RowRecord, order_of}
use Rattle.x86_operands.specs.Asks.{modrm_of, immediates_width, uses_modrm, uses_suffix, used_modrm, ask_of}
use Rattle.x86_operands.specs.Pieces.{modrm_width, suffix_width, SpellsRow}
use Rattle.x86_decode.specs.Head.{is_run, escape_bytes, is_opcode}
use Rattle.x86_operands.specs.declared.asks.Ask.{Ask}
use Rattle.x86_operands.specs.declared.reader.Reading.{Reading}
use Rattle.x86_operands.specs.Templates.{has_address}
use Rattle.x86_layout.specs.Parts.Heads.{map_of, one_if, has_sib}
use Rattle.x86_layout.specs.Parts.Split.{sib_width}

-- ---- lengths

-- a part of one byte, or none
pub option_short : (o : Option ℕ) → length (option_bytes o) ≤ 1
option_short o = grind arith

-- ---- pieces of a list

pub cut_is : {xs : List ℕ} (a b : List ℕ) {n : ℕ} → xs ≡ a ++ b → n ≡ length a → (take n xs ≡ a) × (drop n xs ≡ b)
cut_is a b e h = (cc (take-append_seam a b), cc (drop-append_seam a b))

-- a list in two ways of two parts
pub halves : (xs ys a b : List ℕ) → xs ++ ys ≡ a ++ b → length xs ≡ length a → (xs ≡ a) × (ys ≡ b)
halves xs ys a b e h = (cc (take-append_seam xs ys, take-append_seam a b), cc (drop-append_seam xs ys, drop-append_seam a b))

-- ---- the run

-- it ends before an escape, and before an opcode byte without one
pub run_length_is : (run : List ℕ) (m : Map) (b : ℕ) (tail : List ℕ) → is_run run ≡ true → is_opcode m b ≡ true →
    prefix_len is_prefix (run ++ (escape_bytes m ++ b ∷ tail)) ≡ length run
run_length_is [] m b tail h k = grind (arith, nat_tests)
run_length_is (c ∷ run) m b tail h k =
    let both = and_parts (is_prefix c) (is_run run) h in
    let following = run_length_is run m b tail both.1 k in
    rw (both.0) (omega (arith, following))

pub all_pass : (p : ℕ → Bool) (xs : List ℕ) → list_all p (take_while p xs) ≡ true
all_pass p [] = refl
all_pass p (x ∷ xs) = let e = take_while-cons p x xs in let h = all_pass p xs in grind arith

-- ---- the escape

pub map_is : (m : Map) (b : ℕ) (tail : List ℕ) → is_opcode m b ≡ true →
    map_of (slice_index (escape_bytes m ++ b ∷ tail) 0) (slice_index (escape_bytes m ++ b ∷ tail) 1) ≡ m
map_is m b tail h = grind (arith, nat_tests)

-- ---- what a row has

used_is : (u : ModrmUse) (modrm more tail : List ℕ) → tail ≡ modrm ++ more → length modrm ≡ modrm_width u → modrm_of u modrm ≡ used_modrm u (slice_index tail 0)
used_is u modrm more tail e h = grind (arith, nat_tests)

pub use_width : (u : ModrmUse) → one_if (uses_modrm u) ≡ modrm_width u
use_width u = grind arith

pub verdict_width : (v : Verdict) → one_if (uses_suffix v) ≡ suffix_width v
verdict_width v = grind arith

-- ---- SIB

pub as_it_is : (u : ModrmUse) (m : ℕ) → is_memory (used_modrm u m) ≡ true → used_modrm u m ≡ m
as_it_is u m e = grind (arith, nat_tests)

pub sib_present : (u : ModrmUse) (m : ℕ) → one_if (is_memory (used_modrm u m) && rm_field m == 4) ≡ sib_width (used_modrm u m)
sib_present u m = let h = as_it_is u m in grind arith

-- ---- the counts of an ask

module _ {r : RowRecord} {p : Prefixes} {tail : List ℕ} {reading : Reading} (a : SpellsRow r p tail reading) where
  abbrev m : ℕ
  m = modrm_of r.modrm a.modrm

  pub immediates_long : length a.tail_spelled.pieces.immediates ≡ immediates_width (r.instance m)
  immediates_long = a.tail_spelled.pieces.immediates_length

  -- further bytes come after the pieces of a row
  module _ {all : List ℕ} (more : List ℕ) (e : all ≡ a.modrm ++ more) where
    pub read_as : m ≡ used_modrm r.modrm (slice_index all 0)
    read_as = used_is r.modrm a.modrm more all e a.modrm_length

    module _ {ask : Ask} (k : ask ≡ ask_of r (slice_index all 0)) where
      pub modrm_count : one_if ask.modrm ≡ length a.modrm
      unfolding ask_of
      modrm_count = cc (k, use_width r.modrm, a.modrm_length)

      pub sib_count : has_address (order_of (r.instance m)).rm m ≡ is_memory m → one_if (has_sib ask (slice_index all 0)) ≡ sib_width m
      unfolding ask_of
      sib_count there = cc (k, sib_present r.modrm (slice_index all 0), read_as, there)

      pub immediate_count : ask.immediate ≡ length a.tail_spelled.pieces.immediates
      unfolding ask_of
      immediate_count = cc (k, read_as, immediates_long)

      pub suffix_count : one_if ask.suffix ≡ length a.tail_spelled.pieces.suffix
      unfolding ask_of
      suffix_count = cc (k, read_as, verdict_width (r.instance m).verdict, a.tail_spelled.pieces.suffix_length)
