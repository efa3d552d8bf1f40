-- The parts of an encoding, cut out at the places of their ends.
use Rattle.std.proofs.Common.{◌≡◌, ℕ, ◌+◌, ◌-◌, nat_lt, [], ◌∷◌, ◌++◌, List, Bool, length, take, drop, ap, ◌∙◌, arith, length-append, append_assoc}
use Rattle.std.specs.Int.{from_bool}
use Rattle.std.proofs.lemmas.Bool.Decides.{nat_tests}
use Rattle.x86_forms.specs.Words.{rows_of, packed}
use Rattle.x86_operands.specs.declared.places.Places.{Places}
use Rattle.x86_operands.specs.declared.vocabulary.Verdict.{Verdict}
use Rattle.x86_operands.specs.declared.reader.Reading.{Reading}
use Rattle.x86_operands.specs.Pieces.{suffix_width}
use Rattle.x86_decode.specs.Grammar.{places_of}
use Rattle.x86_decode.specs.Head.{escape_bytes}
use Rattle.x86_layout.specs.Parts.Split.{Encoding}
use Rattle.x86_layout.proofs.PartLemmas.Part.{cut_is}

-- a suffix has one byte
suffix_count : (verdict : Verdict) (n : ℕ) → n ≡ suffix_width verdict → from_bool (nat_lt 0 n) ≡ n
suffix_count verdict n h = grind (arith, nat_tests)

module _ {strict : Bool} {s : List ℕ} {reading : Reading} (w : Encoding strict s reading) {places : Places}
    (are : places ≡ places_of (rows_of packed) strict s reading w) where
  abbrev pub before : List ℕ
  before = w.run ++ escape_bytes w.map

  abbrev pub fields : List ℕ
  fields = w.row_spelled.modrm ++ w.row_spelled.tail_spelled.pieces.address

  abbrev pub last : List ℕ
  last = w.row_spelled.tail_spelled.pieces.immediates ++ w.row_spelled.tail_spelled.pieces.suffix

  spelled : s ≡ (before ++ w.opcode ∷ []) ++ (fields ++ last)
  spelled =
      let a = w.row_spelled in
      w.spelled ∙ ap (λ l. w.run ++ (escape_bytes w.map ++ w.opcode ∷ l)) (a.spelled ∙ ap (λ l. a.modrm ++ l) a.tail_spelled.pieces.spelled) ∙ simp append_assoc

  module _ {n : ℕ} (n_is : n ≡ places.opcode_end) where
    opcode_end : n ≡ length (before ++ w.opcode ∷ [])
    opcode_end = n_is ∙ ap (λ p. p.opcode_end) are ∙ omega (arith, length-append {A = ℕ})

    pub head_cut : (take n s ≡ before ++ w.opcode ∷ []) × (drop n s ≡ fields ++ last)
    head_cut = cut_is (before ++ w.opcode ∷ []) (fields ++ last) spelled opcode_end

    pub opcode_cut : {head : List ℕ} → head ≡ before ++ w.opcode ∷ [] → (take (n - 1) head ≡ before) × (drop (n - 1) head ≡ w.opcode ∷ [])
    opcode_cut e = let long = opcode_end in cut_is before (w.opcode ∷ []) e (omega (arith, length-append {A = ℕ}, long))

    pub fields_cut : {tail : List ℕ} {k : ℕ} → tail ≡ fields ++ last → k ≡ places.address_end → (take (k - n) tail ≡ fields) × (drop (k - n) tail ≡ last)
    fields_cut {k = k} e k_is =
        let long = opcode_end in
        let end : k ≡ length w.run + (length (escape_bytes w.map) + 1) +
        (length w.row_spelled.modrm + length w.row_spelled.tail_spelled.pieces.address) = k_is ∙ ap (λ p. p.address_end) are in
        cut_is fields last e (omega (arith, length-append {A = ℕ}, long, end))

  pub escape_cut : {bytes : List ℕ} {n : ℕ} → bytes ≡ before → n ≡ length (escape_bytes w.map) → (take (length bytes - n) bytes ≡ w.run)
      × (drop (length bytes - n) bytes ≡ escape_bytes w.map)
  escape_cut e long = let all = ap length e in cut_is w.run (escape_bytes w.map) e (omega (arith, length-append {A = ℕ}, all, long))

  pub suffix_long : {n : ℕ} → n ≡ from_bool places.has_suffix → n ≡ length w.row_spelled.tail_spelled.pieces.suffix
  suffix_long n_is = n_is ∙ ap (λ p. from_bool p.has_suffix) are ∙ suffix_count _ _ w.row_spelled.tail_spelled.pieces.suffix_length

  pub suffix_cut : {bytes : List ℕ} {n : ℕ} → bytes ≡ last → n ≡ from_bool places.has_suffix →
      (take (length bytes - n) bytes ≡ w.row_spelled.tail_spelled.pieces.immediates)
      × (drop (length bytes - n) bytes ≡ w.row_spelled.tail_spelled.pieces.suffix)
  suffix_cut e n_is =
      let t = w.row_spelled.tail_spelled.pieces in
      let all = ap length e in
      let long = suffix_long n_is in
      cut_is t.immediates t.suffix e (omega (arith, length-append {A = ℕ}, all, long))
