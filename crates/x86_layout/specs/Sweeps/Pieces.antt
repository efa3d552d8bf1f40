-- The cuts of an input that is swept piece by piece.
use Rattle.std.specs.Prelude.{◌≡◌, ◌≢◌, ℕ, ◌+◌, Bool, List, [], ◌∷◌, ◌++◌, drop, Err, ⊤}
use Rattle.x86_fields.specs.declared.errors.DecodeError.TheVariants.{ExhaustedInput}
use Rattle.x86_layout.specs.declared.sweeps.cuts.Cut.{Cut}
use Rattle.x86_layout.specs.Sweeps.Cuts.{cuts_from}

-- how many bytes cuts have together
abbrev pub total_length : List Cut → ℕ
total_length [] = 0
total_length (c ∷ cuts) = c.length + total_length cuts

-- More bytes change none of these cuts.
abbrev pub AreFinal : List Cut → Type 0
AreFinal [] = ⊤
AreFinal (c ∷ cuts) = (c.answer ≢ Err ExhaustedInput) × AreFinal cuts

-- After cuts at the beginning come those of the rest, from their place on.
abbrev pub CutsGoOn : Bool → Type 0
CutsGoOn strict = (place : ℕ) (xs : List ℕ) (before after : List Cut) → cuts_from strict place xs ≡ before ++ after →
    after ≡ cuts_from strict (place + total_length before) (drop (total_length before) xs)

-- Cuts at the beginning of a piece, none of which needs more bytes, are cuts of the piece with more bytes after it. After
-- them come the cuts of the rest of both.
abbrev pub CutsOfMore : Bool → Type 0
CutsOfMore strict = (place : ℕ) (xs ys : List ℕ) (before after : List Cut) → cuts_from strict place xs ≡ before ++ after → AreFinal before →
    cuts_from strict place (xs ++ ys) ≡ before ++ cuts_from strict (place + total_length before) (drop (total_length before) (xs ++ ys))

-- Of two sweeps, one of a piece and one that begins inside it or at its end, each has a cut at one place. The cuts of the
-- piece before that place, none of which needs more bytes, and the cuts of the other from there on are those of the whole.
abbrev pub CutsJoin : Bool → Type 0
CutsJoin strict = (place skip : ℕ) (xs ys : List ℕ) (before after passed rest : List Cut) (c d : Cut) →
    cuts_from strict place xs ≡ before ++ c ∷ after → AreFinal before →
    cuts_from strict (place + skip) (drop skip (xs ++ ys)) ≡ passed ++ d ∷ rest → c.place ≡ d.place →
    cuts_from strict place (xs ++ ys) ≡ before ++ d ∷ rest
