-- Which calls of a `SliceSource` and of an `ArraySink` answer what.
use Rattle.std.specs.Prelude.{◌≡◌, ℕ, ◌+◌, ◌-◌, ◌<◌, List, [], ◌++◌, length, take, Bool, IsTrue, IsErr, true, false, ◌⊎◌, ◌↔◌, ◌&&◌, ◌==◌, Result, ⊤}
use Rattle.std.specs.List.{list_any}
use Rattle.x86_streams.specs.declared.outside.source.Got.{Got}
use Rattle.x86_streams.specs.declared.outside.source.Got.TheVariants.{End, Failed}
use Rattle.x86_streams.specs.declared.outside.sink.SinkFailed.{SinkFailed}
use Rattle.x86_streams.specs.Outside.FaultCounts.{counts, next_call}

-- the call with this number is among those that fail
abbrev pub is_listed : ℕ → List ℕ → Bool
is_listed call fails = counts call && list_any (λ n. n == call) fails

-- The listed calls fail, and the others return the bytes in order and then End.
abbrev pub ByNumber : Got → List ℕ → ℕ → ℕ → List ℕ → List ℕ → Type 0
ByNumber g left call call' fails fails' =
    ((g ≡ Failed) ↔ IsTrue (is_listed call fails)) × ((g ≡ End) ↔ ((is_listed call fails ≡ false) × (left ≡ []))) × (call' ≡ next_call call) × (fails' ≡ fails)

-- the put with this number is the one that fails
abbrev pub is_chosen : ℕ → ℕ → Bool
is_chosen call fails = counts call && (call == fails)

-- a piece after what was written, as far as it fits
abbrev pub as_far_as_fits : ℕ → List ℕ → List ℕ → List ℕ
as_far_as_fits capacity written piece = written ++ take (capacity - length written) piece

-- The chosen put fails and appends nothing; one that doesn't fit fails and appends what fits.
abbrev pub PutByNumber : Result ⊤ SinkFailed → ℕ → List ℕ → List ℕ → List ℕ → ℕ → ℕ → ℕ → ℕ → Type 0
PutByNumber r capacity piece items items' call call' fails fails' =
    (IsErr r ↔ (IsTrue (is_chosen call fails) ⊎ (capacity < length items + length piece)))
    × (is_chosen call fails ≡ true → items' ≡ items) × (is_chosen call fails ≡ false → items' ≡ as_far_as_fits capacity items piece)
    × (call' ≡ next_call call) × (fails' ≡ fails)
