-- What a call of a source says.
use Rattle.std.specs.Prelude.{◌≡◌, ℕ, List, [], ◌∷◌, length, take, Option, IfSome, Result, Ok, Err, ⊤}
use Rattle.std.specs.declared.io.Error.{Error}
use Rattle.x86_streams.specs.Outside.Chain.{ReadsOnce}
use Rattle.std.specs.Io.KnownBytes.{Consumes}
use Rattle.x86_streams.specs.declared.outside.source.Got.{Got}
use Rattle.x86_streams.specs.declared.outside.source.Got.TheVariants.{Byte, End, Failed}
use Rattle.x86_streams.specs.Outside.FaultCounts.{Rose}

-- what a call of a source took
abbrev pub taken : Got → List ℕ
taken (Byte b) = b ∷ []
taken g = []

-- End comes only where no byte is left.
abbrev pub EndsOnly : Got → Option (List ℕ) → Type 0
EndsOnly End left = IfSome left (λ xs. xs ≡ [])
EndsOnly g left = ⊤

-- Failed comes only where the count rose, and the others leave it.
abbrev pub CountsFailed : Got → ℕ → ℕ → Type 0
CountsFailed Failed old new = Rose old new
CountsFailed g old new = new ≡ old

-- What a source that held no byte returns after a read, and what it holds then.
abbrev pub ReturnsRead : Got → Result ℕ Error → List ℕ → List ℕ → Type 0
ReturnsRead (Byte b) (Ok n) buffer held = take n buffer ≡ b ∷ held
ReturnsRead End (Ok n) buffer held = (n ≡ 0) × (held ≡ [])
ReturnsRead Failed (Err e) buffer held = held ≡ []
ReturnsRead g answer buffer held = ⊥

-- A byte that is held is returned, and nothing is read. Where none is, one read of 64 KiB is made, and its answer returned.
abbrev pub ReturnsNext : {R : Type 0} → (R → List ℕ → Result ℕ Error → R → Type 0) → List ℕ → Got → List ℕ → R → R → Type 0
ReturnsNext reads (b ∷ bs) g held' r r' = (g ≡ Byte b) × (held' ≡ bs) × (r' ≡ r)
ReturnsNext reads [] g held' r r' =
    (buffer : List ℕ) × (length buffer ≡ 65536) × (answer : Result ℕ Error) × ReadsOnce reads buffer answer r r' × ReturnsRead g answer buffer held'

-- What a call of a source says of its bytes, where they are known, and of its faults.
abbrev pub ReportsGot : Got → Option (List ℕ) → Option (List ℕ) → ℕ → ℕ → Type 0
ReportsGot g left left' faults faults' = Consumes left left' (taken g) × EndsOnly g left × CountsFailed g faults faults'
