-- Calls of a source and a sink, as those of a reader and a writer.
use Rattle.std.specs.Prelude.{◌≡◌, ℕ, zero, suc, List, [], ◌∷◌, length, take, Result, Ok, Err, ⊤}
use Rattle.std.specs.declared.io.Error.{Error}
use Rattle.std.specs.declared.io.ErrorKind.TheVariants.{Other}
use Rattle.std.specs.IoError.{error_kind}
use Rattle.x86_streams.specs.declared.outside.source.Got.{Got}
use Rattle.x86_streams.specs.declared.outside.source.Got.TheVariants.{Byte, End, Failed}
use Rattle.x86_streams.specs.declared.outside.sink.SinkFailed.{SinkFailed}

-- A read is one call of the source. It returns a byte, or none at the end.
abbrev pub ReadsByte : {S : Type 0} → (S → Got → S → Type 0) → S → List ℕ → Result ℕ Error → S → Type 0
ReadsByte gives s buffer (Ok zero) t = gives s End t
ReadsByte gives s buffer (Ok (suc n)) t = (b : ℕ) × (n ≡ 0) × (take 1 buffer ≡ b ∷ []) × gives s (Byte b) t
ReadsByte gives s buffer (Err e) t = gives s Failed t × (error_kind e ≡ Other)

-- A write is one put, of all the bytes.
abbrev pub PutsPiece : {K : Type 0} → (K → List ℕ → Result ⊤ SinkFailed → K → Type 0) → K → List ℕ → Result ℕ Error → K → Type 0
PutsPiece takes k bytes (Ok n) l = (n ≡ length bytes) × takes k bytes (Ok tt) l
PutsPiece takes k bytes (Err e) l = ((f : SinkFailed) × takes k bytes (Err f) l) × (error_kind e ≡ Other)

-- A sink holds nothing back: a flush leaves it.
abbrev pub HoldsNothing : {K : Type 0} → K → Result ⊤ Error → K → Type 0
HoldsNothing k answer l = (answer ≡ Ok tt) × (l ≡ k)
