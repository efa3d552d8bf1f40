-- What a put says.
use Rattle.std.specs.Prelude.{◌≡◌, ℕ, List, Option, Result, Ok, Err, take, ⊤}
use Rattle.std.specs.Io.KnownBytes.{Appends}
use Rattle.x86_streams.specs.declared.outside.sink.SinkFailed.{SinkFailed}
use Rattle.x86_streams.specs.Outside.FaultCounts.{Rose}

-- A put that fails raises the count of faults, and the others leave it.
abbrev pub CountsPut : Result ⊤ SinkFailed → ℕ → ℕ → Type 0
CountsPut (Ok done) old new = new ≡ old
CountsPut (Err e) old new = Rose old new

-- What a put says of the bytes written, where they are known, and of its faults.
abbrev pub ReportsPut : Result ⊤ SinkFailed → List ℕ → Option (List ℕ) → Option (List ℕ) → ℕ → ℕ → Type 0
ReportsPut (Ok done) piece written written' faults faults' = Appends written written' piece × (faults' ≡ faults)
ReportsPut (Err e) piece written written' faults faults' = ((n : ℕ) × Appends written written' (take n piece)) × Rose faults faults'
