-- What the process says beside its listing.
use Rattle.std.specs.Prelude.{◌≡◌, ℕ, Bool, false, List, [], Option, Some, None, Result, OnOk, ⊤, codes}
use Rattle.std.specs.declared.io.Error.{Error}
use Rattle.x86_cli.specs.declared.listings.status.Status.{Status}
use Rattle.x86_streams.specs.declared.outside.sending.WriteFailed.{WriteFailed}
use Rattle.x86_cli.specs.Listings.Line.{line}
use Rattle.x86_streams.specs.Outside.Chain.{Sends}

-- what is said at a status: where the words request nothing, and where the output failed, unless nobody reads it
abbrev pub said_at : Status → Bool → Option (List ℕ)
said_at Status.Usage gone = Some (line (codes "usage: list [--strict] | make N | fields | tighten | sweep | targets"))
said_at Status.WriteFault false = Some (line (codes "write fault"))
said_at status gone = None

-- The writer took the line that is said, or where a write failed the beginning of it. Where none is, it is left.
abbrev pub Reports : {W : Type 0} → (W → List ℕ → Result ℕ Error → W → Type 0) → (W → Result ⊤ Error → W → Type 0) → Option (List ℕ) → W → W → Type 0
Reports writes flushes None old new = new ≡ old
Reports writes flushes (Some said) old new = (r : Result ⊤ WriteFailed) × (rest : List ℕ) × Sends writes flushes r [] said rest old new × OnOk r (rest ≡ [])
