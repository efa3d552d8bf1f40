-- What a record of calls says of a chain of them.
use Rattle.std.specs.Prelude.{◌≡◌, ℕ, Bool, IsTrue, false, List, [], ◌∷◌, ◌++◌, replicate, Result, Ok, Err, ⊤}
use Rattle.std.specs.declared.io.Error.{Error}
use Rattle.std.specs.declared.io.ErrorKind.TheVariants.{Interrupted}
use Rattle.std.specs.IoError.{error_kind}
use Rattle.x86_streams.specs.Outside.Chain.{Call, Read, Write, Flush, received, sent, taken_by}
use Rattle.x86_streams.specs.declared.outside.recorder.Event.{Event}
use Rattle.x86_streams.specs.declared.outside.recorder.Record.{Record}

-- the event of a call, by its answer
abbrev pub event_of : Call → Event
event_of (Read buffer (Ok n)) = Event.Read n
event_of (Read buffer (Err e)) = Event.ReadFailed (error_kind e)
event_of (Write bytes (Ok n)) = Event.Write n
event_of (Write bytes (Err e)) = Event.WriteFailed (error_kind e)
event_of (Flush (Ok done)) = Event.Flush
event_of (Flush (Err e)) = Event.FlushFailed (error_kind e)

-- the event of a try of it that a signal interrupted
abbrev pub interrupted : Call → Event
interrupted (Read buffer answer) = Event.ReadFailed Interrupted
interrupted (Write bytes answer) = Event.WriteFailed Interrupted
interrupted (Flush answer) = Event.FlushFailed Interrupted

-- These are the events of the calls, in their order: of each some tries that were interrupted, and then its answer.
abbrev pub AreEvents : List Call → List Event → Type 0
AreEvents [] events = events ≡ []
AreEvents (c ∷ cs) events =
    (before : List Event) × (tries : ℕ) × AreEvents cs before × (events ≡ before ++ replicate tries (interrupted c) ++ event_of c ∷ [])

module _ {E : Type 0} {CALLS BYTES : ℕ} where
  -- The record had room, and got these events, and bytes that were read and written.
  abbrev pub Adds : List Event → List ℕ → List ℕ → Record E CALLS BYTES → Record E CALLS BYTES → Type 0
  Adds events read written s t =
      (s.is_full ≡ false) × (t.events.items ≡ s.events.items ++ events) × (t.read.items ≡ s.read.items ++ read) × (t.written.items ≡ s.written.items ++ written)

  -- The call was made, and recorded with its bytes. One that answers an error wasn't made where the record is full.
  abbrev pub Records : {A : Type 0} → Call → Result A Error → Type 0 → Record E CALLS BYTES → Record E CALLS BYTES → Type 0
  Records c (Ok x) made s t = made × Adds (event_of c ∷ []) (received (c ∷ [])) (sent (c ∷ [])) s t
  Records c (Err e) made s t = t.is_full ≡ false → made × Adds (event_of c ∷ []) (received (c ∷ [])) (sent (c ∷ [])) s t

  abbrev pub RecordsRead : (E → List ℕ → Result ℕ Error → E → Type 0) → Record E CALLS BYTES → List ℕ → Result ℕ Error → Record E CALLS BYTES → Type 0
  RecordsRead reads s buffer answer t = Records (Read buffer answer) answer (reads s.streams buffer answer t.streams) s t

  abbrev pub RecordsWrite : (E → List ℕ → Result ℕ Error → E → Type 0) → Record E CALLS BYTES → List ℕ → Result ℕ Error → Record E CALLS BYTES → Type 0
  RecordsWrite writes s bytes answer t = Records (Write bytes answer) answer (writes s.streams bytes answer t.streams) s t

  abbrev pub RecordsFlush : (E → Result ⊤ Error → E → Type 0) → Record E CALLS BYTES → Result ⊤ Error → Record E CALLS BYTES → Type 0
  RecordsFlush flushes s answer t = Records (Flush answer) answer (flushes s.streams answer t.streams) s t

  -- Unless it is full, the record got each of the calls, with their bytes.
  abbrev pub IsRecordOf : List Call → Record E CALLS BYTES → Record E CALLS BYTES → Type 0
  IsRecordOf cs s t = t.is_full ≡ false → (events : List Event) × AreEvents cs events × Adds events (received cs) (sent cs) s t
