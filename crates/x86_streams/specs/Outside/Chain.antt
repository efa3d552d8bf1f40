-- The calls of what is read from and written to, in one order.
use Rattle.std.specs.Prelude.{◌≡◌, ℕ, zero, suc, ◌+◌, ◌<◌, ◌≤◌, Bool, IsTrue, true, false, ◌↔◌, List, [], ◌∷◌, ◌++◌, length, take, Option}
use Rattle.std.specs.Prelude.{Some, None, Result, Ok, Err, IfErr, IsErr, OnErr, OnOk, ⊤}
use Rattle.std.specs.Io.{StartsWith}
use Rattle.std.specs.declared.io.Error.{Error}
use Rattle.std.specs.declared.io.ErrorKind.TheVariants.{Interrupted, BrokenPipe}
use Rattle.std.specs.IoError.{error_kind}
use Rattle.x86_streams.specs.Outside.Stop.{Stop, End, Failed}
use Rattle.x86_streams.specs.declared.outside.sending.WriteFailed.{WriteFailed}
use Rattle.x86_streams.specs.declared.outside.sink.SinkFailed.{SinkFailed}

-- A call and its answer, and of a read what is in its buffer then. It was made again where a signal interrupted it.
pub data Call : Type 0 where
  Read : List ℕ → Result ℕ Error → Call
  Write : List ℕ → Result ℕ Error → Call
  Flush : Result ⊤ Error → Call

-- the bytes that a call with this answer took
abbrev pub taken_by : {E : Type 0} → Result ℕ E → List ℕ → List ℕ
taken_by (Ok n) bytes = take n bytes
taken_by (Err e) bytes = []

-- the bytes that the reads returned, the last call first
abbrev pub received : List Call → List ℕ
received [] = []
received (Read buffer answer ∷ cs) = received cs ++ taken_by answer buffer
received (c ∷ cs) = received cs

-- the bytes that the writer took
abbrev pub sent : List Call → List ℕ
sent [] = []
sent (Write bytes answer ∷ cs) = sent cs ++ taken_by answer bytes
sent (c ∷ cs) = sent cs

-- what the writes were to take, piece by piece
abbrev pub pieces : List Call → List (List ℕ)
pieces [] = []
pieces (Write bytes answer ∷ cs) = pieces cs ++ bytes ∷ []
pieces (c ∷ cs) = pieces cs

-- what stopped the reads: one that returned no byte, or an error
abbrev pub stop_of : List Call → Option Stop
stop_of [] = None
stop_of (Read buffer (Ok zero) ∷ cs) = Some End
stop_of (Read buffer (Ok (suc n)) ∷ cs) = None
stop_of (Read buffer (Err e) ∷ cs) = Some Failed
stop_of (c ∷ cs) = stop_of cs

-- A write or a flush that answered an error, or a write that took none of bytes that aren't empty.
abbrev pub Fails : Call → Type 0
Fails (Write bytes (Ok n)) = (n ≡ 0) × (0 < length bytes)
Fails (Write bytes (Err e)) = ⊤
Fails (Flush (Err e)) = ⊤
Fails c = ⊥

-- A flush that succeeded.
abbrev pub IsFlush : Call → Type 0
IsFlush (Flush (Ok done)) = ⊤
IsFlush c = ⊥

-- An answer that says that the other end of a pipe is closed.
abbrev pub IsGone : Call → Type 0
IsGone (Write bytes (Err e)) = error_kind e ≡ BrokenPipe
IsGone (Flush (Err e)) = error_kind e ≡ BrokenPipe
IsGone c = ⊥

-- The last call is one of these.
abbrev pub EndsIn : (Call → Type 0) → List Call → Type 0
EndsIn Is [] = ⊥
EndsIn Is (c ∷ cs) = Is c

-- the bytes that the last call was to write, where it answered an error; of a write that answered 0 this says nothing
abbrev pub not_taken : List Call → List ℕ
not_taken (Write bytes (Err e) ∷ cs) = bytes
not_taken cs = []

-- tries o e o': a call at o may answer this error, and leave o'
-- So many calls, one after the other, were each interrupted by a signal.
abbrev pub Interruptions : {O : Type 0} → (O → Error → O → Type 0) → ℕ → O → O → Type 0
Interruptions tries zero o o' = o' ≡ o
Interruptions {O} tries (suc n) o o' = (u : O) × Interruptions tries n o u × ((e : Error) × tries u e o' × (error_kind e ≡ Interrupted))

-- A call was made, again after each interruption, and then answered so. An interruption is the answer only after
-- 2^64 - 1 others.
pub record Uninterrupted {O A : Type 0} (tries : O → Error → O → Type 0) (call : O → Result A Error → O → Type 0) (answer : Result A Error)
    (o o' : O) : Type 0 where
  pub count : ℕ
  pub before : O
  pub interrupted : Interruptions tries count o before
  pub answered : call before answer o'
  pub final : IfErr answer (λ e. error_kind e ≡ Interrupted → 18446744073709551615 ≤ count)

-- reads r buffer answer r': a read of r may answer so, with this in its buffer, and leave r'
abbrev pub ReadsOnce : {R : Type 0} → (R → List ℕ → Result ℕ Error → R → Type 0) → List ℕ → Result ℕ Error → R → R → Type 0
ReadsOnce {R} reads buffer answer r r' = Uninterrupted (λ u e v. (part : List ℕ) × reads u part (Err e) v) (λ u a v. reads u buffer a v) answer r r'

-- writes w bytes answer w', flushes w answer w': a call of w may answer so, and leave w'
abbrev pub WritesOnce : {W : Type 0} → (W → List ℕ → Result ℕ Error → W → Type 0) → List ℕ → Result ℕ Error → W → W → Type 0
WritesOnce writes bytes answer w w' = Uninterrupted (λ u e v. writes u bytes (Err e) v) (λ u a v. writes u bytes a v) answer w w'

abbrev pub FlushesOnce : {W : Type 0} → (W → Result ⊤ Error → W → Type 0) → Result ⊤ Error → W → W → Type 0
FlushesOnce flushes answer w w' = Uninterrupted (λ u e v. flushes u (Err e) v) flushes answer w w'

module _ {O : Type 0} (reads : O → List ℕ → Result ℕ Error → O → Type 0) (writes : O → List ℕ → Result ℕ Error → O → Type 0)
    (flushes : O → Result ⊤ Error → O → Type 0) where
  -- These calls, the last first, led from the one state to the other: each from where the call before it left that.
  abbrev pub Calls : List Call → O → O → Type 0
  Calls [] o o' = o' ≡ o
  Calls (Read buffer answer ∷ cs) o o' = (u : O) × Calls cs o u × ReadsOnce reads buffer answer u o'
  Calls (Write bytes answer ∷ cs) o o' = (u : O) × Calls cs o u × WritesOnce writes bytes answer u o'
  Calls (Flush answer ∷ cs) o o' = (u : O) × Calls cs o u × FlushesOnce flushes answer u o'

-- ---- what a buffer sends

-- No call failed.
abbrev pub AllContinue : List Call → Type 0
AllContinue [] = ⊤
AllContinue (c ∷ cs) = (Fails c → ⊥) × AllContinue cs

-- No call follows one that failed.
abbrev pub Follow : List Call → Type 0
Follow [] = ⊤
Follow (c ∷ cs) = AllContinue cs

-- The last call failed, and none before it, where the answer says so.
abbrev pub Cause : {A E : Type 0} → Result A E → List Call → Type 0
Cause (Ok x) cs = AllContinue cs
Cause (Err e) [] = ⊥
Cause (Err e) (c ∷ cs) = Fails c × AllContinue cs

-- No read may be made.
abbrev pub NoRead : {O : Type 0} → O → List ℕ → Result ℕ Error → O → Type 0
NoRead o buffer answer o' = ⊥

module _ {W : Type 0} (writes : W → List ℕ → Result ℕ Error → W → Type 0) (flushes : W → Result ⊤ Error → W → Type 0) where
  -- These calls, of which none is a read, led from the one state to the other.
  abbrev pub WriterCalls : List Call → W → W → Type 0
  WriterCalls = Calls NoRead writes flushes

  -- The writer took, in order, what was held and what is new; the rest is held. A write that failed was to take what is
  -- held first.
  pub record Sends (answer : Result ⊤ WriteFailed) (new held held' : List ℕ) (w w' : W) : Type 0 where
    pub calls : List Call
    pub did : WriterCalls calls w w'
    pub cause : Cause answer calls
    pub order : sent calls ++ held' ≡ held ++ new
    pub failed : IfErr answer (λ f. StartsWith held' (not_taken calls) × (IsTrue f.gone ↔ EndsIn IsGone calls))

  -- A put of a piece is its writes, and fails exactly where one of them did.
  abbrev pub PutsByWrites : Result ⊤ SinkFailed → List ℕ → W → W → Type 0
  PutsByWrites r piece w w' = (answer : Result ⊤ WriteFailed) × (rest : List ℕ) × Sends answer [] piece rest w w' × OnOk answer (rest ≡ [])
      × (IsErr r ↔ IsErr answer)

  -- All that was held is sent, and the writer is flushed. Where nothing was held, nothing is written.
  abbrev pub SendsAll : Result ⊤ WriteFailed → List ℕ → List ℕ → W → W → Type 0
  SendsAll answer held held' w w' = (s : Sends answer [] held held' w w') × OnOk answer ((held' ≡ []) × EndsIn IsFlush s.calls)
      × (held ≡ [] → pieces s.calls ≡ [])

  -- A piece was taken, after what was held. Where nothing is gathered, that was one write of it.
  pub record Puts (gathers : Bool) (answer : Result ⊤ WriteFailed) (piece old new : List ℕ) (w w' : W) : Type 0 where
    pub rest : List ℕ
    pub sends : Sends answer piece old rest w w'
    pub held : OnOk answer (new ≡ rest)
    pub kept : OnErr answer (rest ≡ new ++ piece)
    pub waits : gathers ≡ true → length old + length piece ≤ 65536 → sends.calls ≡ []
    pub once : gathers ≡ false → (pieces sends.calls ≡ piece ∷ []) × OnOk answer (rest ≡ [])
