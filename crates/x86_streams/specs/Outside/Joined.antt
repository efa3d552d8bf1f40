-- Calls of a reader and of a writer that are joined.
use Rattle.std.specs.Prelude.{◌≡◌, ℕ, List, Result, ⊤}
use Rattle.std.specs.declared.io.Error.{Error}
use Rattle.x86_streams.specs.declared.outside.joined.Joined.{Joined}

abbrev pub joined_of : {R W : Type 0} → R → W → Joined R W
joined_of reader writer = record { reader = reader; writer = writer }

-- A read is one of the reader, and leaves the writer.
abbrev pub ReadsReader : {R W : Type 0} → (R → List ℕ → Result ℕ Error → R → Type 0) → Joined R W → List ℕ → Result ℕ Error → Joined R W → Type 0
ReadsReader reads s buffer answer t = reads s.reader buffer answer t.reader × (t.writer ≡ s.writer)

-- A write and a flush are of the writer, and leave the reader.
abbrev pub WritesWriter : {R W : Type 0} → (W → List ℕ → Result ℕ Error → W → Type 0) → Joined R W → List ℕ → Result ℕ Error → Joined R W → Type 0
WritesWriter writes s bytes answer t = writes s.writer bytes answer t.writer × (t.reader ≡ s.reader)

abbrev pub FlushesWriter : {R W : Type 0} → (W → Result ⊤ Error → W → Type 0) → Joined R W → Result ⊤ Error → Joined R W → Type 0
FlushesWriter flushes s answer t = flushes s.writer answer t.writer × (t.reader ≡ s.reader)
