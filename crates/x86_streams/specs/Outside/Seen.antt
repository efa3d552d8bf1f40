-- What callers see of sources and sinks whose fields are private.
use Rattle.std.specs.Prelude.{ℕ, List, slice_range}
use Rattle.x86_streams.specs.declared.outside.slice_source.SliceSource.{SliceSource}
use Rattle.x86_streams.specs.declared.outside.array_sink.ArraySink.{ArraySink}
use Rattle.x86_streams.specs.declared.outside.std_source.StdSource.{StdSource}
use Rattle.x86_streams.specs.declared.outside.std_sink.StdSink.{StdSink}

-- the number of a slice's next call, and the numbers of those that fail
abbrev pub slice_call : SliceSource → ℕ
slice_call s = s.call

abbrev pub slice_fails : SliceSource → List ℕ
slice_fails s = s.fails.now

-- the number of an array's next put, and that of the one that fails
abbrev pub array_call : {N : ℕ} → ArraySink N → ℕ
array_call s = s.call

abbrev pub array_fails : {N : ℕ} → ArraySink N → ℕ
array_fails s = s.fails

-- the writer of a sink
abbrev pub sink_writer : {W : Type 0} → StdSink W → W
sink_writer s = s.writer

-- the reader of a source, and what it holds of the bytes that were read
abbrev pub source_reader : {R : Type 0} → {g : _} → StdSource R g → R
source_reader s = s.reader

abbrev pub source_bytes : {R : Type 0} → {g : _} → StdSource R g → List ℕ
source_bytes s = slice_range s.buffer s.position s.filled
