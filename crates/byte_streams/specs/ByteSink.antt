-- What a clause reads of a `ByteSink`.
use Rattle.std.specs.Prelude.{ℕ, Bool, List, Option}
use Rattle.byte_streams.specs.Streams.{SinkState}
use Rattle.byte_streams.specs.declared.sink.ByteSink.{ByteSink}

-- the writer that the sink writes to
abbrev pub inner_writer : {W : Type 0} → ByteSink W → W
inner_writer sink = sink.writer

-- a write or a flush has failed
abbrev pub sink_has_failed : {W : Type 0} → ByteSink W → Bool
sink_has_failed sink = sink.has_failed

-- what it holds, by the writer's contents
abbrev pub byte_sink_state : {W : Type 0} → (W → Option (List ℕ)) → ByteSink W → SinkState
byte_sink_state contents sink = record { contents = contents sink.writer; has_failed = sink.has_failed }

-- the writer is as a flush left it
abbrev pub WasFlushed : {W : Type 0} → (W → W → Type 0) → ByteSink W → Type 0
WasFlushed {W} flushes sink = (before : W) × flushes before sink.writer
