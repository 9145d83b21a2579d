-- What a run over one line or one certificate writes.
use Rattle.std.specs.Prelude.{ℕ, ◌≡◌, List}
use Rattle.byte_streams.specs.Streams.{SinkState, Change}

-- what is written, and the status
pub record Output : Type 0 where
  pub text : List ℕ
  pub status : ℕ

-- nothing was done to the sink
abbrev pub IsUntouched : Change SinkState → Type 0
IsUntouched sink = sink.after ≡ sink.before
