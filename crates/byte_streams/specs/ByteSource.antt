-- What a clause reads of a `ByteSource`.
use Rattle.std.specs.Prelude.{ℕ, Bool, List, Option}
use Rattle.byte_streams.specs.Streams.{SourceState}
use Rattle.byte_streams.specs.declared.source.ByteSource.{ByteSource}

-- the reader that the source reads from
abbrev pub inner_reader : {R : Type 0} → ByteSource R → R
inner_reader source = source.reader

-- reading has failed
abbrev pub source_has_failed : {R : Type 0} → ByteSource R → Bool
source_has_failed source = source.has_failed

-- what is left of it, by what is left of the reader
abbrev pub byte_source_state : {R : Type 0} → (R → Option (List ℕ)) → ByteSource R → SourceState
byte_source_state left source = record { left = left source.reader; has_failed = source.has_failed }
