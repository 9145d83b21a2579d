use Rattle.std.proofs.Common.{take}
use Rattle.std.specs.List.{flat_map}
use Rattle.byte_streams.specs.Streams.{change}
use Rattle.byte_streams.specs.Sink.{WritesAll}
use Rattle.certificate.specs.Spellings.{row_text}
use Rattle.certificate.proofs.writing.write_each_row.Given as goal

abbrev pub invariant-rows : goal.invariant-rows
invariant-rows g l = WritesAll (change g.K.Sink.state l.fn.sink l.sink) (flat_map row_text (take l.row-index l.rows))
