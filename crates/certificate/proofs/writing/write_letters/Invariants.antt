use Rattle.std.proofs.Common.{map, take}
use Rattle.byte_streams.specs.Streams.{change}
use Rattle.byte_streams.specs.Sink.{WritesAll}
use Rattle.board.specs.Letters.{letter_of}
use Rattle.certificate.proofs.writing.write_letters.Given as goal

abbrev pub invariant-letters : goal.invariant-letters
invariant-letters g l = WritesAll (change g.K.Sink.state l.fn.sink l.sink) (map letter_of (take l.direction-index l.plan))
