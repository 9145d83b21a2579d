use Rattle.std.proofs.Common.{◌≡◌, length, map}
use Rattle.byte_streams.specs.Streams.{change}
use Rattle.byte_streams.specs.Source.{Takes, ReadsOn}
use Rattle.board.specs.Letters.{letter_of}
use Rattle.certificate.proofs.reading.read_letters.Given as goal

abbrev pub invariant-letters : goal.invariant-letters
invariant-letters g l = record {
  taken : Takes (change g.S.Source.state l.fn.source l.source) (map letter_of l.moves.items);
  size : length l.moves.items ≡ l.counter;
  on : ReadsOn (change g.S.Source.state l.fn.source l.source);
}
