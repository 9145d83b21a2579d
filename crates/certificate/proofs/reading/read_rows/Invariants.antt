use Rattle.std.proofs.Common.{◌≡◌, length, None}
use Rattle.std.specs.List.{flat_map, AllByRecursion}
use Rattle.byte_streams.specs.Streams.{change}
use Rattle.byte_streams.specs.Source.{Takes, ReadsOn}
use Rattle.certificate.specs.Certificates.{IsRow, RiseAfter}
use Rattle.certificate.specs.Spellings.{row_text}
use Rattle.certificate.proofs.SourceLemmas.{last_of}
use Rattle.certificate.proofs.reading.read_rows.Given as goal

abbrev pub invariant-rows : goal.invariant-rows
invariant-rows g l = record {
  taken : Takes (change g.S.Source.state l.fn.source l.source) (flat_map row_text l.read.items);
  size : length l.read.items ≡ l.counter;
  rows : AllByRecursion (IsRow l.shape) l.read.items;
  rising : RiseAfter None l.read.items;
  last : l.before ≡ last_of None l.read.items;
  on : ReadsOn (change g.S.Source.state l.fn.source l.source);
}
