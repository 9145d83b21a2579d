use Rattle.std.proofs.Common.{◌≡◌, length}
use Rattle.std.specs.Prelude.{All}
use Rattle.std.specs.List.{flat_map}
use Rattle.byte_streams.specs.Streams.{change}
use Rattle.byte_streams.specs.Source.{Takes, ReadsOn}
use Rattle.pattern_index.specs.Groups.{IsGroup}
use Rattle.pattern_index.specs.Partitions.{AreApart}
use Rattle.certificate.specs.Spellings.{group_text}
use Rattle.certificate.proofs.groups.read_groups.Given as goal

abbrev pub invariant-groups : goal.invariant-groups
invariant-groups g l = record {
  taken : Takes (change g.S.Source.state l.fn.source l.source) (flat_map group_text l.read.items);
  size : length l.read.items ≡ l.counter;
  selections : All (λ g. IsGroup g) l.read.items;
  sides : All (λ g. g.grid ≡ l.shape) l.read.items;
  apart : AreApart l.read.items;
  on : ReadsOn (change g.S.Source.state l.fn.source l.source);
}
