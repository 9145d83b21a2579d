use Rattle.std.proofs.Common.{take}
use Rattle.std.specs.List.{flat_map}
use Rattle.byte_streams.specs.Streams.{change}
use Rattle.byte_streams.specs.Sink.{WritesAll}
use Rattle.certificate.specs.Spellings.{group_text}
use Rattle.certificate.proofs.writing.write_each_group.Given as goal

abbrev pub invariant-groups : goal.invariant-groups
invariant-groups g l = WritesAll (change g.K.Sink.state l.fn.sink l.sink) (flat_map group_text (take l.group-index l.groups))
