use Rattle.byte_streams.specs.Streams.{change}
use Rattle.board_lists.proofs.ListLemmas.{ClassIsListed}
use Rattle.board_lists.proofs.lists.list_class.Given as goal

abbrev pub invariant-places : goal.invariant-places
invariant-places g l = ClassIsListed l.goal (change g.K.Sink.state l.fn.sink l.sink) l.place l.count
