use Rattle.byte_streams.specs.Streams.{change}
use Rattle.board_lists.specs.Classes.{IsOfClass}
use Rattle.board_lists.proofs.ListLemmas.{EachIsListed}
use Rattle.board_lists.proofs.lists.list_drawn.Given as goal

abbrev pub invariant-boards : goal.invariant-boards
invariant-boards g l = EachIsListed (IsOfClass l.goal) (change g.K.Sink.state l.fn.sink l.sink) l.place
