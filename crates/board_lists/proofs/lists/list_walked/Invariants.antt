use Rattle.byte_streams.specs.Streams.{change}
use Rattle.board_lists.specs.Walks.{IsWalked}
use Rattle.board_lists.proofs.ListLemmas.{EachIsListed}
use Rattle.board_lists.proofs.lists.list_walked.Given as goal

abbrev pub invariant-boards : goal.invariant-boards
invariant-boards g l = EachIsListed (IsWalked l.goal l.moves) (change g.K.Sink.state l.fn.sink l.sink) l.place
