use Rattle.std.proofs.Common.{subst, List}
use Rattle.std.specs.Fmt.{digits}
use Rattle.board.specs.Boards.{BoardModel}
use Rattle.byte_streams.specs.Sink.{WritesAll, PutsBeginning}
use Rattle.board_lists.specs.Lines.{lines_text}
use Rattle.board_lists.proofs.laws.two_are_listed.Goals as goal

pub returns : goal.returns
unfolding digits
returns c = λ sink. (
  (λ done list. subst (λ (bs : List BoardModel). WritesAll sink (lines_text 1 bs)) list.such list.written),
  (λ failure list. (subst (λ (bs : List BoardModel). PutsBeginning sink (lines_text 1 bs)) list.such list.begun, list.failed)),
)
