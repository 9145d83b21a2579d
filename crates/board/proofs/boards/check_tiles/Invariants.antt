use Rattle.board.proofs.TileLemmas.{IsSeen}
use Rattle.board.proofs.boards.check_tiles.Given as goal

abbrev pub invariant-loop-place : goal.invariant-loop-place
invariant-loop-place l = IsSeen l.fn.shape l.numbers l.place l.seen
