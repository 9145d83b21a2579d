use Rattle.std.proofs.Common.{◌≡◌, take}
use Rattle.board.specs.Keys.{packed_number}
use Rattle.board.proofs.boards.Board.key.Given as goal

abbrev pub invariant-loop-tile : goal.invariant-loop-tile
invariant-loop-tile l = l.key ≡ packed_number (take l.tile-index l.tile-items)
