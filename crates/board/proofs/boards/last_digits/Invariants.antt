use Rattle.std.proofs.Common.{◌≡◌, ◌++◌, take, drop, length}
use Rattle.board.specs.Digits.{digits_of}
use Rattle.board.specs.Padding.{IsPadded}
use Rattle.board.proofs.boards.last_digits.Given as goal

abbrev pub invariant-loop-cell : goal.invariant-loop-cell
invariant-loop-cell l = record {
  digits : digits_of l.cells l.key ≡ digits_of l.cell l.rest ++ drop l.cell (take l.cells l.tiles);
  all : length l.tiles ≡ 25;
  unused : IsPadded 25 l.cells l.tiles;
}
