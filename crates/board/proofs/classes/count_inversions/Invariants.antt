use Rattle.std.proofs.Common.{◌≡◌, ◌≤◌, ◌+◌, ◌*◌, drop}
use Rattle.board.specs.Classes.{inversions}
use Rattle.board.proofs.classes.count_inversions.Given as goal

abbrev pub invariant-loop-place : goal.invariant-loop-place
invariant-loop-place l = record {
  counted : l.count + inversions (drop l.place l.tiles) ≡ inversions l.tiles;
  low : l.count ≤ 25 * l.place;
}
