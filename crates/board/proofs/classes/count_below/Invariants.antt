use Rattle.std.proofs.Common.{◌≡◌, ◌≤◌, count_by, nat_lt, take}
use Rattle.board.proofs.classes.count_below.Given as goal

abbrev pub invariant-loop-number : goal.invariant-loop-number
invariant-loop-number l = record {
  counted : l.count ≡ count_by (λ number. nat_lt number l.tile) (take l.number-index l.numbers);
  low : l.count ≤ l.number-index;
}
