use Rattle.std.proofs.Common.{◌≡◌, ◌-◌, ◌++◌, replicate}
use Rattle.std.specs.List.{range_with_len}
use Rattle.board.proofs.costs.count_up.Given as goal

abbrev pub invariant-loop-place : goal.invariant-loop-place
invariant-loop-place l = l.numbers ≡ range_with_len 0 l.place ++ replicate (25 - l.place) 0
