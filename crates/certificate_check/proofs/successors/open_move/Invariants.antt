use Rattle.std.proofs.Common.{◌<◌}
use Rattle.board.specs.declared.moves.Move.{Move}
use Rattle.board.specs.Equality.{number_of}
use Rattle.certificate_check.specs.Refusals.{LeavesOpenAt}
use Rattle.certificate_check.proofs.successors.open_move.Given as goal

abbrev pub invariant-moves : goal.invariant-moves
invariant-moves l = (m : Move) → number_of m < l.number → ¬ LeavesOpenAt l.certificate l.bound l.place m
