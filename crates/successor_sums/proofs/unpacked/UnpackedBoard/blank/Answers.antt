use Rattle.std.proofs.Common.{subst}
use Rattle.std.specs.Prelude.{◌<◌, slice_index}
use Rattle.board.specs.Shapes.{cell_count}
use Rattle.board.specs.Boards.{BoardModel}
use Rattle.successor_sums.proofs.MoveLemmas.{blank_below}
use Rattle.successor_sums.proofs.unpacked.UnpackedBoard.blank.Goals as goal

pub returns-clause-within : goal.returns-clause-within
returns-clause-within c = subst (λ (p : BoardModel). slice_index c.self.inside.cells 0 < cell_count p.grid) c.self.view_is (blank_below c.self.inside c.self.invariant)
