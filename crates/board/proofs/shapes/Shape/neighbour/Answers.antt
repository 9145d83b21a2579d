use Rattle.std.proofs.Common.{sym, ◌∙◌}
use Rattle.board.proofs.NeighbourLemmas.{neighbour_lies}
use Rattle.board.proofs.shapes.Shape.neighbour.Goals as goal

pub returns-clause-towards : goal.returns-clause-towards
returns-clause-towards c = λ to.
    let lies = neighbour_lies c.args.self c.args.direction c.args.cell to c.requires in ((λ e. lies.0 (sym c.next_cell.ensures ∙ e)), (λ h. c.next_cell.ensures ∙ lies.1 h))
