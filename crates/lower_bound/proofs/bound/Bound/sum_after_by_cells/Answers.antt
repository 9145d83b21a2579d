use Rattle.std.proofs.Common.{refl, subst}
use Rattle.board.specs.Boards.{BoardModel}
use Rattle.lower_bound.specs.Slides.{HasCells}
use Rattle.lower_bound.proofs.ConsecutiveLemmas.{slide_of}
use Rattle.lower_bound.proofs.bound.Bound.sum_after_by_cells.Goals as goal

pub returns-in-Some-clause-value : goal.returns-in-Some-clause-value
returns-in-Some-clause-value c = λ b' move. c.sum_after.ensures.value c.args.reading.now b' (slide_of c.args.self.now c.in-Some.cells.now c.args.tile c.args.sum c.args.reading.now b' c.requires.sum c.in-Some.ensures move) c.requires.sum.is

pub returns-clause-value : goal.returns-clause-value
returns-clause-value c = λ b' move.
    let at : HasCells c.board.result.now.grid c.cells-2.result c.board.result.now = record { board = c.cells-2.ensures.board; sides = refl; listed = record { all = c.cells-2.type_inv.1.0.1; are = c.cells-2.ensures.cells } } in
    let here = subst (λ (p : BoardModel). HasCells p.grid c.cells-2.result p) c.board.ensures.value at in
    c.sum_after-2.ensures.value c.args.reading.now b' (slide_of c.args.self.now c.cells-2.result c.args.tile c.args.sum c.args.reading.now b' c.requires.sum here move) c.requires.sum.is
