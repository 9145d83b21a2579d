use Rattle.std.proofs.Common.{◌∙◌, subst}
use Rattle.lower_bound.specs.Consecutive.{HasConsecutiveTables}
use Rattle.lower_bound.specs.Slides.{HasCells}
use Rattle.lower_bound.specs.Tables.{IsTables}
use Rattle.lower_bound.proofs.ConsecutiveLemmas.{held_consecutive, sum_read, tables_read}
use Rattle.lower_bound.proofs.PartLemmas.{nothing_below}
use Rattle.lower_bound.proofs.bound.Bound.of_keyed.Goals as goal

pub sum_by_digits-requires-clause-read : goal.sum_by_digits-requires-clause-read
sum_by_digits-requires-clause-read c =
    let digits : HasConsecutiveTables c.args.self.now = subst HasConsecutiveTables c.self.view_is (held_consecutive c.self.inside.partition c.self.inside.held (c.self.invariant.2.0 c.if-self.true)) in
    tables_read c.args.self.now c.whole.result.now c.args.board.now (subst IsTables c.self.view_is c.self.invariant.0) digits.groups c.shape.ensures.board c.requires c.whole.ensures.value

pub returns-then-self-clause-value : goal.returns-then-self-clause-value
returns-then-self-clause-value c =
    let digits : HasConsecutiveTables c.args.self.now = subst HasConsecutiveTables c.self.view_is (held_consecutive c.self.inside.partition c.self.inside.held (c.self.invariant.2.0 c.if-self.true)) in
    c.sum_by_digits.ensures.value ∙ sum_read c.args.self.now c.whole.result.now c.args.board.now digits.whole c.whole.ensures.value

pub returns-then-self-clause-nothing_below : goal.returns-then-self-clause-nothing_below
returns-then-self-clause-nothing_below c = λ rule goal potentials.
    nothing_below rule goal c.args.board.now c.args.self.now c.sum_by_digits.result (subst IsTables c.self.view_is c.self.invariant.0) c.shape.ensures.board c.requires (returns-then-self-clause-value c) potentials

pub sum_at-requires : goal.sum_at-requires
sum_at-requires c = (c.args.board.now, record { board = c.cells.ensures.board; sides = c.requires; listed = record { all = c.cells.type_inv.1.0.1; are = c.cells.ensures.cells } })

pub returns-clause-value : goal.returns-clause-value
returns-clause-value c =
    let has : HasCells c.args.self.now.split.grid c.cells.result c.args.board.now = record { board = c.cells.ensures.board; sides = c.requires; listed = record { all = c.cells.type_inv.1.0.1; are = c.cells.ensures.cells } } in
    c.sum_at.ensures.value c.args.board.now has

pub returns-clause-nothing_below : goal.returns-clause-nothing_below
returns-clause-nothing_below c = λ rule goal potentials.
    let has : HasCells c.args.self.now.split.grid c.cells.result c.args.board.now = record { board = c.cells.ensures.board; sides = c.requires; listed = record { all = c.cells.type_inv.1.0.1; are = c.cells.ensures.cells } } in
    c.sum_at.ensures.nothing_below c.args.board.now has rule goal potentials
