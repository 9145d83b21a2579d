use Rattle.std.proofs.Common.{◌+◌, ◌<◌, length, refl, sym, ◌∙◌, subst, arith}
use Rattle.board.specs.Shapes.{ShapeModel, cell_count}
use Rattle.pattern_graph.specs.Numberings.{AreNumberedTo, IsLabelled}
use Rattle.pattern_graph.proofs.RegionLemmas.{begun_all, begun_first, begun_row}
use Rattle.pattern_graph.proofs.regions.Regions.add_row.Goals as goal

pub cells-init : goal.cells-init
cells-init c = (record { shape = refl; count = refl; choices = refl }, begun_first c.args.self.now c.args.set c.args.cells.now c.label_cells-labels.result c.requires.next.begun c.requires.next.inside c.requires.cells)

pub add_cell-requires-clause-inside : goal.add_cell-requires-clause-inside
add_cell-requires-clause-inside c = subst (λ (grid : ShapeModel). c.cells.cell < cell_count grid) (sym c.cells.invariant.0.shape) (omega arith)

pub add_cell-requires-clause-row : goal.add_cell-requires-clause-row
add_cell-requires-clause-row c =
    subst (λ (grid : ShapeModel). IsLabelled grid c.args.set c.args.cells.now c.label_cells-labels.result) (sym c.cells.invariant.0.shape)
    (begun_row c.args.self.now c.args.set c.args.cells.now c.label_cells-labels.result c.requires.next.begun c.requires.next.inside c.requires.cells c.label_cells-labels.ensures)

pub add_cell-requires-clause-numbered : goal.add_cell-requires-clause-numbered
add_cell-requires-clause-numbered c =
    subst (λ (grid : ShapeModel). AreNumberedTo grid (length c.args.cells.now) c.args.cells.now c.label_cells-labels.result c.cells.self.numbers.items c.cells.self.homes.items c.args.set c.cells.cell) (sym c.cells.invariant.0.shape) c.cells.invariant.1

pub cells-preserved : goal.cells-preserved
cells-preserved c =
    let same = c.add_cell.ensures.same in (
      record { shape = same.shape ∙ c.cells.invariant.0.shape; count = same.count ∙ c.cells.invariant.0.count; choices = same.choices ∙ c.cells.invariant.0.choices },
      subst (λ (grid : ShapeModel). AreNumberedTo grid (length c.args.cells.now) c.args.cells.now c.label_cells-labels.result c.add_cell.new.self.numbers.items c.add_cell.new.self.homes.items c.args.set (c.cells.cell + 1)) (same.shape ∙ c.cells.invariant.0.shape) c.in_ok-add_cell.ensures.numbered,
    )

pub returns : goal.returns
returns c =
    begun_all c.args.self.now c.args.set c.args.cells.now c.label_cells-labels.result c.requires.next.begun c.requires.next.inside c.requires.cells c.label_cells-labels.ensures
    c.cells.cell (omega arith) (omega arith) c.cells.self c.cells.invariant.0 c.cells.invariant.1
