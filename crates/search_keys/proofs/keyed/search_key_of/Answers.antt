use Rattle.std.proofs.Common.{◌≡◌, ◌<◌, ◌≤◌, ◌∙◌, ap, subst, take}
use Rattle.board.specs.Shapes.{ShapeModel, cell_count}
use Rattle.search_keys.proofs.SearchKeyLemmas.{cells_low, cells_taken, key_made, long_base, many_cells, short_base}
use Rattle.search_keys.proofs.keyed.search_key_of.Goals as goal

pub short_number-requires-clause-low : goal.short_number-requires-clause-low
short_number-requires-clause-low c =
    let count : c.cells.result ≡ cell_count c.args.board.now.grid = c.cells.ensures.value ∙ ap cell_count c.shape-shape.ensures.value in
    let few = subst (λ (g : ShapeModel). cell_count g ≤ 16) c.shape-shape.ensures.value (c.is_short.ensures.0 c.if-is_short.true) in
    cells_low c.args.board.now (take c.cells.result c.cells_of-cells.result) 16 c.shape-shape.ensures.board (short_base c.args.board.now.grid few)
    (cells_taken c.args.board.now c.cells_of-cells.result c.cells.result c.shape-shape.ensures.board c.cells_of-cells.type_inv.1.0.1 count c.cells_of-cells.ensures.cells)

pub returns-then-is_short-clause-value : goal.returns-then-is_short-clause-value
returns-then-is_short-clause-value c =
    let count : c.cells.result ≡ cell_count c.args.board.now.grid = c.cells.ensures.value ∙ ap cell_count c.shape-shape.ensures.value in
    let few = subst (λ (g : ShapeModel). cell_count g ≤ 16) c.shape-shape.ensures.value (c.is_short.ensures.0 c.if-is_short.true) in
    c.short_number.ensures
    ∙ key_made c.args.board.now (take c.cells.result c.cells_of-cells.result) 16 (short_base c.args.board.now.grid few)
    (cells_taken c.args.board.now c.cells_of-cells.result c.cells.result c.shape-shape.ensures.board c.cells_of-cells.type_inv.1.0.1 count c.cells_of-cells.ensures.cells)

pub long_number-requires-clause-low : goal.long_number-requires-clause-low
long_number-requires-clause-low c =
    let count : c.cells.result ≡ cell_count c.args.board.now.grid = c.cells.ensures.value ∙ ap cell_count c.shape-shape.ensures.value in
    let many = subst (λ (g : ShapeModel). 16 < cell_count g) c.shape-shape.ensures.value (many_cells _ _ c.is_short.ensures c.if-is_short.false) in
    cells_low c.args.board.now (take c.cells.result c.cells_of-cells.result) 32 c.shape-shape.ensures.board (long_base c.args.board.now.grid many)
    (cells_taken c.args.board.now c.cells_of-cells.result c.cells.result c.shape-shape.ensures.board c.cells_of-cells.type_inv.1.0.1 count c.cells_of-cells.ensures.cells)

pub returns-clause-value : goal.returns-clause-value
returns-clause-value c =
    let count : c.cells.result ≡ cell_count c.args.board.now.grid = c.cells.ensures.value ∙ ap cell_count c.shape-shape.ensures.value in
    let many = subst (λ (g : ShapeModel). 16 < cell_count g) c.shape-shape.ensures.value (many_cells _ _ c.is_short.ensures c.if-is_short.false) in
    c.long_number.ensures
    ∙ key_made c.args.board.now (take c.cells.result c.cells_of-cells.result) 32 (long_base c.args.board.now.grid many)
    (cells_taken c.args.board.now c.cells_of-cells.result c.cells.result c.shape-shape.ensures.board c.cells_of-cells.type_inv.1.0.1 count c.cells_of-cells.ensures.cells)
