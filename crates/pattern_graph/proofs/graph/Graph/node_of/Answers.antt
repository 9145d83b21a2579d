use Rattle.std.proofs.Common.{◌∙◌, ℕ, List, refl, sym, subst, arith}
use Rattle.board.proofs.NeighbourLemmas.{cells_above}
use Rattle.pattern_index.specs.Views.{view_of}
use Rattle.pattern_graph.specs.Regions.{IsPlaced}
use Rattle.pattern_graph.proofs.GraphLemmas.{board_seen, cells_picked, view_seen, free_at, node_by}
use Rattle.pattern_graph.proofs.graph.Graph.node_of.Goals as goal

pub region-region-requires-clause-apart : goal.region-region-requires-clause-apart
region-region-requires-clause-apart c =
    let seen = view_seen c.args.group.now c.args.self.now (view_of c.args.group.now.tiles c.args.board.now) c.requires.regions (board_seen c.args.group.now c.args.board.now c.cells_of-numbers.ensures.board c.tiles.ensures.group c.requires.grid) in
    let picked = cells_picked c.args.group.now c.args.board.now c.cells_of-numbers.result c.tiles-count.result.now c.tiles.result.now c.pick_cells.new.cells _ c.tiles.ensures.group c.requires.grid c.tiles-count.ensures.value c.tiles.ensures.value c.pick_cells.ensures c.cells_of-numbers.ensures.cells in
    record { placed = subst (λ (xs : List ℕ). IsPlaced c.args.self.now.regions.shape c.args.self.now.regions.count xs) (sym picked) seen.placed; free = free_at c.args.self.now.regions.shape _ _ _ _ picked (c.cells_of-numbers.ensures.cells 0 (cells_above c.args.board.now.grid c.cells_of-numbers.ensures.board.sides)) seen.free }

pub overflow_mul-result : goal.overflow_mul-result
overflow_mul-result c =
    let seen = view_seen c.args.group.now c.args.self.now (view_of c.args.group.now.tiles c.args.board.now) c.requires.regions (board_seen c.args.group.now c.args.board.now c.cells_of-numbers.ensures.board c.tiles.ensures.group c.requires.grid) in
    let value = node_by c.args.self.now.regions (view_of c.args.group.now.tiles c.args.board.now) _ _ c.region-region.result c.size.result _ (cells_picked c.args.group.now c.args.board.now c.cells_of-numbers.result c.tiles-count.result.now c.tiles.result.now c.pick_cells.new.cells _ c.tiles.ensures.group c.requires.grid c.tiles-count.ensures.value c.tiles.ensures.value c.pick_cells.ensures c.cells_of-numbers.ensures.cells) (c.cells_of-numbers.ensures.cells 0 (cells_above c.args.board.now.grid c.cells_of-numbers.ensures.board.sides)) c.region-region.ensures (c.size.ensures ∙ c.requires.sound.orders.passes.size) refl in
    omega (arith, seen.below_all, c.requires.sound.few)

pub overflow_add-result : goal.overflow_add-result
overflow_add-result c =
    let seen = view_seen c.args.group.now c.args.self.now (view_of c.args.group.now.tiles c.args.board.now) c.requires.regions (board_seen c.args.group.now c.args.board.now c.cells_of-numbers.ensures.board c.tiles.ensures.group c.requires.grid) in
    let value = node_by c.args.self.now.regions (view_of c.args.group.now.tiles c.args.board.now) _ _ c.region-region.result c.size.result c.order_of.result (cells_picked c.args.group.now c.args.board.now c.cells_of-numbers.result c.tiles-count.result.now c.tiles.result.now c.pick_cells.new.cells _ c.tiles.ensures.group c.requires.grid c.tiles-count.ensures.value c.tiles.ensures.value c.pick_cells.ensures c.cells_of-numbers.ensures.cells) (c.cells_of-numbers.ensures.cells 0 (cells_above c.args.board.now.grid c.cells_of-numbers.ensures.board.sides)) c.region-region.ensures (c.size.ensures ∙ c.requires.sound.orders.passes.size) c.order_of.ensures.value in
    omega (arith, seen.below_all, c.requires.sound.few)

pub returns-clause-value : goal.returns-clause-value
returns-clause-value c = node_by c.args.self.now.regions (view_of c.args.group.now.tiles c.args.board.now) _ _ c.region-region.result c.size.result c.order_of.result (cells_picked c.args.group.now c.args.board.now c.cells_of-numbers.result c.tiles-count.result.now c.tiles.result.now c.pick_cells.new.cells _ c.tiles.ensures.group c.requires.grid c.tiles-count.ensures.value c.tiles.ensures.value c.pick_cells.ensures c.cells_of-numbers.ensures.cells) (c.cells_of-numbers.ensures.cells 0 (cells_above c.args.board.now.grid c.cells_of-numbers.ensures.board.sides)) c.region-region.ensures (c.size.ensures ∙ c.requires.sound.orders.passes.size) c.order_of.ensures.value

pub returns-clause-view : goal.returns-clause-view
returns-clause-view c = (board_seen c.args.group.now c.args.board.now c.cells_of-numbers.ensures.board c.tiles.ensures.group c.requires.grid)

pub returns-clause-below : goal.returns-clause-below
returns-clause-below c =
    let seen = view_seen c.args.group.now c.args.self.now (view_of c.args.group.now.tiles c.args.board.now) c.requires.regions (board_seen c.args.group.now c.args.board.now c.cells_of-numbers.ensures.board c.tiles.ensures.group c.requires.grid) in
    let value = node_by c.args.self.now.regions (view_of c.args.group.now.tiles c.args.board.now) _ _ c.region-region.result c.size.result c.order_of.result (cells_picked c.args.group.now c.args.board.now c.cells_of-numbers.result c.tiles-count.result.now c.tiles.result.now c.pick_cells.new.cells _ c.tiles.ensures.group c.requires.grid c.tiles-count.ensures.value c.tiles.ensures.value c.pick_cells.ensures c.cells_of-numbers.ensures.cells) (c.cells_of-numbers.ensures.cells 0 (cells_above c.args.board.now.grid c.cells_of-numbers.ensures.board.sides)) c.region-region.ensures (c.size.ensures ∙ c.requires.sound.orders.passes.size) c.order_of.ensures.value in
    omega (arith, seen.below_all)
