use Rattle.std.proofs.Common.{◌<◌, ◌≤◌, ℕ, sym, ap, subst, ◌∙◌, arith}
use Rattle.board.specs.Shapes.{ShapeModel, cell_count}
use Rattle.board.specs.Boards.{cell_of}
use Rattle.search_keys.proofs.SearchKeyLemmas.{short_stored, short_here, long_here, first_is, tile_on, tile_digit, many_cells, few_cells, stored_board, stored_grid}
use Rattle.search_keys.proofs.keyed.KeyedBoard.number_on.Goals as goal

pub overflow_cast-self-inside : goal.overflow_cast-self-inside
overflow_cast-self-inside c = let low = short_stored c.self.inside c.self.invariant (c.is_short.ensures.0 c.if-is_short.true) in omega arith

pub short_place-requires-clause-found : goal.short_place-requires-clause-found
short_place-requires-clause-found c =
    let tile = tile_on c.self.inside c.args.self.now c.self.invariant c.self.view_is c.args.cell c.requires in
    let most = subst (λ (g : ShapeModel). cell_count g ≤ 16) (stored_grid c.self.inside c.args.self.now c.self.invariant c.self.view_is) (c.is_short.ensures.0 c.if-is_short.true) in
    (_, omega (arith, tile.0, most), tile_digit c.self.inside c.args.self.now c.self.invariant c.self.view_is 16 (short_here c.self.inside c.args.self.now c.self.invariant c.self.view_is (c.is_short.ensures.0 c.if-is_short.true)) c.args.cell c.requires)

pub returns-then-is_short-clause-value : goal.returns-then-is_short-clause-value
returns-then-is_short-clause-value c = first_is c.self.inside c.args.self.now c.self.invariant c.self.view_is 16 (short_here c.self.inside c.args.self.now c.self.invariant c.self.view_is (c.is_short.ensures.0 c.if-is_short.true)) c.args.cell c.requires c.short_place.result c.short_place.ensures

pub returns-then-is_short-clause-within : goal.returns-then-is_short-clause-within
returns-then-is_short-clause-within c = subst (λ (k : ℕ). k < cell_count c.args.self.now.grid) (sym (returns-then-is_short-clause-value c)) (tile_on c.self.inside c.args.self.now c.self.invariant c.self.view_is c.args.cell c.requires).0

pub returns-then-is_short-clause-cell : goal.returns-then-is_short-clause-cell
returns-then-is_short-clause-cell c = ap (cell_of c.args.self.now) (returns-then-is_short-clause-value c) ∙ (tile_on c.self.inside c.args.self.now c.self.invariant c.self.view_is c.args.cell c.requires).1

pub long_place-requires-clause-found : goal.long_place-requires-clause-found
long_place-requires-clause-found c =
    let tile = tile_on c.self.inside c.args.self.now c.self.invariant c.self.view_is c.args.cell c.requires in
    let most = few_cells c.args.self.now.grid (stored_board c.self.inside c.args.self.now c.self.invariant c.self.view_is).sides in
    (_, omega (arith, tile.0, most), tile_digit c.self.inside c.args.self.now c.self.invariant c.self.view_is 32 (long_here c.self.inside c.args.self.now c.self.invariant c.self.view_is (many_cells _ _ c.is_short.ensures c.if-is_short.false)) c.args.cell c.requires)

pub returns-clause-value : goal.returns-clause-value
returns-clause-value c = first_is c.self.inside c.args.self.now c.self.invariant c.self.view_is 32 (long_here c.self.inside c.args.self.now c.self.invariant c.self.view_is (many_cells _ _ c.is_short.ensures c.if-is_short.false)) c.args.cell c.requires c.long_place.result c.long_place.ensures

pub returns-clause-within : goal.returns-clause-within
returns-clause-within c = subst (λ (k : ℕ). k < cell_count c.args.self.now.grid) (sym (returns-clause-value c)) (tile_on c.self.inside c.args.self.now c.self.invariant c.self.view_is c.args.cell c.requires).0

pub returns-clause-cell : goal.returns-clause-cell
returns-clause-cell c = ap (cell_of c.args.self.now) (returns-clause-value c) ∙ (tile_on c.self.inside c.args.self.now c.self.invariant c.self.view_is c.args.cell c.requires).1
