use Rattle.std.proofs.Common.{◌≡◌, ◌<◌, ◌+◌, ℕ, set, sym, ap, subst, ◌∙◌, arith}
use Rattle.std.specs.Prelude.{slice_index}
use Rattle.std.proofs.lemmas.List.{length-set}
use Rattle.board.specs.Shapes.{cell_count}
use Rattle.board.specs.Boards.{cell_of}
use Rattle.board.proofs.TileLemmas.{has_cell}
use Rattle.search_keys.proofs.SearchKeyLemmas.{numbers_more, numbers_all}
use Rattle.search_keys.proofs.keyed.KeyedBoard.tiles.Goals as goal

count : (c : goal.In-numbers) → c.cells-number-end.result ≡ cell_count c.args.self.now.grid
count c = c.cells-number-end.ensures.value ∙ ap cell_count c.shape.ensures.value

low : (c : goal.In-numbers) → c.numbers.number < cell_count c.args.self.now.grid
low c = let all = count c in let next = c.numbers-test.true in omega (arith, all, next)

-- the number is on this cell
there : (c : goal.In-numbers) → slice_index c.cells-cells.result c.numbers.number ≡ cell_of c.args.self.now c.numbers.number
there c = c.cells-cells.ensures.cells c.numbers.number (low c)

within : (c : goal.In-numbers) → slice_index c.cells-cells.result c.numbers.number < 25
within c =
    let is = there c in
    let few = c.cells-cells.ensures.few in
    let on_board = (has_cell c.args.self.now c.cells-cells.ensures.board c.numbers.number (low c)).0 in
    omega (arith, is, few, on_board)

pub bounds-tiles-cells : goal.bounds-tiles-cells
bounds-tiles-cells c = within c

pub numbers-preserved : goal.numbers-preserved
numbers-preserved c =
    let is = there c in
    let all = c.numbers.invariant.all in
    let room = within c in
    record {
      all = length-set c.numbers.tiles (slice_index c.cells-cells.result c.numbers.number) c.numbers.number ∙ all;
      are = subst (λ (x : ℕ). (k : ℕ) → k < c.numbers.number + 1 → slice_index (set c.numbers.tiles x c.numbers.number) (cell_of c.args.self.now k) ≡ k) (sym is) (numbers_more c.args.self.now c.numbers.tiles c.numbers.number c.cells-cells.ensures.board (low c) (omega (arith, is, all, room)) c.numbers.invariant.are);
    }

pub returns-clause-tiles : goal.returns-clause-tiles
returns-clause-tiles c =
    let all = c.cells-number-end.ensures.value ∙ ap cell_count c.shape.ensures.value in
    let end = c.numbers-test.false in
    numbers_all c.args.self.now c.numbers.tiles c.numbers.number c.shape.ensures.board c.numbers.invariant.all (omega (arith, all, end)) c.numbers.invariant.are
