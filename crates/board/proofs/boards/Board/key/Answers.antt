use Rattle.std.proofs.Common.{◌≡◌, ◌<◌, ◌^◌, ℕ, List, arith, length, take}
use Rattle.board.specs.Boards.{BoardModel, IsBoard}
use Rattle.board.specs.Keys.{packed_number}
use Rattle.board.proofs.KeyLemmas.{packed_number-more, key_fits}
use Rattle.board.proofs.boards.Board.key.Goals as goal

-- the tiles read before another one leave room for it
room : (b : BoardModel) (tiles : List ℕ) (i : ℕ) → IsBoard b → tiles ≡ b.tiles → i < length tiles → packed_number (take i tiles) < 2 ^ 120
room b tiles i board same before =
    let inside : i < length b.tiles = rw same at before in
    rw same (key_fits b i board (omega (arith, board.one_each)))

pub overflow_mul-key : goal.overflow_mul-key
overflow_mul-key c = omega (arith, c.loop-tile.invariant, room c.args.self.now c.tiles-tile-items.result.now c.loop-tile.tile-index c.tiles-tile-items.ensures.board c.tiles-tile-items.ensures.value c.loop-tile-test.true)

pub overflow_add-key : goal.overflow_add-key
overflow_add-key c = omega (arith, c.loop-tile.invariant, room c.args.self.now c.tiles-tile-items.result.now c.loop-tile.tile-index c.tiles-tile-items.ensures.board c.tiles-tile-items.ensures.value c.loop-tile-test.true)

pub loop-tile-preserved : goal.loop-tile-preserved
loop-tile-preserved c = grind (arith, c.loop-tile.invariant, packed_number-more)
