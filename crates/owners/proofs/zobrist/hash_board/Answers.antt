use Rattle.std.proofs.Common.{◌≡◌, bit_xor, sym, ap, ◌∙◌, arith}
use Rattle.board.specs.Shapes.{cell_count}
use Rattle.board.specs.Boards.{cell_of}
use Rattle.owners.proofs.OwnerLemmas.{hash_begun, hash_more, hash_ended}
use Rattle.owners.proofs.zobrist.hash_board.Goals as goal

pub tiles-init : goal.tiles-init
tiles-init g c =
    let cells = cell_count c.args.board.now.grid in
    record {
      some = omega arith;
      hashed = sym (hash_begun (g.W.Words.word_on cells) (g.met.W.Words.none_of_the_blank cells) 0 c.args.board.now.tiles);
    }

pub tiles-preserved : goal.tiles-preserved
tiles-preserved g c =
    let b = c.args.board.now in
    let word_of = g.W.Words.word_on (cell_count b.grid) in
    let tile = c.tiles.tile in
    let count : c.cells-cells.result ≡ cell_count b.grid = c.cells-cells.ensures.value ∙ ap cell_count c.shape.ensures.value in
    let below = c.tiles-test.true in
    let its_word : c.word-hash.result ≡ word_of tile (cell_of b tile) =
    c.word-hash.ensures ∙ (λ i. g.W.Words.word_on (count i) tile (c.cell.ensures.value i)) in
    record {
      some = omega arith;
      hashed = ap (bit_xor c.tiles.hash) its_word ∙ hash_more word_of b tile c.tiles.hash c.shape.ensures.board (g.met.W.Words.none_of_the_blank (cell_count b.grid)) (omega (arith, count, below)) c.tiles.invariant.hashed;
    }

pub returns : goal.returns
returns g c =
    let b = c.args.board.now in
    let count : c.cells-cells.result ≡ cell_count b.grid = c.cells-cells.ensures.value ∙ ap cell_count c.shape.ensures.value in
    let end = c.tiles-test.false in
    hash_ended (g.W.Words.word_on (cell_count b.grid)) b c.tiles.tile c.tiles.hash c.shape.ensures.board (omega (arith, count, end)) c.tiles.invariant.hashed
