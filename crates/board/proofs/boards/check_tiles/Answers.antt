use Rattle.std.proofs.Common.{get_or, refl, arith}
use Rattle.board.proofs.TileLemmas.{IsSeen-more, all_seen}
use Rattle.board.proofs.boards.check_tiles.Goals as goal

pub loop-place-preserved : goal.loop-place-preserved
loop-place-preserved c =
    IsSeen-more c.args.shape c.args.numbers.now c.loop-place.place c.loop-place.seen (get_or c.args.numbers.now c.loop-place.place 0) c.loop-place.invariant c.loop-place-test.true refl
    (omega (arith, c.cells-count.ensures.value)) (omega (arith, c.cells-count.ensures.value)) c.if-seen-tile.false

pub returns-clause-sound : goal.returns-clause-sound
returns-clause-sound c = all_seen c.args.shape c.args.numbers.now c.loop-place.place c.loop-place.seen c.cells-count.ensures.sides (omega (arith, c.cells-count.ensures.value)) (omega arith) c.loop-place.invariant
