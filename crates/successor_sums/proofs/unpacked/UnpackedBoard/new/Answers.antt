use Rattle.std.proofs.Common.{rules, sym}
use Rattle.board.specs.Keys.{HasKey}
use Rattle.successor_sums.proofs.MoveLemmas.{key_read, unpacked_as}
use Rattle.successor_sums.proofs.unpacked.UnpackedBoard.new.Goals as goal

pub invariant_of-result : goal.invariant_of-result
invariant_of-result c =
    let has : HasKey c.shape.result c.key.result c.args.board.now = record { board = c.shape.ensures.board; sides = sym c.shape.ensures.value; packed = sym c.key.ensures.value } in
    unpacked_as _ c.args.board.now has (record { all = search rules; are = c.cells_of.ensures.cells })

pub returns : goal.returns
returns c =
    let has : HasKey c.shape.result c.key.result c.args.board.now = record { board = c.shape.ensures.board; sides = sym c.shape.ensures.value; packed = sym c.key.ensures.value } in
    key_read c.shape.result c.key.result c.args.board.now has
