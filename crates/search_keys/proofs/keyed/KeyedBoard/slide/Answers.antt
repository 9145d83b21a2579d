use Rattle.std.proofs.Common.{◌≤◌, subst, arith}
use Rattle.board.specs.Shapes.{ShapeModel, cell_count}
use Rattle.board.specs.Moves.{blank_exchange}
use Rattle.search_keys.proofs.SearchKeyLemmas.{short_stored, short_here, long_here, slid, slid_as, short_fits, long_fits, many_cells, stored_grid}
use Rattle.search_keys.proofs.keyed.KeyedBoard.slide.Goals as goal

pub overflow_cast-self-inside : goal.overflow_cast-self-inside
overflow_cast-self-inside c = let low = short_stored c.self.inside c.self.invariant (c.is_short.ensures.0 c.if-is_short.true) in omega arith

pub short_exchanged-key-requires-clause-stand : goal.short_exchanged-key-requires-clause-stand
short_exchanged-key-requires-clause-stand c = (slid_as c.self.inside c.args.self.now c.self.invariant c.self.view_is 16 c.args.to c.number_on-tile.result c.blank-blank.result (slid c.self.inside c.args.self.now c.self.invariant c.self.view_is 16 (short_here c.self.inside c.args.self.now c.self.invariant c.self.view_is (c.is_short.ensures.0 c.if-is_short.true)) c.requires.0 c.args.to c.requires.1) c.number_on-tile.ensures.value c.blank-blank.ensures.value).0

pub short_exchanged-key-requires-clause-fits : goal.short_exchanged-key-requires-clause-fits
short_exchanged-key-requires-clause-fits c =
    let both = slid_as c.self.inside c.args.self.now c.self.invariant c.self.view_is 16 c.args.to c.number_on-tile.result c.blank-blank.result (slid c.self.inside c.args.self.now c.self.invariant c.self.view_is 16 (short_here c.self.inside c.args.self.now c.self.invariant c.self.view_is (c.is_short.ensures.0 c.if-is_short.true)) c.requires.0 c.args.to c.requires.1) c.number_on-tile.ensures.value c.blank-blank.ensures.value in
    let low = short_fits (blank_exchange c.args.self.now c.args.to) (slid c.self.inside c.args.self.now c.self.invariant c.self.view_is 16 (short_here c.self.inside c.args.self.now c.self.invariant c.self.view_is (c.is_short.ensures.0 c.if-is_short.true)) c.requires.0 c.args.to c.requires.1).board (subst (λ (g : ShapeModel). cell_count g ≤ 16) (stored_grid c.self.inside c.args.self.now c.self.invariant c.self.view_is) (c.is_short.ensures.0 c.if-is_short.true)) in
    omega (arith, both.1)

pub returns-then-is_short-clause-key : goal.returns-then-is_short-clause-key
returns-then-is_short-clause-key c =
    let both = slid_as c.self.inside c.args.self.now c.self.invariant c.self.view_is 16 c.args.to c.number_on-tile.result c.blank-blank.result (slid c.self.inside c.args.self.now c.self.invariant c.self.view_is 16 (short_here c.self.inside c.args.self.now c.self.invariant c.self.view_is (c.is_short.ensures.0 c.if-is_short.true)) c.requires.0 c.args.to c.requires.1) c.number_on-tile.ensures.value c.blank-blank.ensures.value in
    omega (arith, both.1, c.short_exchanged-key.ensures)

pub returns-then-is_short-clause-board : goal.returns-then-is_short-clause-board
returns-then-is_short-clause-board c = (slid c.self.inside c.args.self.now c.self.invariant c.self.view_is 16 (short_here c.self.inside c.args.self.now c.self.invariant c.self.view_is (c.is_short.ensures.0 c.if-is_short.true)) c.requires.0 c.args.to c.requires.1).board

pub long_exchanged-key-requires-clause-stand : goal.long_exchanged-key-requires-clause-stand
long_exchanged-key-requires-clause-stand c = (slid_as c.self.inside c.args.self.now c.self.invariant c.self.view_is 32 c.args.to c.number_on-tile.result c.blank-blank.result (slid c.self.inside c.args.self.now c.self.invariant c.self.view_is 32 (long_here c.self.inside c.args.self.now c.self.invariant c.self.view_is (many_cells _ _ c.is_short.ensures c.if-is_short.false)) c.requires.0 c.args.to c.requires.1) c.number_on-tile.ensures.value c.blank-blank.ensures.value).0

pub long_exchanged-key-requires-clause-fits : goal.long_exchanged-key-requires-clause-fits
long_exchanged-key-requires-clause-fits c =
    let both = slid_as c.self.inside c.args.self.now c.self.invariant c.self.view_is 32 c.args.to c.number_on-tile.result c.blank-blank.result (slid c.self.inside c.args.self.now c.self.invariant c.self.view_is 32 (long_here c.self.inside c.args.self.now c.self.invariant c.self.view_is (many_cells _ _ c.is_short.ensures c.if-is_short.false)) c.requires.0 c.args.to c.requires.1) c.number_on-tile.ensures.value c.blank-blank.ensures.value in
    let low = long_fits (blank_exchange c.args.self.now c.args.to) (slid c.self.inside c.args.self.now c.self.invariant c.self.view_is 32 (long_here c.self.inside c.args.self.now c.self.invariant c.self.view_is (many_cells _ _ c.is_short.ensures c.if-is_short.false)) c.requires.0 c.args.to c.requires.1).board in
    omega (arith, both.1)

pub returns-clause-key : goal.returns-clause-key
returns-clause-key c =
    let both = slid_as c.self.inside c.args.self.now c.self.invariant c.self.view_is 32 c.args.to c.number_on-tile.result c.blank-blank.result (slid c.self.inside c.args.self.now c.self.invariant c.self.view_is 32 (long_here c.self.inside c.args.self.now c.self.invariant c.self.view_is (many_cells _ _ c.is_short.ensures c.if-is_short.false)) c.requires.0 c.args.to c.requires.1) c.number_on-tile.ensures.value c.blank-blank.ensures.value in
    omega (arith, both.1, c.long_exchanged-key.ensures)

pub returns-clause-board : goal.returns-clause-board
returns-clause-board c = (slid c.self.inside c.args.self.now c.self.invariant c.self.view_is 32 (long_here c.self.inside c.args.self.now c.self.invariant c.self.view_is (many_cells _ _ c.is_short.ensures c.if-is_short.false)) c.requires.0 c.args.to c.requires.1).board
