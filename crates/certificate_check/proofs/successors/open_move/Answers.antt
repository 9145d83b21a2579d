use Rattle.std.proofs.Common.{◌≡◌, Some, get_or, slice_get, length, refl, sym, ap, ◌∙◌, arith}
use Rattle.std.proofs.lemmas.Bool.{true≢false}
use Rattle.board.specs.Moves.{all_moves}
use Rattle.board.specs.declared.moves.Move.TheVariants.{U}
use Rattle.certificate_check.proofs.RowLemmas.{row_at, row_here_at, number_at, number_low, one_move_more, row_again, told_at}
use Rattle.certificate_check.proofs.successors.open_move.Goals as goal

pub leaves_open-requires-clause-low : goal.leaves_open-requires-clause-low
leaves_open-requires-clause-low c =
    let cert = c.args.certificate.now in
    let row = c.index-rows-place.result in
    let at : slice_get cert.rows c.args.place ≡ Some row = row_here_at cert c.rows.result.now c.args.place row c.rows.ensures (omega (arith, ap length c.rows.ensures)) c.index-rows-place.is in
    (row_at cert c.requires.certificate c.args.place row at).cost

pub returns-then-leaves_open-clause-leaves : goal.returns-then-leaves_open-clause-leaves
returns-then-leaves_open-clause-leaves c =
    let cert = c.args.certificate.now in
    let row = c.index-rows-place.result in
    let at : slice_get cert.rows c.args.place ≡ Some row = row_here_at cert c.rows.result.now c.args.place row c.rows.ensures (omega (arith, ap length c.rows.ensures)) c.index-rows-place.is in
    let board = (row_at cert c.requires.certificate c.args.place row at).board in
    let m = get_or all_moves c.moves.number U in
    let told = told_at cert.costs c.costs.result c.args.bound.now row.0 c.new-board.result c.moves.number (omega arith) c.successors-told.result c.successors-told.ensures.value c.costs.ensures c.new-board.ensures in
    (row, at, (c.leaves_open.ensures c.args.bound.now row.0 m board told).0 c.if-leaves_open.true)

pub returns-then-leaves_open-clause-first : goal.returns-then-leaves_open-clause-first
returns-then-leaves_open-clause-first c = λ m less.
    let number = number_at c.moves.number (omega arith) in
    c.moves.invariant m (omega (arith, number, less))

pub moves-preserved : goal.moves-preserved
moves-preserved c =
    let cert = c.args.certificate.now in
    let row = c.index-rows-place.result in
    let at : slice_get cert.rows c.args.place ≡ Some row = row_here_at cert c.rows.result.now c.args.place row c.rows.ensures (omega (arith, ap length c.rows.ensures)) c.index-rows-place.is in
    let board = (row_at cert c.requires.certificate c.args.place row at).board in
    let m = get_or all_moves c.moves.number U in
    let told = told_at cert.costs c.costs.result c.args.bound.now row.0 c.new-board.result c.moves.number (omega arith) c.successors-told.result c.successors-told.ensures.value c.costs.ensures c.new-board.ensures in
    one_move_more cert c.args.bound.now c.args.place c.moves.number (omega arith) c.moves.invariant
    (λ o. true≢false (sym ((c.leaves_open.ensures c.args.bound.now row.0 m board told).1 (row_again cert c.args.bound.now c.args.place c.args.place row m refl at o)) ∙ c.if-leaves_open.false))

pub returns-clause-none : goal.returns-clause-none
returns-clause-none c = λ e m. c.moves.invariant m (let low = number_low m in omega (arith, low))
