use Rattle.std.proofs.Common.{◌++◌, sym, ◌∙◌}
use Rattle.byte_streams.specs.Streams.{change}
use Rattle.certificate.specs.Readings.{row}
use Rattle.certificate.specs.Fields.{SpellsRow}
use Rattle.certificate.proofs.ReaderLemmas.{passed}
use Rattle.certificate.proofs.TextLemmas.{board_law}
use Rattle.certificate.proofs.RowLemmas.{sides_of, follows_from_test}
use Rattle.certificate.proofs.SourceLemmas.{first_refuses, then_refuses, as_one_refuses, row_refuses, row_lacks_memory, found_after}
use Rattle.certificate.proofs.fields.read_row.Goals as goal

pub returns-in_err-board-clause-row : goal.returns-in_err-board-clause-row
unfolding row
returns-in_err-board-clause-row g c =
    let grid = c.args.shape in
    let before = c.args.before in
    passed (row grid before) (SpellsRow grid before) (change g.S.Source.state c.args.source.now c.read_board.new.source) c.from_residual.result c.in_err-board.field-0.0 c.from_residual.ensures.1
    (as_one_refuses (first_refuses _ c.in_err-board.ensures))

pub returns-in-Err-clause-row : goal.returns-in-Err-clause-row
returns-in-Err-clause-row g c =
    row_lacks_memory c.args.shape c.args.before c.in_ok-board.board (change g.S.Source.state c.args.source.now c.read_board.new.source) c.in_ok-board.ensures _

pub returns-in_err-cost-clause-row : goal.returns-in_err-cost-clause-row
unfolding row
returns-in_err-cost-clause-row g c =
    let grid = c.args.shape in
    let before = c.args.before in
    passed (row grid before) (SpellsRow grid before) (change g.S.Source.state c.args.source.now c.read_number.new.source) c.from_residual-in_err-cost.result c.in_err-cost.field-0.0 c.from_residual-in_err-cost.ensures.1
    (as_one_refuses (then_refuses _ (board_law grid (sides_of grid c.in_ok-board.board c.in_ok-board.ensures.spells.board)) c.in_ok-board.ensures (first_refuses _ c.in_err-cost.ensures)))

pub returns-then-not-comes_after-clause-row : goal.returns-then-not-comes_after-clause-row
returns-then-not-comes_after-clause-row g c =
    let state = g.S.Source.state in
    row_refuses c.args.shape c.args.before c.in_ok-board.board c.in_ok-cost.cost (state c.args.source.now) (state c.read_board.new.source) (state c.read_number.new.source) c.in_ok-board.ensures c.in_ok-cost.ensures (sym c.comes_after.ensures ∙ c.if-not-comes_after.true)

pub returns-clause-row : goal.returns-clause-row
returns-clause-row g c =
    let grid = c.args.shape in
    let before = c.args.before in
    found_after
    (λ s t b n. record {
      row = record { board = b.board; cost = n.within };
      follows = follows_from_test grid before c.in_ok-board.board c.requires b.board (sym c.comes_after.ensures ∙ c.if-not-comes_after.false);
      is = λ i. b.is i ++ n.is i;
    })
    c.in_ok-board.ensures c.in_ok-cost.ensures
