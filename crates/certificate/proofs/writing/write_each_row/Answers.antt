use Rattle.std.proofs.Common.{◌+◌, ◌∙◌, ◌++◌, ℕ, take, drop, sym, ap}
use Rattle.std.specs.List.{flat_map}
use Rattle.board.specs.Boards.{BoardModel}
use Rattle.certificate.specs.Spellings.{row_text}
use Rattle.certificate.proofs.ReaderLemmas.{writes_within, rows_cut}
use Rattle.certificate.proofs.writing.write_each_row.Goals as goal

pub returns-in_err-write_row : goal.returns-in_err-write_row
returns-in_err-write_row g c =
    let state = g.K.Sink.state in
    let rows = c.args.rows.now in
    let i = c.rows.row-index in
    let row : BoardModel × ℕ = c.row-item.result in
    let parts = rows_cut rows i row c.rows-test.true ∙ ap (λ (r : BoardModel × ℕ). flat_map row_text (take i rows) ++ (row_text r ++ flat_map row_text (drop (i + 1) rows))) (sym c.row-item.is) in
    writes_within _ (state c.args.sink.now) (state c.rows.sink) (state c.write_row.new.sink) (flat_map row_text (take i rows)) (row_text row) (flat_map row_text (drop (i + 1) rows)) (flat_map row_text rows) c.from_residual.result parts c.rows.invariant c.from_residual.ensures.1 c.in_err-write_row.ensures
