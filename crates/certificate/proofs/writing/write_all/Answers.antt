use Rattle.std.proofs.Common.{length, ◌++◌, List, ℕ, subst}
use Rattle.std.specs.List.{flat_map}
use Rattle.board.specs.Boards.{BoardModel}
use Rattle.byte_streams.specs.Streams.{change}
use Rattle.byte_streams.specs.Sink.{Writes}
use Rattle.byte_streams.proofs.SinkLemmas.{Writes-after}
use Rattle.certificate.specs.Spellings.{count_text, row_text, front_text}
use Rattle.certificate.proofs.ReaderLemmas.{writes_stop}
use Rattle.certificate.proofs.writing.write_all.Goals as goal

pub returns-in_err-write_front : goal.returns-in_err-write_front
returns-in_err-write_front g c =
    let d = c.args.certificate.now in
    writes_stop _ (change g.K.Sink.state c.args.sink.now c.write_front.new.sink) (front_text d) (count_text (length d.rows) ++ flat_map row_text d.rows) c.from_residual.result c.from_residual.ensures.1 c.in_err-write_front.ensures

pub returns : goal.returns
returns g c =
    let state = g.K.Sink.state in
    let d = c.args.certificate.now in
    let rows = subst (λ (rows : List (BoardModel × ℕ)). Writes (change state c.write_front.new.sink c.write_rows.new.sink) (count_text (length rows) ++ flat_map row_text rows) c.write_rows.result) c.rows.ensures c.write_rows.ensures in
    Writes-after (state c.args.sink.now) (state c.write_front.new.sink) (state c.write_rows.new.sink) (front_text d) (count_text (length d.rows) ++ flat_map row_text d.rows) c.write_rows.result c.in_ok-write_front.ensures rows
