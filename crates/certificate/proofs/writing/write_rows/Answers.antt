use Rattle.std.proofs.Common.{length}
use Rattle.std.specs.List.{flat_map}
use Rattle.byte_streams.specs.Streams.{change}
use Rattle.byte_streams.proofs.SinkLemmas.{Writes-after}
use Rattle.certificate.specs.Spellings.{count_text, row_text}
use Rattle.certificate.proofs.ReaderLemmas.{writes_stop}
use Rattle.certificate.proofs.writing.write_rows.Goals as goal

pub returns-in_err-write_count : goal.returns-in_err-write_count
returns-in_err-write_count g c =
    let rows = c.args.rows.now in
    writes_stop _ (change g.K.Sink.state c.args.sink.now c.write_count.new.sink) (count_text (length rows)) (flat_map row_text rows) c.from_residual.result c.from_residual.ensures.1 c.in_err-write_count.ensures

pub returns : goal.returns
returns g c =
    let state = g.K.Sink.state in
    let rows = c.args.rows.now in
    Writes-after (state c.args.sink.now) (state c.write_count.new.sink) (state c.write_each_row.new.sink) (count_text (length rows)) (flat_map row_text rows) c.write_each_row.result c.in_ok-write_count.ensures c.write_each_row.ensures
