use Rattle.byte_streams.specs.Streams.{change}
use Rattle.certificate.specs.Spellings.{number_text}
use Rattle.certificate.proofs.ReaderLemmas.{writes_stop}
use Rattle.certificate.proofs.writing.write_row.Goals as goal

pub returns-in_err-write_tiles : goal.returns-in_err-write_tiles
returns-in_err-write_tiles g c =
    let row = c.args.row.now in
    writes_stop _ (change g.K.Sink.state c.args.sink.now c.write_tiles.new.sink) row.0.tiles (number_text row.1) c.from_residual.result c.from_residual.ensures.1 c.in_err-write_tiles.ensures
