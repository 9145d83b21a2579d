use Rattle.byte_streams.specs.Streams.{change}
use Rattle.certificate.proofs.LawLemmas.{certificate_read}
use Rattle.certificate.proofs.reading.read.Goals as goal

pub returns : goal.returns
returns g c = certificate_read (change g.S.Source.state c.args.source.now c.read_all.new.source) c.read_all.result c.read_all.ensures
