use Rattle.std.proofs.Common.{refl}
use Rattle.byte_streams.specs.Streams.{change}
use Rattle.certificate.specs.Readings.{all_rows}
use Rattle.certificate.proofs.ReaderLemmas.{passed}
use Rattle.certificate.proofs.TextLemmas.{count_law}
use Rattle.certificate.proofs.CertificateLemmas.{proof_there}
use Rattle.certificate.proofs.SourceLemmas.{first_refuses, reads_after}
use Rattle.certificate.proofs.reading.read_all_rows.Goals as goal

pub returns-in_err-count : goal.returns-in_err-count
unfolding all_rows
returns-in_err-count g c =
    passed (all_rows c.args.shape) _ (change g.S.Source.state c.args.source.now c.read_count.new.source) c.from_residual.result c.in_err-count.field-0.0 c.from_residual.ensures.1
    (first_refuses _ c.in_err-count.ensures)

pub returns : goal.returns
unfolding all_rows
returns g c =
    reads_after _ _ _ (g.S.Source.state c.read_rows.new.source) c.read_rows.result count_law
    (λ read s t n r. proof_there c.args.shape read.items _ (c.in_ok-count.count, s, t, n, record { count = r.count; rows = r.rows; rising = r.rising; is = r.is }, refl))
    c.in_ok-count.ensures c.read_rows.ensures
