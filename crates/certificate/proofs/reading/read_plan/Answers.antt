use Rattle.std.proofs.Common.{refl}
use Rattle.byte_streams.specs.Streams.{change}
use Rattle.certificate.specs.Readings.{plan}
use Rattle.certificate.proofs.ReaderLemmas.{passed}
use Rattle.certificate.proofs.TextLemmas.{number_law, plan_there}
use Rattle.certificate.proofs.SourceLemmas.{first_refuses, reads_after}
use Rattle.certificate.proofs.reading.read_plan.Goals as goal

pub returns-in_err-count : goal.returns-in_err-count
unfolding plan
returns-in_err-count g c =
    passed plan _ (change g.S.Source.state c.args.source.now c.read_number.new.source) c.from_residual.result c.in_err-count.field-0.0 c.from_residual.ensures.1
    (first_refuses _ c.in_err-count.ensures)

pub returns : goal.returns
unfolding plan
returns g c =
    reads_after _ _ _ (g.S.Source.state c.read_letters.new.source) c.read_letters.result number_law (λ moves s t n l. plan_there moves.items _ (c.in_ok-count.count, s, t, n, l, refl)) c.in_ok-count.ensures c.read_letters.ensures
