use Rattle.byte_streams.specs.Streams.{change}
use Rattle.certificate_runs.proofs.HeadlineLemmas.{answer_true}
use Rattle.certificate_runs.proofs.certifying.certify_first.Goals as goal

pub returns-clause-truth : goal.returns-clause-truth
returns-clause-truth g c =
    answer_true (g.A.Prover.setup c.args.prover.now).tables.split (g.A.ProofRuled.rules c.args.prover.now) (g.met.A.Prover.fits c.args.prover.now).truthful (change g.S.Source.state c.args.source.now c.reply_to_first.new.source) (change g.K.Sink.state c.args.sink.now c.reply_to_first.new.sink) c.reply_to_first.result c.reply_to_first.ensures.replies
