use Rattle.batch_cli.proofs.LawLemmas.{asked_beginnings, asked_certificates, asked_outputs, figures_taken}
use Rattle.batch_cli.proofs.laws.asked_outputs_tell_the_truth.Goals as goal

pub returns-clause-solved : goal.returns-clause-solved
returns-clause-solved g c = asked_outputs

pub returns-clause-begun : goal.returns-clause-begun
returns-clause-begun g c = asked_beginnings

pub returns-clause-certified : goal.returns-clause-certified
returns-clause-certified g c = asked_certificates

pub returns-clause-figures : goal.returns-clause-figures
returns-clause-figures g c = figures_taken (λ id stats. g.W.Watch.has_taken c.args.watch.now id stats)
