use Rattle.certificate_check.proofs.RefusalLemmas.{refused_verdict}
use Rattle.certificate_check.proofs.check_parallel.Goals as goal

pub returns-in-Err-clause-verdict : goal.returns-in-Err-clause-verdict
returns-in-Err-clause-verdict g c = refused_verdict c.args.certificate.now c.args.bound.now c.in-Err.refusal c.in-Err.ensures.judged.refused
