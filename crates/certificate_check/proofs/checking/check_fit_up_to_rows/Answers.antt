use Rattle.certificate_check.proofs.RefusalLemmas.{refused_up_to}
use Rattle.certificate_check.proofs.checking.check_fit_up_to_rows.Goals as goal

pub returns-in-Err-clause-judged : goal.returns-in-Err-clause-judged
returns-in-Err-clause-judged c = refused_up_to c.args.certificate.now c.args.bound.now c.in-Err.refusal (c.in-Err.ensures.refused c.args.bound.now)
