use Rattle.std.proofs.Common.{arith}
use Rattle.certificate_check.proofs.RefusalLemmas.{refused_verdict}
use Rattle.certificate_check.proofs.check_fit.Goals as goal

pub returns-in-Err : goal.returns-in-Err
returns-in-Err c = refused_verdict c.args.certificate.now c.args.bound.now c.in-Err.refusal c.in-Err.ensures.judged.refused

pub find_open-requires-clause-before : goal.find_open-requires-clause-before
find_open-requires-clause-before c = λ place m low high. absurd (omega (arith, high))
