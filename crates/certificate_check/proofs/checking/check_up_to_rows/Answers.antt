use Rattle.certificate_check.specs.declared.refusals.Refusal.TheVariants.{UnfitGroup}
use Rattle.certificate_check.proofs.RefusalLemmas.{first_unfit, refused_up_to}
use Rattle.certificate_check.proofs.checking.check_up_to_rows.Goals as goal

pub returns-in-Err-clause-judged : goal.returns-in-Err-clause-judged
returns-in-Err-clause-judged c = refused_up_to c.args.certificate.now c.args.bound.now c.in-Err.refusal (c.in-Err.ensures.refused c.args.bound.now)

pub returns-in-Some-clause-judged : goal.returns-in-Some-clause-judged
returns-in-Some-clause-judged c = refused_up_to c.args.certificate.now c.args.bound.now (UnfitGroup c.in-Some.place) (first_unfit c.args.certificate.now c.args.bound.now c.in_default.ensures.leads c.in-Some.place c.in-Some.ensures.first)
