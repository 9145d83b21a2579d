use Rattle.std.proofs.Common.{refl, subst}
use Rattle.certificate.specs.Certificates.{CertificateModel}
use Rattle.certificate_check.specs.Refusals.{IsFirstRefusal}
use Rattle.checked_runs.proofs.checking.accepted.Goals as goal

pub returns-in-Err-clause-refused : goal.returns-in-Err-clause-refused
returns-in-Err-clause-refused c =
    let made = rw c.unwrap-certificate.ensures at c.new.ensures.value in
    subst (λ (s : CertificateModel). IsFirstRefusal s c.args.tables.now c.in-Err.refusal) made ((c.in-Err.ensures.refused c.in-Err.refusal).0 refl)
