use Rattle.certificate.proofs.LawLemmas.{one_certificate}
use Rattle.certificate.proofs.laws.one_spelling_a_certificate.Goals as goal

pub returns-clause-certificate : goal.returns-clause-certificate
returns-clause-certificate c = one_certificate
