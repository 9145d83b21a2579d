use Rattle.certificate.proofs.CertificateLemmas.{begun_faultless, announced_cut_off}
use Rattle.certificate.proofs.laws.faults_come_first.Goals as goal

pub returns-clause-begun : goal.returns-clause-begun
returns-clause-begun c = begun_faultless

pub returns-clause-announced : goal.returns-clause-announced
returns-clause-announced c = announced_cut_off
