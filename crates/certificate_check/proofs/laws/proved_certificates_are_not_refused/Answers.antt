use Rattle.certificate_check.proofs.RefusalLemmas.{proved_has_none, proved_whole, no_cause_proved}
use Rattle.certificate_check.proofs.laws.proved_certificates_are_not_refused.Goals as goal

pub returns-clause-whole : goal.returns-clause-whole
returns-clause-whole c = proved_whole

pub returns-clause-none : goal.returns-clause-none
returns-clause-none c = proved_has_none

pub returns-clause-all : goal.returns-clause-all
returns-clause-all c = no_cause_proved
