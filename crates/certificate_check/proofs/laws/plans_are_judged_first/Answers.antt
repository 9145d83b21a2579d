use Rattle.certificate_check.proofs.RefusalLemmas.{first_illegal, first_end, first_cost}
use Rattle.certificate_check.proofs.laws.plans_are_judged_first.Goals as goal

pub returns-clause-illegal : goal.returns-clause-illegal
returns-clause-illegal c = first_illegal

pub returns-clause-end : goal.returns-clause-end
returns-clause-end c = first_end

pub returns-clause-cost : goal.returns-clause-cost
returns-clause-cost c = first_cost
