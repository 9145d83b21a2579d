use Rattle.batch_lines.proofs.CostLemmas.{one_rule, no_costs_fault, one_costs_fault}
use Rattle.batch_lines.proofs.option_laws.costs_say_one_thing.Goals as goal

pub returns-clause-costs : goal.returns-clause-costs
returns-clause-costs c = one_rule

pub returns-clause-none : goal.returns-clause-none
returns-clause-none c = no_costs_fault

pub returns-clause-faults : goal.returns-clause-faults
returns-clause-faults c = one_costs_fault
