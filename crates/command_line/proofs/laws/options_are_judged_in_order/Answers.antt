use Rattle.command_line.proofs.ParseLemmas.{goal_before_costs, goal_before_groups, costs_before_groups}
use Rattle.command_line.proofs.laws.options_are_judged_in_order.Goals as goal

pub returns-clause-costs : goal.returns-clause-costs
returns-clause-costs c = goal_before_costs

pub returns-clause-groups : goal.returns-clause-groups
returns-clause-groups c = goal_before_groups

pub returns-clause-costs_before_groups : goal.returns-clause-costs_before_groups
returns-clause-costs_before_groups c = costs_before_groups
