use Rattle.database_build.proofs.LeastLemmas.{least_count, true_fold}
use Rattle.database_build.proofs.building.fold_of.Goals as goal

pub keep_least-requires : goal.keep_least-requires
keep_least-requires c = least_count c.args.group.now c.in_ok-found.found.regions c.deref.result.now c.in_ok-found.ensures.regions c.in_ok-least.least.items c.deref-2.result.now c.in_ok-least.ensures c.deref-2.ensures.value

pub returns-clause-values : goal.returns-clause-values
returns-clause-values c =
    true_fold c.args.group.now c.args.weights.now c.args.goal.now c.in_ok-found.found c.of_group.result c.deref.result.now c.in_ok-least.least.items c.deref-2.result.now c.in_ok-entries.entries
    c.in_ok-found.ensures c.deref.ensures.value c.in_ok-least.ensures c.deref-2.ensures.value c.in_ok-entries.ensures.entries c.in_ok-entries.ensures.values c.of_group.ensures
