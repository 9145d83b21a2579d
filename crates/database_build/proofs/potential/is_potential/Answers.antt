use Rattle.database_build.proofs.FoldLemmas.{potential_of_group}
use Rattle.database_build.proofs.potential.is_potential.Goals as goal

pub returns : goal.returns
returns c =
    potential_of_group c.args.table.now c.args.weights.now c.group.result.now c.args.group.now c.args.goal.now c.ne.result c.falls_home.result
    c.ne.ensures c.if-ne.false c.group.ensures.value c.falls_home.ensures
