use Rattle.std.proofs.Common.{◌∙◌}
use Rattle.table_sets.specs.Built.{AreBuilt}
use Rattle.table_sets.proofs.BuiltLemmas.{true_tables, is_built, built_potentials}
use Rattle.table_sets.proofs.building.build_bound.Goals as goal

pub unwrap-requires : goal.unwrap-requires
unwrap-requires g c =
    let each = true_tables c.groups-2.result.now c.args.weights.now c.args.goal.now c.in_ok-tables.tables.items c.in_ok-tables.ensures in
    c.new.ensures.accepted.1 (each.one_each ∙ c.groups-2.ensures)

pub returns-clause-built : goal.returns-clause-built
returns-clause-built g c =
    is_built c.args.groups c.groups-2.result.now c.args.weights.now c.args.goal.now c.in_ok-tables.tables.items c.unwrap.result (rw c.unwrap.ensures at c.new.ensures.value) c.groups-2.ensures c.in_ok-tables.ensures

pub returns-clause-potentials : goal.returns-clause-potentials
returns-clause-potentials g c =
    let rule = c.args.weights.now in
    let home = c.args.goal.now in
    let built : AreBuilt c.args.groups rule home c.unwrap.result = is_built c.args.groups c.groups-2.result.now rule home c.in_ok-tables.tables.items c.unwrap.result (rw c.unwrap.ensures at c.new.ensures.value) c.groups-2.ensures c.in_ok-tables.ensures in
    built_potentials c.args.groups rule home c.unwrap.result c.shape.ensures.partition c.shape-2.ensures.board c.requires.goal built
