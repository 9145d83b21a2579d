use Rattle.std.proofs.Common.{◌<◌, length, rules}
use Rattle.std.proofs.lemmas.List.Elements.{All-pop, All-set}
use Rattle.setup_runs.specs.Ahead.{IsTried, AreTried}
use Rattle.setup_runs.proofs.ahead.take_tried.Goals as goal

pub returns-then-ends_with-clause-lanes : goal.returns-then-ends_with-clause-lanes
returns-then-ends_with-clause-lanes c =
    let setup = c.args.setup.now in
    let within : c.lanes.lane < length c.lanes.lanes = search rules in
    let tried = c.lanes.invariant c.lanes.lane c.index-lanes-lane-then-ends_with.result within in
    let popped = All-pop (IsTried setup) _ c.pop.new.self.items c.pop.result c.pop.ensures.items tried in
    All-set (AreTried setup) c.lanes.lanes c.lanes.lane c.pop.new.self popped.0 c.lanes.invariant

pub returns-then-ends_with-clause-tried : goal.returns-then-ends_with-clause-tried
returns-then-ends_with-clause-tried c =
    let within : c.lanes.lane < length c.lanes.lanes = search rules in
    let tried = c.lanes.invariant c.lanes.lane c.index-lanes-lane-then-ends_with.result within in
    (All-pop (IsTried c.args.setup.now) _ c.pop.new.self.items c.pop.result c.pop.ensures.items tried).1
