use Rattle.std.proofs.Common.{ℕ, ◌≡◌, ◌<◌, length, ap, arith}
use Rattle.std.specs.Prelude.{slice_index}
use Rattle.std.proofs.lemmas.Result.{IfOk-weaker}
use Rattle.pattern_search.specs.Searches.{AreFound, AreFoundFrom}
use Rattle.pattern_graph.proofs.GraphLemmas.{same_each}
use Rattle.pattern_search.proofs.finding.find_values.Goals as goal

-- the cost of each tile
each : (c : goal.In-Some) → (place : ℕ) → place < length c.tiles-count.result.now → slice_index c.new-graph.result.costs place ≡ c.in-Some.weight
each c =
    let few = c.tiles-count.ensures.few in
    let same : length c.tiles-count.result.now ≡ length c.args.group.now.tiles = ap length c.tiles-count.ensures.value in
    let costs = c.new-graph.ensures.sound.costs in
    same_each c.new-graph.result.costs (length c.tiles-count.result.now) c.in-Some.weight (omega arith) ((c.same_of.ensures c.in-Some.weight).0 c.in-Some.is)

pub find_by_layers-requires-clause-some : goal.find_by_layers-requires-clause-some
find_by_layers-requires-clause-some c =
    let some = c.tiles-count.ensures.group.some in
    let same : length c.tiles-count.result.now ≡ length c.args.group.now.tiles = ap length c.tiles-count.ensures.value in
    let low = c.new-graph.ensures.costs 0 some in
    let is = each c 0 (omega arith) in
    omega arith

pub find_by_layers-requires-clause-same : goal.find_by_layers-requires-clause-same
find_by_layers-requires-clause-same c place less =
    let same : length c.tiles-count.result.now ≡ length c.args.group.now.tiles = ap length c.tiles-count.ensures.value in
    let tiles = c.new-graph.ensures.graph.regions.tiles in
    each c place (omega arith)

pub returns-in-Some : goal.returns-in-Some
returns-in-Some c = IfOk-weaker c.find_by_layers.result (AreFoundFrom c.new-graph.result c.node_of-start.result) (AreFound c.args.group.now c.args.weights.now c.args.goal.now)
    (λ _ found. found c.args.group.now c.args.weights.now c.args.goal.now (record { made = c.new-graph.ensures.graph; view = c.node_of-start.ensures.view; node = c.node_of-start.ensures.value })) c.find_by_layers.ensures

pub returns-in-None : goal.returns-in-None
returns-in-None c = IfOk-weaker c.find_by_buckets.result (AreFoundFrom c.new-graph.result c.node_of-start.result) (AreFound c.args.group.now c.args.weights.now c.args.goal.now)
    (λ _ found. found c.args.group.now c.args.weights.now c.args.goal.now (record { made = c.new-graph.ensures.graph; view = c.node_of-start.ensures.view; node = c.node_of-start.ensures.value })) c.find_by_buckets.ensures
