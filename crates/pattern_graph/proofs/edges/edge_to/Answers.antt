use Rattle.std.proofs.Common.{arith}
use Rattle.pattern_graph.proofs.EdgeLemmas.{moved_placed, moved_free, edge_is, region_small}
use Rattle.pattern_graph.proofs.edges.edge_to.Goals as goal

pub region-region-requires-clause-apart : goal.region-region-requires-clause-apart
region-region-requires-clause-apart c = record {
  placed = moved_placed c.args.regions.now c.args.cells.now c.args.tile c.args.to c.requires.apart.placed c.requires.tile c.requires.apart.free;
  free = moved_free c.args.regions.now c.args.cells.now c.args.tile c.args.to c.requires.apart.placed c.requires.tile c.requires.apart.free;
}

pub overflow_cast-result-3 : goal.overflow_cast-result-3
overflow_cast-result-3 c =
    let placed = moved_placed c.args.regions.now c.args.cells.now c.args.tile c.args.to c.requires.apart.placed c.requires.tile c.requires.apart.free in
    let free = moved_free c.args.regions.now c.args.cells.now c.args.tile c.args.to c.requires.apart.placed c.requires.tile c.requires.apart.free in
    let low = region_small c.args.regions.now _ _ c.requires.regions.regions c.requires.regions.small placed free in
    omega (arith, c.region-region.ensures)

pub returns : goal.returns
returns c = edge_is c.args.regions.now c.args.cells.now c.args.tile c.args.to c.requires.apart.placed c.requires.tile c.requires.apart.free c.count_below-place.result c.region-region.result c.requires.rising c.count_below-place.ensures.value c.region-region.ensures
