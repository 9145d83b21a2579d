use Rattle.std.proofs.Common.{◌+◌, ◌*◌, ◌<◌, length, refl, sym, ◌∙◌, arith}
use Rattle.std.proofs.lemmas.Bool.{false≢true}
use Rattle.pattern_graph.proofs.EdgeLemmas.{step_row, step_elsewhere, step_free, step_rising, step_here}
use Rattle.pattern_graph.proofs.edges.find_edge.Goals as goal

-- the place in the table of regions
inside : (c : goal.After-cells) → c.args.set * c.cells.result + c.in-Some.to < length c.args.regions.now.numbers.items
inside c = step_row c.args.regions.now c.requires.set.regions.regions c.args.set c.args.region c.args.cells.now c.requires.set.cells c.args.tile c.requires.tile c.args.direction c.in-Some.to c.cells.result ((c.in-Some.ensures.towards c.in-Some.to).0 refl) c.cells.ensures.value

pub overflow_mul-set : goal.overflow_mul-set
overflow_mul-set c = omega (arith, inside c, c.args.regions.now.numbers.ok.0, c.args.regions.now.numbers.small)

pub overflow_add-set : goal.overflow_add-set
overflow_add-set c = omega (arith, inside c, c.args.regions.now.numbers.ok.0, c.args.regions.now.numbers.small)

pub index-requires : goal.index-requires
index-requires c = omega (arith, inside c, c.args.regions.now.numbers.ok.0)

pub returns-then-index-region : goal.returns-then-index-region
returns-then-index-region c = step_elsewhere c.args.regions.now c.requires.set.regions.regions c.args.set c.args.region c.args.cells.now c.requires.set.cells c.args.tile c.requires.tile c.args.direction c.in-Some.to c.cells.result ((c.in-Some.ensures.towards c.in-Some.to).0 refl) c.cells.ensures.value c.index.result.now c.index.ensures c.if-index-region.true

pub edge_to-requires-clause-rising : goal.edge_to-requires-clause-rising
edge_to-requires-clause-rising c = step_rising c.args.regions.now c.requires.set.regions.regions c.args.set c.args.region c.args.cells.now c.requires.set.cells c.args.tile c.requires.tile c.args.direction c.in-Some.to c.cells.result ((c.in-Some.ensures.towards c.in-Some.to).0 refl) c.cells.ensures.value

pub edge_to-requires-clause-apart : goal.edge_to-requires-clause-apart
edge_to-requires-clause-apart c = record {
  placed = c.requires.set.cells.placed;
  free = step_free c.args.regions.now c.requires.set.regions.regions c.args.set c.args.region c.args.cells.now c.requires.set.cells c.args.tile c.requires.tile c.args.direction c.in-Some.to c.cells.result ((c.in-Some.ensures.towards c.in-Some.to).0 refl) c.cells.ensures.value (λ on. false≢true (sym c.if-stands_on.false ∙ c.stands_on.ensures.1 on));
}

pub returns : goal.returns
returns c = step_here c.args.regions.now c.requires.set.regions.regions c.args.set c.args.region c.args.cells.now c.requires.set.cells c.args.tile c.requires.tile c.args.direction c.in-Some.to c.cells.result ((c.in-Some.ensures.towards c.in-Some.to).0 refl) c.cells.ensures.value c.index.result.now c.edge_to.result c.index.ensures c.if-index-region.false (λ on. false≢true (sym c.if-stands_on.false ∙ c.stands_on.ensures.1 on)) c.edge_to.ensures
