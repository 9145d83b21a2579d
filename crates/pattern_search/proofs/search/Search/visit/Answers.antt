use Rattle.std.proofs.Common.{◌≡◌, ◌∙◌, ◌+◌, ◌-◌, subst, arith}
use Rattle.std.proofs.lemmas.List.{get_or_default}
use Rattle.std.specs.Prelude.{◌%◌, Some, slice_get}
use Rattle.pattern_search.proofs.SearchLemmas.{at_from, edge_read, edge_ends, spreading_more, visited_all}
use Rattle.pattern_search.proofs.search.Search.visit.Goals as goal

pub index-requires-in-edges : goal.index-requires-in-edges
index-requires-in-edges c =
    let g = c.args.self.now.graph in
    let sound = c.requires.fits.sound in
    let at = at_from g c.args.node c.size-size.result c.index-2.result.now c.index-3.result.now sound c.requires.inside (c.size-size.ensures ∙ sound.orders.passes.size) c.index-2.ensures c.index-3.ensures in
    let within = edge_read g c.edges.self.graph c.args.node c.index-2.result.now c.index-3.result.now c.edges.at c.edges.invariant.graph at c.edges-test.true in
    let ok = c.edges.self.graph.edges.edges.ok in
    omega arith

pub pass-requires-clause-positions : goal.pass-requires-clause-positions
pass-requires-clause-positions c =
    let g = c.args.self.now.graph in
    let sound = c.requires.fits.sound in
    let at = at_from g c.args.node c.size-size.result c.index-2.result.now c.index-3.result.now sound c.requires.inside (c.size-size.ensures ∙ sound.orders.passes.size) c.index-2.ensures c.index-3.ensures in
    let ends = edge_ends g c.edges.self.graph c.args.node c.size-size.result c.index-2.result.now c.index-3.result.now c.edges.at c.index-in-edges.result.now c.edges.invariant.graph at (c.size-size.ensures ∙ sound.orders.passes.size) c.edges.auto.at c.edges-test.true c.index-in-edges.ensures in
    record { from = ends.0; to = ends.1 }

pub pass-requires-clause-inside : goal.pass-requires-clause-inside
pass-requires-clause-inside c =
    let g = c.args.self.now.graph in
    let sound = c.requires.fits.sound in
    let at = at_from g c.args.node c.size-size.result c.index-2.result.now c.index-3.result.now sound c.requires.inside (c.size-size.ensures ∙ sound.orders.passes.size) c.index-2.ensures c.index-3.ensures in
    (edge_ends g c.edges.self.graph c.args.node c.size-size.result c.index-2.result.now c.index-3.result.now c.edges.at c.index-in-edges.result.now c.edges.invariant.graph at (c.size-size.ensures ∙ sound.orders.passes.size) c.edges.auto.at c.edges-test.true c.index-in-edges.ensures).2

pub edges-preserved : goal.edges-preserved
edges-preserved c =
    let g = c.args.self.now.graph in
    let sound = c.requires.fits.sound in
    let first = c.index-2.result.now in
    let at = at_from g c.args.node c.size-size.result first c.index-3.result.now sound c.requires.inside (c.size-size.ensures ∙ sound.orders.passes.size) c.index-2.ensures c.index-3.ensures in
    let ends = edge_ends g c.edges.self.graph c.args.node c.size-size.result first c.index-3.result.now c.edges.at c.index-in-edges.result.now c.edges.invariant.graph at (c.size-size.ensures ∙ sound.orders.passes.size) c.edges.auto.at c.edges-test.true c.index-in-edges.ensures in
    spreading_more (c.args.node % c.size-size.result) c.args.cost first (c.edges.at - first) (c.edges.at + 1 - first) c.index-in-edges.result.now c.args.self.now c.edges.self c.pass.new.self c.edges.invariant
    (let low = c.edges.auto.at in omega arith)
    (subst (λ i. slice_get c.edges.self.graph.edges.edges.items i ≡ Some c.index-in-edges.result.now) (let low = c.edges.auto.at in omega arith) ends.3)
    c.in_ok-pass.ensures

pub returns : goal.returns
returns c =
    let g = c.args.self.now.graph in
    let sound = c.requires.fits.sound in
    let at = at_from g c.args.node c.size-size.result c.index-2.result.now c.index-3.result.now sound c.requires.inside (c.size-size.ensures ∙ sound.orders.passes.size) c.index-2.ensures c.index-3.ensures in
    let value = c.index.ensures ∙ get_or_default c.args.self.now.values.items c.args.node c.index.result.now 0 (omega (arith, c.requires.fits.one_each)) in
    visited_all c.args.node c.args.cost c.size-size.result c.index-2.result.now c.index-3.result.now c.edges.at c.args.self.now c.edges.self at (c.size-size.ensures ∙ sound.orders.passes.size) c.edges.auto.at-end c.edges-test.false c.edges.auto.at (omega arith) c.edges.invariant
