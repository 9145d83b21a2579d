use Rattle.std.proofs.Common.{refl, arith}
use Rattle.pattern_search.proofs.SearchLemmas.{seeking_some, are_seeking_first, seeking_visited, seeking_next, seeking_found}
use Rattle.pattern_search.proofs.search.find_by_buckets.Goals as goal

pub costs-init : goal.costs-init
costs-init c = are_seeking_first c.args.graph c.in_ok-search.search c.lower.new.self c.args.start c.requires.start.sound c.in_ok-search.ensures c.in_ok-lower.ensures

pub visit-requires-clause-fits : goal.visit-requires-clause-fits
visit-requires-clause-fits c =
    let now = seeking_some c.args.graph c.args.start c.costs.cost c.nodes.search c.nodes.invariant.0 c.requires.sought in
    record { sound = now.sound; one_each = now.under_way.size }

pub visit-requires-clause-inside : goal.visit-requires-clause-inside
visit-requires-clause-inside c = (seeking_some c.args.graph c.args.start c.costs.cost c.nodes.search c.nodes.invariant.0 c.requires.sought).under_way.inside c.costs.cost c.in-Some.node c.in-Some.ensures.here

pub nodes-smaller : goal.nodes-smaller
nodes-smaller c =
    (seeking_visited c.requires.sought.0 c.requires.sought.1 c.requires.sought.2 c.costs.cost c.in-Some.node c.nodes.search _ c.visit.new.self
    (seeking_some c.args.graph c.args.start c.costs.cost c.nodes.search c.nodes.invariant.0 c.requires.sought) refl refl c.in-Some.ensures c.in_ok-visit.ensures).1

pub nodes-preserved : goal.nodes-preserved
nodes-preserved c =
    let wide =
    (seeking_visited c.requires.sought.0 c.requires.sought.1 c.requires.sought.2 c.costs.cost c.in-Some.node c.nodes.search _ c.visit.new.self
    (seeking_some c.args.graph c.args.start c.costs.cost c.nodes.search c.nodes.invariant.0 c.requires.sought) refl refl c.in-Some.ensures c.in_ok-visit.ensures).2 in (
      (λ selection rule goal sought.
          (seeking_visited selection rule goal c.costs.cost c.in-Some.node c.nodes.search _ c.visit.new.self (c.nodes.invariant.0 selection rule goal sought) refl refl c.in-Some.ensures c.in_ok-visit.ensures).0),
      omega (arith, wide, c.nodes.invariant.1),
    )

pub costs-preserved : goal.costs-preserved
costs-preserved c selection rule goal sought =
    seeking_next selection rule goal c.costs.cost c.nodes.search _ c.take.new.buckets.items
    (c.nodes.invariant.0 selection rule goal sought) refl refl c.in_default.ensures c.release.ensures.same c.release.ensures.length

pub costs-smaller : goal.costs-smaller
costs-smaller c =
    let few = (seeking_some c.args.graph c.args.start c.costs.cost c.nodes.search c.nodes.invariant.0 c.requires.sought).under_way.few in
    omega (arith, few, c.nodes.invariant.1)

pub returns : goal.returns
returns c selection rule goal sought =
    let size = c.costs.search.buckets.ok in
    let len = c.len.ensures in
    seeking_found c.args.graph c.args.start c.costs.cost c.costs.search c.costs.invariant (omega arith) selection rule goal sought
