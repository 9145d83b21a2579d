use Rattle.std.proofs.Common.{◌≡◌, ◌∙◌, length, refl, arith}
use Rattle.pattern_search.proofs.LayerLemmas.{at_start, start_place}
use Rattle.pattern_search.proofs.layers.Layers.new.Goals as goal

pub insert-requires-clause-inside : goal.insert-requires-clause-inside
insert-requires-clause-inside c =
    let all : c.len-regions.result ≡ length c.args.graph.regions.homes.items = let ok = c.args.graph.regions.homes.ok in omega (arith, c.len-regions.ensures) in
    start_place c.args.graph c.args.start c.len-regions.result c.size-orders.result c.in_ok-now.now c.requires.inside all (c.size-orders.ensures ∙ c.requires.sound.orders.passes.size) c.in_ok-now.ensures.set

pub returns : goal.returns
returns c =
    let all : c.len-regions.result ≡ length c.args.graph.regions.homes.items = let ok = c.args.graph.regions.homes.ok in omega (arith, c.len-regions.ensures) in
    at_start c.args.graph c.args.start c.len-regions.result c.size-orders.result c.in_ok-now.now _ c.requires.sound c.requires.inside all (c.size-orders.ensures ∙ c.requires.sound.orders.passes.size) refl c.in_ok-values.ensures.items
    c.in_ok-seen.ensures.set c.in_ok-seen.ensures.none c.in_ok-now.ensures.set c.in_ok-now.ensures.none c.insert.ensures c.in_ok-next.ensures.set c.in_ok-next.ensures.none
