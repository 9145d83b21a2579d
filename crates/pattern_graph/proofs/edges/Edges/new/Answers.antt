use Rattle.std.proofs.Common.{◌≡◌, ◌≤◌, [], ◌∷◌, ◌++◌, ap, ◌∙◌, length, arith}
use Rattle.pattern_graph.proofs.EdgeLemmas.{few_done, next_done, ends_done}
use Rattle.pattern_graph.proofs.edges.Edges.new.Goals as goal

pub overflow_cast-start : goal.overflow_cast-start
overflow_cast-start c =
    let homes = c.args.regions.now.homes.ok in
    let count = c.len-region-end.ensures in
    let low : c.regions.region ≤ length c.args.regions.now.homes.items = omega (arith, c.regions-test.true) in
    let few = few_done c.args.regions.now c.regions.region _ c.regions.edges.edges.items c.requires.regions.regions c.requires.regions.small low c.regions.invariant in
    let len = c.len-start.ensures in
    let ok = c.regions.edges.edges.ok in
    omega arith

pub regions-preserved : goal.regions-preserved
regions-preserved c =
    let len = c.len-start.ensures in
    let ok = c.regions.edges.edges.ok in
    let start : c.len-start.result ≡ length c.regions.edges.edges.items = omega arith in
    next_done c.args.regions.now c.regions.region c.regions.edges.starts.items c.push.new.items.items c.regions.edges.edges.items c.add_region.new.edges.items
    (c.in_ok-push.ensures.items ∙ ap (λ n. c.regions.edges.starts.items ++ n ∷ []) start)
    c.regions.invariant c.in_ok-add_region.ensures

pub overflow_cast-end : goal.overflow_cast-end
overflow_cast-end c =
    let homes = c.args.regions.now.homes.ok in
    let count = c.len-region-end.ensures in
    let low : c.regions.region ≤ length c.args.regions.now.homes.items = omega (arith, c.regions.auto.region-end) in
    let few = few_done c.args.regions.now c.regions.region _ c.regions.edges.edges.items c.requires.regions.regions c.requires.regions.small low c.regions.invariant in
    let len = c.len-end.ensures in
    let ok = c.regions.edges.edges.ok in
    omega arith

pub returns : goal.returns
returns c =
    let homes = c.args.regions.now.homes.ok in
    let count = c.len-region-end.ensures in
    let all : c.regions.region ≡ length c.args.regions.now.homes.items = omega (arith, c.regions.auto.region-end, c.regions-test.false) in
    let len = c.len-end.ensures in
    let ok = c.regions.edges.edges.ok in
    let end : c.len-end.result ≡ length c.regions.edges.edges.items = omega arith in
    ends_done c.args.regions.now c.regions.region c.regions.edges.starts.items (record { starts = c.push-2.new.items; edges = c.regions.edges.edges }) c.requires.regions.regions.regions all
    (c.in_ok-push-2.ensures.items ∙ ap (λ n. c.regions.edges.starts.items ++ n ∷ []) end)
    c.regions.invariant
