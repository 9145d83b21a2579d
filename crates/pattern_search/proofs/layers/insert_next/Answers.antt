use Rattle.std.proofs.Common.{length, sym, subst, arith}
use Rattle.pattern_index.specs.Laws.{factorial}
use Rattle.pattern_search.specs.Layers.{IsUnion}
use Rattle.pattern_search.specs.declared.layers.NodeSet.{NodeSet}
use Rattle.pattern_search.proofs.LayerLemmas.{ends_at, edge_at, word_within, words_within, all_moved, some_moved, leading_more, leading_all}
use Rattle.pattern_search.proofs.layers.insert_next.Goals as goal
use Rattle.pattern_search.proofs.layers.insert_next.Goals.{then-edge, else-edge}

pub overflow_cast-edge : goal.overflow_cast-edge
overflow_cast-edge c =
    let g = c.args.graph.now in
    let ends = ends_at g c.args.region c.index.result.now c.index-2.result.now c.requires.sound c.requires.region c.index.ensures c.index-2.ensures in
    let edge = edge_at g c.args.region c.index.result.now c.index-2.result.now c.edges.at c.index-in-edges.result.now c.requires.sound c.requires.region c.requires.next.some ends c.edges.auto.at c.edges-test.true c.index-in-edges.ensures in
    omega (arith, edge.small)

pub insert_all-requires-clause-inside : goal.insert_all-requires-clause-inside
insert_all-requires-clause-inside c =
    let g = c.args.graph.now in
    let ends = ends_at g c.args.region c.index.result.now c.index-2.result.now c.requires.sound c.requires.region c.index.ensures c.index-2.ensures in
    let edge = edge_at g c.args.region c.index.result.now c.index-2.result.now c.edges.at c.index-in-edges.result.now c.requires.sound c.requires.region c.requires.next.some ends c.edges.auto.at c.edges-test.true c.index-in-edges.ensures in
    let width = c.edges.invariant.union.width in
    word_within (length g.regions.homes.items) (factorial g.regions.count) c.edges.next c.index-in-edges.result.now.region c.args.place c.edges.invariant.next edge.other (omega (arith, c.requires.place))

pub insert_moved-requires-clause-positions : goal.insert_moved-requires-clause-positions
insert_moved-requires-clause-positions c =
    let g = c.args.graph.now in
    let ends = ends_at g c.args.region c.index.result.now c.index-2.result.now c.requires.sound c.requires.region c.index.ensures c.index-2.ensures in
    let edge = edge_at g c.args.region c.index.result.now c.index-2.result.now c.edges.at c.index-in-edges.result.now c.requires.sound c.requires.region c.requires.next.some ends c.edges.auto.at c.edges-test.true c.index-in-edges.ensures in
    record { from = omega (arith, edge.from, c.requires.sound.orders.passes.number); to = omega (arith, edge.to, c.requires.sound.orders.passes.number) }

pub insert_moved-requires-clause-inside : goal.insert_moved-requires-clause-inside
insert_moved-requires-clause-inside c =
    let g = c.args.graph.now in
    let ends = ends_at g c.args.region c.index.result.now c.index-2.result.now c.requires.sound c.requires.region c.index.ensures c.index-2.ensures in
    let edge = edge_at g c.args.region c.index.result.now c.index-2.result.now c.edges.at c.index-in-edges.result.now c.requires.sound c.requires.region c.requires.next.some ends c.edges.auto.at c.edges-test.true c.index-in-edges.ensures in
    words_within (length g.regions.homes.items) (factorial g.regions.count) c.edges.next c.index-in-edges.result.now.region c.edges.invariant.next edge.other

pub edges-preserved : goal.edges-preserved
edges-preserved c =
    let g = c.args.graph.now in
    let ends = ends_at g c.args.region c.index.result.now c.index-2.result.now c.requires.sound c.requires.region c.index.ensures c.index-2.ensures in
    let edge = edge_at g c.args.region c.index.result.now c.index-2.result.now c.edges.at c.index-in-edges.result.now c.requires.sound c.requires.region c.requires.next.some ends c.edges.auto.at c.edges-test.true c.index-in-edges.ensures in
    let e = c.index-in-edges.result.now in
    leading_more g c.args.region c.args.place c.args.bits c.index.result.now c.index-2.result.now c.edges.at c.index-in-edges.result.now c.args.next.now c.edges.next c.if-edge.next ends c.edges.auto.at edge c.edges.invariant
    (elim c.if-edge.branch [
      | then-edge w ↦ subst (λ (t : NodeSet). IsUnion _ c.edges.next t) (sym w.next-is) (all_moved g c.args.place c.args.bits e c.edges.next w.insert_all.new.self w.if-edge.true edge.from c.requires.bits w.insert_all.ensures)
      | else-edge w ↦ subst (λ (t : NodeSet). IsUnion _ c.edges.next t) (sym w.next-is) (some_moved g g.orders.count c.args.place c.args.bits e c.edges.next w.insert_moved.new.next c.requires.sound.orders.passes.number w.insert_moved.ensures)
    ])

pub returns-clause-union : goal.returns-clause-union
returns-clause-union c =
    let g = c.args.graph.now in
    let ends = ends_at g c.args.region c.index.result.now c.index-2.result.now c.requires.sound c.requires.region c.index.ensures c.index-2.ensures in
    leading_all g c.args.region c.args.place c.args.bits c.index.result.now c.index-2.result.now c.edges.at c.args.next.now c.edges.next ends (let end = c.edges.auto.at-end ends.rising in omega (arith, c.edges-test.false)) c.edges.invariant
