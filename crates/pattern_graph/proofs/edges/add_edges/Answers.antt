use Rattle.std.proofs.Common.{◌+◌, ◌*◌, take, ap, ◌∙◌, arith}
use Rattle.pattern_graph.proofs.EdgeLemmas.{tried_same, tried_past, tried_more}
use Rattle.pattern_graph.proofs.edges.add_edges.Goals as goal
use Rattle.pattern_graph.proofs.edges.add_edges.Goals.{in-Some+in_ok-push, in_default}

pub moves-init : goal.moves-init
moves-init c = tried_same c.args.regions.now (take c.args.regions.now.count c.args.cells.now) c.args.region (c.tiles.tile * 4) (c.tiles.tile * 4 + 0) c.args.edges.now.items c.tiles.edges.items (omega arith) c.tiles.invariant

pub moves-preserved : goal.moves-preserved
moves-preserved c =
    let r = c.args.regions.now in
    elim c.match-find_edge.branch [
      | in-Some+in_ok-push w ↦ tried_more r c.args.cells.now c.args.region c.tiles.tile c.moves.direction-index c.moves-test.true c.requires.cells.placed c.tiles-test.true c.args.edges.now.items c.moves.edges.items c.match-find_edge.edges.items w.in-Some.edge (ap (λ v. v.items) w.edges-is ∙ w.in_ok-push.ensures.items) w.in-Some.ensures c.moves.invariant
      | in_default w ↦ tried_past r c.args.cells.now c.args.region c.tiles.tile c.moves.direction-index c.moves-test.true c.requires.cells.placed c.tiles-test.true c.args.edges.now.items c.moves.edges.items c.match-find_edge.edges.items (ap (λ v. v.items) w.edges-is) w.in_default.ensures c.moves.invariant
    ]

pub returns : goal.returns
returns c = tried_same c.args.regions.now (take c.args.regions.now.count c.args.cells.now) c.args.region (c.tiles.tile * 4) (c.args.regions.now.count * 4) c.args.edges.now.items c.tiles.edges.items (omega arith) c.tiles.invariant
