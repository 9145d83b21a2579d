use Rattle.pattern_graph.proofs.GraphLemmas.{graph_made, sound_made, fitting_regions, fitting_orders}
use Rattle.pattern_graph.proofs.graph.Graph.new.Goals as goal

pub returns-clause-graph : goal.returns-clause-graph
returns-clause-graph c =
    let regions = fitting_regions c.frame.inside c.args.frame c.args.group.now c.frame.view_is c.frame.invariant c.requires.fits in
    graph_made c.args.group.now c.args.weights.now _ c.costs_of.ensures.group regions c.frame.invariant.edges c.costs_of.ensures.costs

pub returns-clause-sound : goal.returns-clause-sound
returns-clause-sound c =
    let regions = fitting_regions c.frame.inside c.args.frame c.args.group.now c.frame.view_is c.frame.invariant c.requires.fits in
    let orders = fitting_orders c.frame.inside c.args.frame c.args.group.now c.frame.view_is c.frame.invariant c.requires.fits in
    sound_made c.args.group.now c.args.weights.now _ c.costs_of.ensures.group regions c.frame.invariant.edges orders c.costs_of.ensures.costs c.costs_of.ensures.length
