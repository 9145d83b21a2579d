use Rattle.std.proofs.Common.{◌<◌, length, sym, subst, arith}
use Rattle.pattern_graph.specs.declared.graph.Graph.{Graph}
use Rattle.pattern_search.proofs.LayerLemmas.{layer_kept, layer_more, same_still}
use Rattle.pattern_search.proofs.layers.Layers.pass_layer.Goals as goal

pub pass_region-is_passed-requires : goal.pass_region-is_passed-requires
pass_region-is_passed-requires c =
    let kept = layer_kept c.args.cost c.regions.region c.args.self.now c.regions.self c.requires c.regions.invariant.passed in
    let ok = c.args.self.now.graph.regions.homes.ok in
    record { layers = kept.layers; inside = subst (λ (g : Graph). c.regions.region < length g.regions.homes.items) (sym kept.graph) (omega (arith, c.regions-test.true, c.len-region-end.ensures)) }

pub regions-preserved : goal.regions-preserved
regions-preserved c =
    record {
      passed = layer_more c.args.cost c.regions.region c.args.self.now c.regions.self c.pass_region-is_passed.new.self c.regions.invariant.passed c.pass_region-is_passed.ensures.passed;
      same = same_still c.regions.any c.pass_region-is_passed.result c.args.self.now c.regions.self c.pass_region-is_passed.new.self c.regions.invariant.same c.pass_region-is_passed.ensures.same;
    }
