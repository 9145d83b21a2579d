use Rattle.std.proofs.Common.{◌<◌, length, sym, subst, arith}
use Rattle.pattern_graph.specs.declared.graph.Graph.{Graph}
use Rattle.pattern_search.specs.declared.layers.NodeSet.{NodeSet}
use Rattle.pattern_search.proofs.LayerLemmas.{region_kept, region_more, same_still}
use Rattle.pattern_search.proofs.layers.Layers.pass_region.Goals as goal

pub pass_word-is_passed-requires-clause-layers : goal.pass_word-is_passed-requires-clause-layers
pass_word-is_passed-requires-clause-layers c =
    let kept = region_kept c.args.region c.args.cost c.words.place c.args.self.now c.words.self c.requires.layers c.words.invariant.passed in
    record { layers = kept.layers; inside = subst (λ (g : Graph). c.args.region < length g.regions.homes.items) (sym kept.graph) c.requires.inside }

pub pass_word-is_passed-requires-clause-place : goal.pass_word-is_passed-requires-clause-place
pass_word-is_passed-requires-clause-place c =
    let kept = region_kept c.args.region c.args.cost c.words.place c.args.self.now c.words.self c.requires.layers c.words.invariant.passed in
    subst (λ (s : NodeSet). c.words.place < s.width) (sym kept.now) (omega (arith, c.words-test.true, c.width-place-end.ensures))

pub words-preserved : goal.words-preserved
words-preserved c =
    record {
      passed = region_more c.args.region c.args.cost c.words.place c.args.self.now c.words.self c.pass_word-is_passed.new.self c.words.invariant.passed c.pass_word-is_passed.ensures.passed;
      same = same_still c.words.any c.pass_word-is_passed.result c.args.self.now c.words.self c.pass_word-is_passed.new.self c.words.invariant.same c.pass_word-is_passed.ensures.same;
    }
