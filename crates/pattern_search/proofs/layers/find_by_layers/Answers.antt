use Rattle.std.proofs.Common.{◌+◌, refl, sym, subst, inl, inr, arith}
use Rattle.pattern_search.specs.declared.layers.Layers.{Layers}
use Rattle.pattern_search.proofs.LayerLemmas.{IsLayered, layered_first, layered_next, layered_done}
use Rattle.pattern_search.proofs.layers.find_by_layers.Goals as goal
use Rattle.pattern_search.proofs.layers.find_by_layers.Goals.{then-layers-test+else-cost, else-layers-test}

pub layers-init : goal.layers-init
layers-init c = layered_first c.args.graph c.args.start c.args.weight c.requires.start.sound c.requires.same c.in_ok-layers.layers c.in_ok-layers.ensures

pub layers-preserved : goal.layers-preserved
layers-preserved c =
    let m : Layers = c.pass_layer-any.new.self in
    subst (λ (x : Layers). IsLayered c.args.graph c.args.start c.args.weight (c.layers.cost + c.args.weight) c.pass_layer-any.result x)
    (λ i. record { graph = m.graph; values = m.values; seen = m.seen; now = sym c.swap.ensures.x_after i; next = sym c.swap.ensures.y_after i })
    (layered_next c.args.graph c.args.start c.args.weight c.requires.start.sound c.requires.same c.layers.cost c.layers.any c.pass_layer-any.result c.layers.layers m
    c.if-cost.true c.layers.invariant c.pass_layer-any.ensures.passed c.pass_layer-any.ensures.same)

pub returns : goal.returns
returns c =
    layered_done c.args.graph c.args.start c.args.weight c.requires.start.sound c.requires.same c.layers.cost c.layers.any c.layers.layers _ c.layers.invariant
    (elim c.layers-test.branch [ then-layers-test+else-cost w ↦ inr (omega arith) | else-layers-test w ↦ inl w.layers-test.false ]) refl refl
