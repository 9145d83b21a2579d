use Rattle.std.proofs.Common.{◌≡◌, false}
use Rattle.pattern_search.specs.Layers.{IsLayerPassed}
use Rattle.pattern_search.proofs.layers.Layers.pass_layer.Given as goal

-- the first regions are passed
abbrev pub invariant-regions : goal.invariant-regions
invariant-regions l = record {
  passed : IsLayerPassed l.cost l.region l.initial.self l.self;
  same : l.any ≡ false → l.self ≡ l.initial.self;
}
