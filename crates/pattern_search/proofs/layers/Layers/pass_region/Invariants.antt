use Rattle.std.proofs.Common.{◌≡◌, false}
use Rattle.pattern_search.specs.Layers.{IsRegionPassed}
use Rattle.pattern_search.proofs.layers.Layers.pass_region.Given as goal

-- the first places are passed
abbrev pub invariant-words : goal.invariant-words
invariant-words l = record {
  passed : IsRegionPassed l.region l.cost l.place l.initial.self l.self;
  same : l.any ≡ false → l.self ≡ l.initial.self;
}
