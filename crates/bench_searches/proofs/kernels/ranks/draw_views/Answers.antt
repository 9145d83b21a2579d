use Rattle.std.proofs.Common.{refl}
use Rattle.std.proofs.lemmas.List.Elements.{All-replicate}
use Rattle.pattern_index.specs.Views.{IsView}
use Rattle.bench_searches.specs.declared.kernels.ranks.TheConstants.{DRAWN}
use Rattle.bench_searches.proofs.kernels.ranks.draw_views.Goals as goal

pub views-init : goal.views-init
views-init c = (refl, All-replicate (λ view. IsView c.args.group.now.grid c.args.group.now.tiles view) DRAWN c.unrank-views.result c.unrank-views.ensures.view)
