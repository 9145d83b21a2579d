use Rattle.std.proofs.Common.{◌≡◌, length}
use Rattle.std.specs.Prelude.{All}
use Rattle.pattern_index.specs.Views.{IsView}
use Rattle.bench_searches.specs.declared.kernels.ranks.TheConstants.{DRAWN}
use Rattle.bench_searches.proofs.kernels.ranks.draw_views.Given as goal

-- each is a view of the group
abbrev pub invariant-views : goal.invariant-views
invariant-views l = (length l.views ≡ DRAWN) × All (λ view. IsView l.group.grid l.group.tiles view) l.views
