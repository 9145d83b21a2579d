use Rattle.std.proofs.Common.{◌≡◌}
use Rattle.std.specs.Prelude.{All}
use Rattle.bench_searches.proofs.kernels.words.add_groups.Given as goal

abbrev pub invariant-counts : goal.invariant-counts
invariant-counts l = All (λ g. g.grid ≡ l.shape) l.groups.items
