use Rattle.std.proofs.Common.{◌≡◌, length}
use Rattle.bench_searches.proofs.kernels.sums.shuffled.Given as goal

abbrev pub invariant-places : goal.invariant-places
invariant-places l = length l.numbers ≡ 25
