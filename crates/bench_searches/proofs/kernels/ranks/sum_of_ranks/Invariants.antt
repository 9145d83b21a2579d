use Rattle.std.proofs.Common.{◌≤◌, ◌*◌}
use Rattle.pattern_index.specs.declared.group.TheConstants.{MAX_SIZE}
use Rattle.bench_searches.proofs.kernels.ranks.sum_of_ranks.Given as goal

-- each rank adds less than the greatest size of a group
abbrev pub invariant-ranks : goal.invariant-ranks
invariant-ranks l = l.sum ≤ MAX_SIZE * l.counter
