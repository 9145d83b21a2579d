use Rattle.std.proofs.Common.{◌≡◌, [], map, replicate, vec_len}
use Rattle.std.specs.Prelude.{vec_capacity}
use Rattle.hda_run.proofs.opening.empty_lanes.Given as goal

-- `count` rows of empty lanes, and there is room for all
abbrev pub invariant-workers : goal.invariant-workers
invariant-workers l = (map (λ to_each. to_each.items) l.made.items ≡ replicate l.count (replicate l.fn.workers [])) × (vec_len l.made ≡ l.count) × (vec_capacity l.made ≡ l.fn.workers)
