use Rattle.std.proofs.Common.{◌≡◌, [], replicate, vec_len}
use Rattle.std.specs.Prelude.{vec_capacity}
use Rattle.hda_run.proofs.opening.lanes_to_each.Given as goal

-- `count` empty lanes, and there is room for all
abbrev pub invariant-workers : goal.invariant-workers
invariant-workers l = (l.made.items ≡ replicate l.count []) × (vec_len l.made ≡ l.count) × (vec_capacity l.made ≡ l.fn.workers)
