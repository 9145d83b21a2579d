use Rattle.std.proofs.Common.{ℕ, ◌<◌, length, get_or}
use Rattle.pattern_index.specs.Groups.{GroupModel}
use Rattle.lower_bound.specs.Consecutive.{AreConsecutive}
use Rattle.lower_bound.proofs.consecutive.has_consecutive_groups.Given as goal

-- the groups before the place have consecutive tiles
abbrev pub invariant-groups : goal.invariant-groups
invariant-groups l = (k : ℕ) (d : GroupModel) → k < l.place → k < length l.groups → AreConsecutive (get_or l.groups k d).tiles
