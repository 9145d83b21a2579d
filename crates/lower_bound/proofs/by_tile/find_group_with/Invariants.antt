use Rattle.std.proofs.Common.{ℕ, ◌<◌, length, get_or}
use Rattle.std.specs.Prelude.{Contains}
use Rattle.pattern_index.specs.Groups.{GroupModel}
use Rattle.lower_bound.proofs.by_tile.find_group_with.Given as goal

-- none of the groups before has the tile
abbrev pub invariant-groups : goal.invariant-groups
invariant-groups l = (k : ℕ) (d : GroupModel) → k < l.place → k < length l.groups → ¬ Contains (get_or l.groups k d).tiles l.tile
