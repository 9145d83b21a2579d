use Rattle.std.proofs.Common.{◌≡◌, ◌*◌, ◌≤◌, take, sum_by}
use Rattle.pattern_index.specs.Groups.{size_of}
use Rattle.pattern_index.specs.declared.group.TheConstants.{MAX_SIZE}
use Rattle.table_sets.proofs.building.count_views.Given as goal

abbrev pub invariant-groups : goal.invariant-groups
invariant-groups l = record {
  is : l.views ≡ sum_by size_of (take l.group-index l.groups);
  high : l.views ≤ MAX_SIZE * l.group-index;
}
