use Rattle.std.specs.Prelude.{Vec}
use Rattle.std.specs.declared.alloc.Global.{Global}
use Rattle.lower_bound.specs.Bounds.{sum_of}
use Rattle.lower_bound.specs.Tables.{parts_of}
use Rattle.world_model.specs.Workers.{Lane}
use Rattle.world_ends.specs.Lowest.{IsLeastBeside}
use Rattle.hda_run.specs.Lanes.{IsInLanes}
use Rattle.hda_run.proofs.LowestLemmas.{IsOfFirst}
use Rattle.hda_run.proofs.finish.lowest_in_lanes.Given as goal

-- the least beside the lanes of the senders so far
abbrev pub invariant-senders : goal.invariant-senders
invariant-senders l = IsLeastBeside (IsOfFirst l.from (λ (to_each : Vec Lane Global). IsInLanes (sum_of (parts_of l.bound)) to_each.items) l.lanes) l.fn.lowest l.least
