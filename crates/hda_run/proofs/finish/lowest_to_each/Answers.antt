use Rattle.std.proofs.Common.{rules, ◌≡◌, ℕ, Some, length, ◌<◌, refl, subst}
use Rattle.std.specs.Prelude.{slice_get}
use Rattle.std.proofs.lemmas.Option.{slice_get_read}
use Rattle.lower_bound.specs.Bounds.{sum_of}
use Rattle.lower_bound.specs.Tables.{parts_of}
use Rattle.world_ends.specs.Lowest.{IsLeastBeside}
use Rattle.hda_run.specs.Lanes.{IsInLane}
use Rattle.hda_run.proofs.LowestLemmas.{IsOfFirst, one_more, all_first, one_of}
use Rattle.hda_run.proofs.finish.lowest_to_each.Goals as goal

pub lowest_in_lane-least-requires : goal.lowest_in_lane-least-requires
lowest_in_lane-least-requires c =
    let within : c.receivers.to < length c.args.lanes.now = search rules in
    let at : slice_get c.args.lanes.now c.receivers.to ≡ Some c.index-lanes-to.result = slice_get_read c.args.lanes.now (length c.args.lanes.now) c.receivers.to c.index-lanes-to.result refl within c.index-lanes-to.is in
    λ packet. c.requires c.index-lanes-to.result packet (one_of c.args.lanes.now c.receivers.to c.index-lanes-to.result at)

pub receivers-preserved : goal.receivers-preserved
receivers-preserved c =
    let within : c.receivers.to < length c.args.lanes.now = search rules in
    let at : slice_get c.args.lanes.now c.receivers.to ≡ Some c.index-lanes-to.result = slice_get_read c.args.lanes.now (length c.args.lanes.now) c.receivers.to c.index-lanes-to.result refl within c.index-lanes-to.is in
    one_more (IsInLane (sum_of (parts_of c.args.bound.now))) c.args.lanes.now c.receivers.to c.index-lanes-to.result c.args.lowest c.receivers.least c.lowest_in_lane-least.result at c.receivers.invariant c.lowest_in_lane-least.ensures

pub returns : goal.returns
returns c =
    let IsOf = IsInLane (sum_of (parts_of c.args.bound.now)) in
    let e : c.receivers.to ≡ length c.args.lanes.now = search rules in
    all_first IsOf c.args.lanes.now c.args.lowest c.receivers.least (subst (λ (k : ℕ). IsLeastBeside (IsOfFirst k IsOf c.args.lanes.now) c.args.lowest c.receivers.least) e c.receivers.invariant)
