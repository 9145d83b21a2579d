use Rattle.std.proofs.Common.{rules, ◌≡◌, ℕ, List, Some, length, ◌<◌, refl, subst}
use Rattle.std.specs.Prelude.{slice_get, Contains, Vec}
use Rattle.std.specs.declared.alloc.Global.{Global}
use Rattle.std.proofs.lemmas.Option.{slice_get_read}
use Rattle.lower_bound.specs.Bounds.{sum_of}
use Rattle.lower_bound.specs.Tables.{parts_of}
use Rattle.world_model.specs.Workers.{Lane}
use Rattle.world_ends.specs.Lowest.{IsLeastBeside}
use Rattle.hda_run.specs.Lanes.{IsInLanes}
use Rattle.hda_run.proofs.LowestLemmas.{IsOfFirst, one_more, all_first, one_of}
use Rattle.hda_run.proofs.finish.lowest_in_lanes.Goals as goal

pub lowest_to_each-least-requires : goal.lowest_to_each-least-requires
lowest_to_each-least-requires c =
    let within : c.senders.from < length c.args.lanes.now = search rules in
    let at : slice_get c.args.lanes.now c.senders.from ≡ Some c.index-lanes-from.result = slice_get_read c.args.lanes.now (length c.args.lanes.now) c.senders.from c.index-lanes-from.result refl within c.index-lanes-from.is in
    λ lane packet has. c.requires c.index-lanes-from.result lane packet (one_of c.args.lanes.now c.senders.from c.index-lanes-from.result at) (subst (λ (lanes : List Lane). Contains lanes lane) c.deref.ensures.value has)

pub senders-preserved : goal.senders-preserved
senders-preserved c =
    let sum = sum_of (parts_of c.args.bound.now) in
    let within : c.senders.from < length c.args.lanes.now = search rules in
    let at : slice_get c.args.lanes.now c.senders.from ≡ Some c.index-lanes-from.result = slice_get_read c.args.lanes.now (length c.args.lanes.now) c.senders.from c.index-lanes-from.result refl within c.index-lanes-from.is in
    let here : IsLeastBeside (IsInLanes sum c.index-lanes-from.result.items) c.senders.least c.lowest_to_each-least.result = subst (λ (lanes : List Lane). IsLeastBeside (IsInLanes sum lanes) c.senders.least c.lowest_to_each-least.result) c.deref.ensures.value c.lowest_to_each-least.ensures in
    one_more (λ (to_each : Vec Lane Global). IsInLanes sum to_each.items) c.args.lanes.now c.senders.from c.index-lanes-from.result c.args.lowest c.senders.least c.lowest_to_each-least.result at c.senders.invariant here

pub returns : goal.returns
returns c =
    let IsOf = λ (to_each : Vec Lane Global). IsInLanes (sum_of (parts_of c.args.bound.now)) to_each.items in
    let e : c.senders.from ≡ length c.args.lanes.now = search rules in
    all_first IsOf c.args.lanes.now c.args.lowest c.senders.least (subst (λ (k : ℕ). IsLeastBeside (IsOfFirst k IsOf c.args.lanes.now) c.args.lowest c.senders.least) e c.senders.invariant)
