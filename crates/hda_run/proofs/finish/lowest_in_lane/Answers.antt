use Rattle.std.proofs.Common.{rules, ◌≡◌, ℕ, Some, length, ◌<◌, refl, sym, subst}
use Rattle.std.specs.Prelude.{slice_get}
use Rattle.std.proofs.lemmas.Option.{slice_get_read}
use Rattle.lower_bound.specs.Bounds.{sum_of}
use Rattle.lower_bound.specs.Tables.{parts_of}
use Rattle.world_ends.specs.Lowest.{IsLeastBeside, IsOfItem}
use Rattle.hda_run.proofs.LowestLemmas.{IsOfFirst, one_more, all_first, one_of}
use Rattle.hda_run.proofs.finish.lowest_in_lane.Goals as goal

pub lowest_of-least-requires : goal.lowest_of-least-requires
lowest_of-least-requires c =
    let within : c.packets.at < length c.args.lane.now = search rules in
    let at : slice_get c.args.lane.now c.packets.at ≡ Some c.packet.result.now = slice_get_read c.args.lane.now (length c.args.lane.now) c.packets.at c.packet.result.now refl within (sym (c.packet.ensures.value c.packet.result.now)) in
    c.requires c.packet.result.now (one_of c.args.lane.now c.packets.at c.packet.result.now at)

pub packets-preserved : goal.packets-preserved
packets-preserved c =
    let within : c.packets.at < length c.args.lane.now = search rules in
    let at : slice_get c.args.lane.now c.packets.at ≡ Some c.packet.result.now = slice_get_read c.args.lane.now (length c.args.lane.now) c.packets.at c.packet.result.now refl within (sym (c.packet.ensures.value c.packet.result.now)) in
    one_more (IsOfItem (sum_of (parts_of c.args.bound.now))) c.args.lane.now c.packets.at c.packet.result.now c.args.lowest c.packets.least c.lowest_of-least.result at c.packets.invariant c.lowest_of-least.ensures

pub returns : goal.returns
returns c =
    let IsOf = IsOfItem (sum_of (parts_of c.args.bound.now)) in
    let e : c.packets.at ≡ length c.args.lane.now = search rules in
    all_first IsOf c.args.lane.now c.args.lowest c.packets.least (subst (λ (k : ℕ). IsLeastBeside (IsOfFirst k IsOf c.args.lane.now) c.args.lowest c.packets.least) e c.packets.invariant)
