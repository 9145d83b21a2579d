use Rattle.std.proofs.Common.{◌<◌, length, subst, ap, arith}
use Rattle.world_model.specs.Worlds.{IsLane}
use Rattle.hda_run.specs.declared.parts.Parts.{Parts}
use Rattle.hda_run.specs.Worlds.{world_of}
use Rattle.hda_run.proofs.PartsLemmas.{row_count, lane_count, is_lane}
use Rattle.hda_run.proofs.world.World.lane.Goals as goal

pub index-requires : goal.index-requires
index-requires g c =
    let owner_of = g.S.Spread.owner_of in
    let parts = c.self.inside.parts in
    let row = c.index-to_each.result.now in
    let same = ap (λ (p : Parts g.row.S.Denot). length p.workers.items) c.self.view_is in
    let rows = row_count owner_of parts c.self.invariant.lawful.shaped in
    let row_in : c.args.from < length parts.lanes.items = omega (arith, rows, same, c.requires.sender) in
    let lanes = lane_count owner_of parts c.args.from c.args.to row row_in c.index-to_each.ensures c.self.invariant.lawful.shaped in
    omega (arith, lanes, same, c.requires.receiver, row.ok.0)

pub returns : goal.returns
returns g c =
    let owner_of = g.S.Spread.owner_of in
    let parts = c.self.inside.parts in
    let row = c.index-to_each.result.now in
    let same = ap (λ (p : Parts g.row.S.Denot). length p.workers.items) c.self.view_is in
    let rows = row_count owner_of parts c.self.invariant.lawful.shaped in
    let row_in : c.args.from < length parts.lanes.items = omega (arith, rows, same, c.requires.sender) in
    let lanes = lane_count owner_of parts c.args.from c.args.to row row_in c.index-to_each.ensures c.self.invariant.lawful.shaped in
    let lane_in : c.args.to < length row.items = omega (arith, lanes, same, c.requires.receiver) in
    subst (λ (p : Parts g.row.S.Denot). IsLane (world_of owner_of p) c.args.from c.args.to c.index.result.now) c.self.view_is
    (is_lane owner_of parts c.args.from c.args.to row row_in c.index-to_each.ensures c.index.result.now lane_in c.index.ensures)
