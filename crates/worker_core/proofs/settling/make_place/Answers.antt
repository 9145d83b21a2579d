use Rattle.std.proofs.Common.{◌≡◌, ◌<◌, ◌≤◌, ap, arith}
use Rattle.std.proofs.lemmas.Result.{on_err_weaker, on_ok_weaker}
use Rattle.closed_table.specs.Tables.{ClosedModel}
use Rattle.open_buckets.specs.OpenLists.{places_at}
use Rattle.worker_core.proofs.settling.make_place.Goals as goal

pub returns-clause-made : goal.returns-clause-made
returns-clause-made c =
    let room = c.in_ok-reserve_boards.ensures.ok in
    let same : c.reserve_places.new.self.closed.room ≡ c.reserve_boards.new.self.closed.room = ap (λ (t : ClosedModel). t.room) c.reserve_places.ensures.boards in
    on_ok_weaker c.reserve_places.result
    (λ (place : 1 ≤ places_at c.reserve_places.new.self.waiting c.args.f). (omega (arith, room, same), omega (arith, place)))
    c.reserve_places.ensures.ok

-- places that are missing once there is room for the board were missing before
pub returns-clause-refused : goal.returns-clause-refused
returns-clause-refused c =
    let no_less = c.reserve_boards.ensures.same.places c.args.f in
    on_err_weaker c.reserve_places.result
    (λ (few : places_at c.reserve_boards.new.self.waiting c.args.f < 1) has. (let here = has.1 in omega (arith, few, here, no_less)))
    c.reserve_places.ensures.refused
