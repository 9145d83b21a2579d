use Rattle.std.proofs.Common.{rules, ◌≡◌, ℕ, ◌<◌, Some, length, subst}
use Rattle.std.specs.Prelude.{slice_get}
use Rattle.std.proofs.lemmas.List.{length-map}
use Rattle.lower_bound.specs.Bounds.{sum_of}
use Rattle.lower_bound.specs.Tables.{parts_of}
use Rattle.worker_core.specs.Workers.{state_of}
use Rattle.world_ends.specs.Lowest.{IsLeastBeside}
use Rattle.world_ends.proofs.PartLemmas.{IsOfUnsentUpTo, packet_at, packet_more, all_packets}
use Rattle.world_ends.proofs.lowest.lowest_unsent.Goals as goal

pub lowest_of-least-requires : goal.lowest_of-least-requires
lowest_of-least-requires g c =
    let worker = state_of c.args.worker.now in
    let inside : c.packets.to < length c.args.worker.now.unsent.items = search rules in
    let within : c.packets.to < length worker.unsent = simp length-map inside in
    c.requires.unsent c.packets.to c.unsent.result.now (packet_at worker.unsent c.packets.to c.unsent.result.now within c.unsent.ensures.value)

pub packets-preserved : goal.packets-preserved
packets-preserved g c =
    let worker = state_of c.args.worker.now in
    let inside : c.packets.to < length c.args.worker.now.unsent.items = search rules in
    let within : c.packets.to < length worker.unsent = simp length-map inside in
    let at : slice_get worker.unsent c.packets.to ≡ Some c.unsent.result.now = packet_at worker.unsent c.packets.to c.unsent.result.now within c.unsent.ensures.value in
    packet_more (sum_of (parts_of c.args.bound.now)) worker c.packets.to c.unsent.result.now c.args.lowest c.packets.least c.lowest_of-least.result at c.packets.invariant c.lowest_of-least.ensures

pub returns : goal.returns
returns g c =
    let worker = state_of c.args.worker.now in
    let sum = sum_of (parts_of c.args.bound.now) in
    let ended : c.packets.to ≡ length c.args.worker.now.unsent.items = search rules in
    let e : c.packets.to ≡ length worker.unsent = simp length-map ended in
    all_packets sum worker c.args.lowest c.packets.least (subst (λ (k : ℕ). IsLeastBeside (IsOfUnsentUpTo k sum worker) c.args.lowest c.packets.least) e c.packets.invariant)
