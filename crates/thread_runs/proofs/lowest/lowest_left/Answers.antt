use Rattle.std.proofs.Common.{rules, arith, ◌≡◌, length, refl, subst, sym}
use Rattle.lower_bound.specs.Bounds.{sum_of}
use Rattle.lower_bound.specs.Tables.{parts_of}
use Rattle.world_model.specs.Workers.{Packet}
use Rattle.world_ends.specs.Lowest.{IsLeastBeside, IsOfItem, AreItemsOn}
use Rattle.thread_runs.proofs.WorldLemmas.{so_far_none, so_far_more, so_far_all, so_far_next}
use Rattle.thread_runs.proofs.TakenLemmas.{nothing}
use Rattle.thread_runs.proofs.lowest.lowest_left.Goals as goal

pub packets-init : goal.packets-init
packets-init g c = record {
  count = omega arith;
  least = so_far_none (IsOfItem (sum_of (parts_of c.args.bound.now))) c.args.receiver.left c.args.lowest c.args.receiver.left refl;
}

pub lowest_of-least-requires : goal.lowest_of-least-requires
lowest_of-least-requires g c =
    let packet = c.pop_left-packet.result in
    let has = so_far_next (IsOfItem (sum_of (parts_of c.args.bound.now))) c.args.receiver.left c.args.lowest packet c.packets.receiver.left c.pop_left-packet.new.self.left c.packets.least c.pop_left-packet.ensures.left c.packets.invariant.least in
    subst (λ (items : Packet). AreItemsOn c.args.bound.now.split.grid items) (sym c.items.ensures.value) (c.requires packet has)

pub packets-preserved : goal.packets-preserved
packets-preserved g c =
    let IsOf = IsOfItem (sum_of (parts_of c.args.bound.now)) in
    let packet = c.pop_left-packet.result in
    let here : IsLeastBeside (IsOf packet) c.packets.least c.lowest_of-least.result = subst (λ (items : Packet). IsLeastBeside (IsOf items) c.packets.least c.lowest_of-least.result) c.items.ensures.value c.lowest_of-least.ensures in
    record {
      count = search rules;
      least = so_far_more IsOf c.args.receiver.left c.args.lowest packet c.packets.receiver.left c.pop_left-packet.new.self.left c.packets.least c.lowest_of-least.result c.pop_left-packet.ensures.left c.packets.invariant.least here;
    }

pub returns : goal.returns
returns g c =
    let none : length c.packets.receiver.left ≡ 0 = omega (arith, c.packets-test.false, c.left-taken-end.ensures.value, c.packets.invariant.count) in
    so_far_all (IsOfItem (sum_of (parts_of c.args.bound.now))) c.args.receiver.left c.args.lowest c.packets.receiver.left c.packets.least (nothing c.packets.receiver.left none) c.packets.invariant.least
