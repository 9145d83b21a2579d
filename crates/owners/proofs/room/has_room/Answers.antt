use Rattle.std.proofs.Common.{rules, ◌≡◌, ◌≢◌, ℕ, ◌+◌, ◌<◌, ◌≤◌, List, [], length, map, get_or, sym, ap, ◌∙◌, subst, ⊎_elim, arith}
use Rattle.std.proofs.lemmas.Bool.{cases_eq}
use Rattle.std.proofs.lemmas.List.{get_or-map}
use Rattle.arrayvec.specs.ArrayVec.{ArrayVec}
use Rattle.world_model.specs.declared.limits.TheConstants.{PACKET_LIMIT}
use Rattle.world_model.specs.declared.parts.Item.{Item}
use Rattle.owners.specs.Room.{go}
use Rattle.owners.proofs.room.has_room.Goals as goal

abbrev items_of : ArrayVec Item → List Item
items_of packet = packet.items

-- a packet's own type says that it has no more items than fit
pub packets-preserved : goal.packets-preserved
packets-preserved c = λ k lt.
    let packets = c.args.unsent.now in
    let me = c.args.me in
    let offers = c.args.offers.now in
    let inside : c.packets.to < length packets = search rules in
    let room : length c.index-unsent-to.result.items + go me c.packets.to offers ≤ PACKET_LIMIT = search rules in
    let read : get_or (map items_of packets) c.packets.to [] ≡ c.index-unsent-to.result.items = get_or-map items_of packets c.packets.to c.index-unsent-to.result [] inside ∙ ap items_of (sym c.index-unsent-to.is) in
    ⊎_elim
    (λ (here : k ≡ c.packets.to). subst (λ (to : ℕ). length (get_or (map items_of packets) to []) + go me to offers ≤ PACKET_LIMIT) (sym here) (subst (λ (items : List Item). length items + go me c.packets.to offers ≤ PACKET_LIMIT) (sym read) room))
    (λ (other : k ≢ c.packets.to). c.packets.invariant k (omega (arith, lt, other)))
    (cases_eq k c.packets.to)
