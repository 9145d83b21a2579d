use Rattle.std.proofs.Common.{rules, ◌≡◌, ◌≢◌, ◌-◌, [], ◌∷◌, ◌++◌, length, refl, sym, ap, ◌∙◌, subst, inl, inr, arith}
use Rattle.world_model.specs.Workers.{Packet, packet_for}
use Rattle.worker_core.specs.Workers.{state_of, at_lane, packets_of}
use Rattle.worker_core.proofs.GuideLemmas.{nothing, packet_at, packet_read, packet_back}
use Rattle.worker_core.proofs.worker.Worker.send.Goals as goal

pub returns-then-is_empty-clause-step : goal.returns-then-is_empty-clause-step
returns-then-is_empty-clause-step g c = λ before after lane.
    let xs = c.args.self.now.unsent.items in
    let p = c.index.result.now.items in
    let there = packet_at xs c.args.to [] ∙ packet_read xs c.args.to c.index.result.now [] c.requires.there c.index.ensures in
    let zero : length c.index.result.now.items ≡ 0 = search rules in
    inl (there ∙ nothing p zero, (refl, ap (at_lane (state_of c.args.self.now)) (lane.kept (g.L.LaneOut.reflexive c.args.lane.now))))

pub returns-then-amount-lt2-clause-step : goal.returns-then-amount-lt2-clause-step
returns-then-amount-lt2-clause-step g c = λ before after lane.
    let xs = c.args.self.now.unsent.items in
    let there = packet_at xs c.args.to [] ∙ packet_read xs c.args.to c.index.result.now [] c.requires.there c.index.ensures in
    let some : c.index.result.now.items ≢ [] = search rules in
    inr (
      λ none. some (sym there ∙ none),
      inl (omega (arith, c.if-amount-lt2.true, c.amount.ensures), (refl, ap (at_lane (state_of c.args.self.now)) (lane.kept (g.L.LaneOut.reflexive c.args.lane.now)))),
    )

pub returns-in-Err-clause-step : goal.returns-in-Err-clause-step
returns-in-Err-clause-step g c = λ before after lane.
    let xs = c.args.self.now.unsent.items in
    let to = c.args.to in
    let there = packet_at xs to [] ∙ packet_read xs to c.index.result.now [] c.requires.there c.index.ensures in
    let some : c.index.result.now.items ≢ [] = search rules in
    let items = c.open-items.ensures.items ∙ c.in-Err.ensures.back ∙ c.seal-packet.ensures.items ∙ c.take_packet-items.ensures.items in
    let left = c.take_packet-items.ensures.left in
    let put = c.put_packet.ensures in
    let unsent = put ∙ packet_back (packets_of xs) (packets_of c.take_packet-items.new.packets.items) to c.open-items.result.items left items in
    let purse : c.open-items.new.purse ≡ c.args.self.now.purse = omega (arith, c.open-items.ensures.purse, c.seal-packet.ensures.purse) in
    inr (
      λ none. some (sym there ∙ none),
      inr (
        omega (arith, c.if-amount-lt2.false, c.amount.ensures),
        inl (lane.full c.in-Err.ensures.full, (refl, λ t. at_lane (record (state_of c.args.self.now) { unsent = unsent t; purse = purse t }) (lane.kept c.in-Err.ensures.kept t))),
      ),
    )

pub returns-clause-step : goal.returns-clause-step
returns-clause-step g c = λ before after lane.
    let xs = c.args.self.now.unsent.items in
    let to = c.args.to in
    let there = packet_at xs to [] ∙ packet_read xs to c.index.result.now [] c.requires.there c.index.ensures in
    let some : c.index.result.now.items ≢ [] = search rules in
    let took = lane.taken c.seal-packet.result c.in_default.ensures.ok in
    let left = c.take_packet-items.ensures.left in
    let packet : c.seal-packet.result ≡ packet_for (state_of c.args.self.now) to = c.seal-packet.ensures.items ∙ c.take_packet-items.ensures.items ∙ sym (packet_at xs to []) in
    let purse : c.seal-packet.new.purse ≡ c.args.self.now.purse - 1 = omega (arith, c.seal-packet.ensures.purse) in
    let sent = took.1 ∙ ap (λ (q : Packet). before ++ q ∷ []) packet in
    inr (
      λ none. some (sym there ∙ none),
      inr (
        omega (arith, c.if-amount-lt2.false, c.amount.ensures),
        inr (took.0, (refl, λ t. at_lane (record (state_of c.args.self.now) { unsent = left t; purse = purse t }) (sent t))),
      ),
    )

pub returns-then-is_empty-clause-refused : goal.returns-then-is_empty-clause-refused
returns-then-is_empty-clause-refused g c = (g.L.LaneOut.reflexive c.args.lane.now, refl)

pub returns-then-amount-lt2-clause-refused : goal.returns-then-amount-lt2-clause-refused
returns-then-amount-lt2-clause-refused g c = (g.L.LaneOut.reflexive c.args.lane.now, refl)

pub returns-in-Err-clause-refused : goal.returns-in-Err-clause-refused
returns-in-Err-clause-refused g c =
    let packets = packets_of c.args.self.now.unsent.items in
    let items = c.open-items.ensures.items ∙ c.in-Err.ensures.back ∙ c.seal-packet.ensures.items ∙ c.take_packet-items.ensures.items in
    let left = c.take_packet-items.ensures.left in
    let unsent = c.put_packet.ensures ∙ packet_back packets (packets_of c.take_packet-items.new.packets.items) c.args.to c.open-items.result.items left items in
    let purse : c.open-items.new.purse ≡ c.args.self.now.purse = omega (arith, c.open-items.ensures.purse, c.seal-packet.ensures.purse) in
    (c.in-Err.ensures.kept, λ t. record (state_of c.args.self.now) { unsent = unsent t; purse = purse t })

pub returns-clause-sent : goal.returns-clause-sent
returns-clause-sent g c =
    let xs = c.args.self.now.unsent.items in
    let to = c.args.to in
    let there = packet_at xs to [] ∙ packet_read xs to c.index.result.now [] c.requires.there c.index.ensures in
    let some : c.index.result.now.items ≢ [] = search rules in
    let left = c.take_packet-items.ensures.left in
    let packet : c.seal-packet.result ≡ packet_for (state_of c.args.self.now) to = c.seal-packet.ensures.items ∙ c.take_packet-items.ensures.items ∙ sym (packet_at xs to []) in
    let purse : c.seal-packet.new.purse ≡ c.args.self.now.purse - 1 = omega (arith, c.seal-packet.ensures.purse) in
    record {
      some = λ none. some (sym there ∙ none);
      funds = omega (arith, c.if-amount-lt2.false, c.amount.ensures);
      taken = subst (λ (p : Packet). g.L.LaneOut.takes c.args.lane.now p c.push.new.self) packet c.in_default.ensures.ok;
      worker = λ t. record (state_of c.args.self.now) { unsent = left t; purse = purse t };
    }
