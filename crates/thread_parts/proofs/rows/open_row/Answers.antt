use Rattle.std.proofs.Common.{rules, ℕ, arith, ◌≡◌, ◌<◌, ◌∷◌, ◌++◌, [], length, ap, sym, ◌∙◌}
use Rattle.std.proofs.lemmas.List.{get_or-map}
use Rattle.thread_parts.specs.Rings.{Ring, SenderModel, IsRoomBetween, room_of, in_rings, received_lanes, rings_of_ins}
use Rattle.thread_parts.proofs.GridLemmas.{length_end, row_below, row_above, nil_pushed, nil_rows, each_pushed}
use Rattle.thread_parts.proofs.rows.open_row.Goals as goal

pub workers-preserved : goal.workers-preserved
workers-preserved g c =
    let inv = c.workers.invariant in
    let xs = c.workers.ins.items in
    let x = c.index_mut.result.now in
    let q = c.add_ring.new.ins in
    let outs = c.workers.outs.items in
    let sender = c.in_ok-sender.sender in
    let ends = c.in_ok-sender.ensures in
    let base = rings_of_ins c.args.ins.now.items in
    let to = c.workers.to in
    let inside : to < length xs = search rules in
    let len : length outs ≡ to = search rules in
    let here = c.index_mut.ensures.value in
    let read = ap (λ row. in_rings row.items) here ∙ sym (get_or-map (λ row. in_rings row.items) xs to x [] inside) in
    let e : c.push.new.items.items ≡ outs ++ sender ∷ [] = search rules in
    let more = ap length e ∙ length_end outs sender in (
      search rules,
      omega (arith, more, len, c.push.new.items.ok.0),
      rw e (row_below (λ row. in_rings row.items) (λ (out : SenderModel). out.ring) xs base outs to x q sender inside len ends.rings inv.2 (inv.3 to (omega arith)) read),
      row_above (λ row. in_rings row.items) (λ (out : SenderModel). out.ring) xs base outs to x q sender inside len ends.rings inv.3,
      rw e (nil_pushed (λ (out : SenderModel). out.sent) outs sender ends.sent inv.4),
      rw e (each_pushed (λ (k : ℕ) (ring : Ring). IsRoomBetween c.args.from k (room_of ring)) (λ (out : SenderModel). out.ring) outs sender inv.5 (rw (len, ends.room) c.room_between.ensures.room)),
      (λ given. nil_rows (λ row. received_lanes row.items) xs to x q inside here ends.received (inv.6 given)),
    )
