use Rattle.std.proofs.Common.{◌<◌, ◌≡◌, length, inl, inr, refl, sym, ap, subst, arith}
use Rattle.std.proofs.lemmas.Result.{on_ok_weaker, on_err_weaker}
use Rattle.thread_parts.specs.Rings.{SenderModel, out_rings}
use Rattle.world_model.specs.ThreadParts.{Keeps}
use Rattle.thread_parts.specs.Parts.{part_state, role_of_part}
use Rattle.thread_parts.proofs.PartLemmas.{answered, sends, none_sent, out_kept, with_out, full_lane, at_full, filled_at, ring_filled, send_by_ring, out_count, holds_after}
use Rattle.worker_core.specs.Workers.{state_of}
use Rattle.thread_parts.proofs.part.Part.send.Goals as goal

pub returns-clause-step : goal.returns-clause-step
returns-clause-step g c =
    let old = c.args.self.now in
    let to = c.args.to in
    let worker = c.send.new.self in
    let end = c.index_mut-lane.result.now in
    let end' = c.send.new.lane in
    let here = c.index_mut-lane.ensures.value in
    let count = out_count g.S.Spread.owner_of g.C.Tokens.workers old c.requires.holds in
    let there : to < length old.outs.items = omega (arith, count, c.requires.there) in
    send_by_ring (out_rings old.outs.items) to (part_state old) (part_state (with_out old to worker end end' here)) c.send.result
    (λ is. filled_at old.outs.items to end there here (ring_filled c.send.result to end end' (state_of old.worker) (state_of worker) c.send.ensures.refused c.send.ensures.step is))
    (on_ok_weaker c.send.result (λ has. sends old to worker end end' here there has) c.send.ensures.sent)
    (on_err_weaker c.send.result (λ same. (none_sent old to worker end end' here same.0 same.1, c.send.ensures.step full_lane full_lane (at_full end end' same.0))) c.send.ensures.refused)

pub returns-clause-full : goal.returns-clause-full
returns-clause-full g c refused =
    let old = c.args.self.now in
    let to = c.args.to in
    let end = c.index_mut-lane.result.now in
    let count = out_count g.S.Spread.owner_of g.C.Tokens.workers old c.requires.holds in
    let there : to < length old.outs.items = omega (arith, count, c.requires.there) in
    filled_at old.outs.items to end there c.index_mut-lane.ensures.value
    (ring_filled c.send.result to end c.send.new.lane (state_of old.worker) (state_of c.send.new.self) c.send.ensures.refused c.send.ensures.step refused)

pub returns-clause-part : goal.returns-clause-part
returns-clause-part g c =
    let old = c.args.self.now in
    let n = g.C.Tokens.workers in
    let owner_of = g.S.Spread.owner_of in
    let to = c.args.to in
    let worker = c.send.new.self in
    let lane = c.index_mut-lane.result.now in
    let here = c.index_mut-lane.ensures.value in
    let count = out_count owner_of n old c.requires.holds in
    let there : to < length old.outs.items = omega (arith, count, c.requires.there) in
    let new = with_out old to worker lane c.send.new.lane here in
    let ring : c.send.new.lane.ring ≡ c.index_mut-lane.result.now.ring = elim (answered c.send.result c.send.ensures.sent c.send.ensures.refused) [
      | inl has ↦ ap (λ (e : SenderModel). e.ring) has.taken
      | inr same ↦ ap (λ (e : SenderModel). e.ring) same.0
    ] in
    record {
      holds = holds_after owner_of n old c.requires.holds new refl refl (elim (answered c.send.result c.send.ensures.sent c.send.ensures.refused) [
        | inl has ↦ c.steps_are_kept.ensures.send n to (role_of_part owner_of n old) (part_state old) (part_state new) c.requires.holds.role c.requires.there c.requires.holds.keeps (sends old to worker lane c.send.new.lane here there has)
        | inr same ↦ subst (Keeps n (role_of_part owner_of n old)) (sym (none_sent old to worker lane c.send.new.lane here same.0 same.1)) c.requires.holds.keeps
      ]) c.send.ensures.lists c.requires.holds.found;
      kept = out_kept c.args.self.now c.args.to c.send.new.self c.index_mut-lane.result.now c.send.new.lane c.index_mut-lane.ensures.value ring;
    }
