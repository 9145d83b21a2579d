use Rattle.std.proofs.Common.{◌<◌, ◌≡◌, [], length, inl, inr, refl, sym, subst, ◌∙◌, arith}
use Rattle.std.proofs.lemmas.Result.{on_ok_weaker, on_err_weaker}
use Rattle.world_model.specs.ThreadParts.{Keeps}
use Rattle.thread_parts.specs.Rings.{left_lanes}
use Rattle.thread_parts.specs.Parts.{part_state, role_of_part}
use Rattle.thread_parts.proofs.PartLemmas.{answered, receives, none_received, in_kept, with_in, left_at, at_empty, deliver_by_ring, none_seen, in_count, holds_after}
use Rattle.worker_core.specs.Workers.{state_of}
use Rattle.thread_parts.proofs.part.Part.deliver.Goals as goal

pub returns-clause-step : goal.returns-clause-step
returns-clause-step g c =
    let old = c.args.self.now in
    let from = c.args.from in
    let worker = c.deliver.new.self in
    let end = c.index_mut-lane.result.now in
    let end' = c.deliver.new.lane in
    let here = c.index_mut-lane.ensures.value in
    let count = in_count g.S.Spread.owner_of g.C.Tokens.workers old c.requires.holds in
    let there : from < length old.ins.items = omega (arith, count, c.requires.there) in
    deliver_by_ring (left_lanes old.ins.items) from (part_state old) (part_state (with_in old from worker end end' here)) c.deliver.result
    (λ is. left_at old.ins.items from end there here ∙ none_seen c.deliver.result end end' (state_of old.worker) (state_of worker) c.deliver.ensures.refused c.deliver.ensures.step is)
    (on_ok_weaker c.deliver.result (λ has. (has.room, receives old from worker end end' here there has)) c.deliver.ensures.given)
    (on_err_weaker c.deliver.result (λ same. (none_received old from worker end end' here same.0 same.1, c.deliver.ensures.step [] [] (at_empty end end' same.0))) c.deliver.ensures.refused)

pub returns-clause-part : goal.returns-clause-part
returns-clause-part g c =
    let old = c.args.self.now in
    let n = g.C.Tokens.workers in
    let owner_of = g.S.Spread.owner_of in
    let from = c.args.from in
    let worker = c.deliver.new.self in
    let lane = c.index_mut-lane.result.now in
    let here = c.index_mut-lane.ensures.value in
    let count = in_count owner_of n old c.requires.holds in
    let there : from < length old.ins.items = omega (arith, count, c.requires.there) in
    let new = with_in old from worker lane c.deliver.new.lane here in
    let ring : c.deliver.new.lane.ring ≡ c.index_mut-lane.result.now.ring = elim (answered c.deliver.result c.deliver.ensures.given c.deliver.ensures.refused) [
      | inl has ↦ has.given.0
      | inr same ↦ same.0.0
    ] in
    record {
      holds = holds_after owner_of n old c.requires.holds new refl refl (elim (answered c.deliver.result c.deliver.ensures.given c.deliver.ensures.refused) [
        | inl has ↦ c.steps_are_kept.ensures.receive n from (role_of_part owner_of n old) (part_state old) (part_state new) c.requires.holds.role c.requires.there c.requires.holds.keeps (receives old from worker lane c.deliver.new.lane here there has)
        | inr same ↦ subst (Keeps n (role_of_part owner_of n old)) (sym (none_received old from worker lane c.deliver.new.lane here same.0 same.1)) c.requires.holds.keeps
      ]) c.deliver.ensures.lists c.requires.holds.found;
      kept = in_kept c.args.self.now c.args.from c.deliver.new.self c.index_mut-lane.result.now c.deliver.new.lane c.index_mut-lane.ensures.value ring;
    }

pub returns-clause-seen : goal.returns-clause-seen
returns-clause-seen g c refused =
    let old = c.args.self.now in
    let from = c.args.from in
    let end = c.index_mut-lane.result.now in
    let count = in_count g.S.Spread.owner_of g.C.Tokens.workers old c.requires.holds in
    let there : from < length old.ins.items = omega (arith, count, c.requires.there) in
    left_at old.ins.items from end there c.index_mut-lane.ensures.value
    ∙ none_seen c.deliver.result end c.deliver.new.lane (state_of old.worker) (state_of c.deliver.new.self) c.deliver.ensures.refused c.deliver.ensures.step refused
