use Rattle.std.proofs.Common.{subst}
use Rattle.world_model.specs.Turns.{refusal_in, turn}
use Rattle.world_model.specs.Workers.{Role}
use Rattle.worker_core.specs.Settling.{SettleOrDrop}
use Rattle.worker_core.specs.Workers.{state_of}
use Rattle.worker_core.proofs.GuideLemmas.{stays_guided}
use Rattle.thread_parts.specs.Parts.{part_state, role_of_part}
use Rattle.thread_parts.proofs.PartLemmas.{role_is, guided_after, with_kept, settled_kept}
use Rattle.thread_parts.proofs.part.Part.settle.Goals as goal

pub returns-clause-step : goal.returns-clause-step
returns-clause-step g c =
    let old = c.args.self.now in
    let same = role_is g.S.Spread.owner_of g.C.Tokens.workers old c.requires c.workers-workers.result c.workers-workers.ensures c.context.result c.context.ensures.value in
    subst (λ (r : Role). SettleOrDrop r (turn (state_of old.worker) (refusal_in c.settle.result) (state_of c.settle.new.self))) same (c.settle.ensures.step old.job.now.start)

pub returns-clause-part : goal.returns-clause-part
returns-clause-part g c =
    let old = c.args.self.now in
    let n = g.C.Tokens.workers in
    let role = role_of_part g.S.Spread.owner_of n old in
    let same = role_is g.S.Spread.owner_of n old c.requires c.workers-workers.result c.workers-workers.ensures c.context.result c.context.ensures.value in
    let step = subst (λ (r : Role). SettleOrDrop r (turn (state_of old.worker) (refusal_in c.settle.result) (state_of c.settle.new.self))) same (c.settle.ensures.step old.job.now.start) in
    let stays = stays_guided c.context.result old.worker.lists c.settle.new.self.lists c.settle.ensures.keeps.lists in
    with_kept g.S.Spread.owner_of n old c.requires c.settle.new.self
    (settled_kept c.steps_are_kept.ensures.settle c.steps_are_kept.ensures.drop n role (part_state old) (refusal_in c.settle.result) (state_of c.settle.new.self) c.requires.role c.requires.keeps step)
    (guided_after g.S.Spread.owner_of n old c.requires c.workers-workers.result c.workers-workers.ensures c.context.result c.context.ensures.value c.settle.new.self stays)
