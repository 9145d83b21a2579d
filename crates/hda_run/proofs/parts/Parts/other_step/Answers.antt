use Rattle.std.proofs.Common.{◌∙◌, ◌<◌, length, inl, inr, refl, subst, sym, arith}
use Rattle.world_model.specs.BookSteps.{DrawStep, AnnounceStep, GrantStep, RestStep, HaltStep}
use Rattle.world_model.specs.Turns.{refusal_in, turn}
use Rattle.world_model.specs.Workers.{Role}
use Rattle.world_model.specs.WorkerSteps.{SettleStep, SendStep, DeliverStep}
use Rattle.world_model.specs.Worlds.{role_of}
use Rattle.world_model.specs.declared.steps.Step.TheVariants.{Settle, Send, Deliver, Draw, Announce, Grant, Rest, Halt}
use Rattle.worker_core.specs.Roles.{guide_of}
use Rattle.worker_core.specs.Settling.{SettleOrDrop}
use Rattle.worker_core.specs.Workers.{state_of}
use Rattle.worker_core.proofs.GuideLemmas.{own_settles, stays_guided}
use Rattle.hda_run.specs.Jobs.{task_in}
use Rattle.hda_run.specs.Worlds.{world_of}
use Rattle.hda_run.proofs.PartsLemmas.{none_lacks, below, is_worker, by_worker, on_book, on_lane, role_is, guided_after, is_guided, set_guided, same_guided, grants_counted, purse_funded, some_unsent, owner_is, unsent_count, row_count, lane_count, are_two}
use Rattle.hda_run.proofs.parts.Parts.other_step.Goals as goal

-- no item that a worker of the world holds is foreign
pub returns-in-Settle : goal.returns-in-Settle
returns-in-Settle g c =
    let old = c.args.self.now in
    let owner_of = g.S.Spread.owner_of in
    let worker = c.index_mut.result.now in
    let at = c.index_mut.ensures.value in
    let me = c.in-Settle.me in
    let within = below old.workers c.len-count.result c.in-Settle.me c.len-count.ensures (none_lacks c.len-count.result c.args.step (Settle c.in-Settle.me) c.lacks.result c.lacks.ensures c.if-lacks.false c.in-Settle.is) in
    let count = c.len-count.ensures ∙ old.workers.ok.0 in
    let context = c.context-context in
    let role = role_of (world_of owner_of old) me in
    let same = role_is owner_of old me worker within at c.len-count.result count context.result context.ensures.value in
    let it = turn (state_of worker) (refusal_in c.settle.result) (state_of c.settle.new.self) in
    let step = subst (λ (r : Role). SettleOrDrop r it) same (c.settle.ensures.step old.job.start) in
    let held = (c.requires.lawful.shaped.workers me (state_of worker) (is_worker owner_of old me worker within at)).held in
    let stays = stays_guided context.result worker.lists c.settle.new.self.lists c.settle.ensures.keeps.lists in
    record {
      step = rw c.in-Settle.is
          (by_worker owner_of old me worker within at SettleStep (refusal_in c.settle.result) c.settle.new.self (own_settles role it held step));
      guided = guided_after owner_of old me worker within at c.len-count.result count context.result context.ensures.value c.settle.new.self stays c.requires.lawful.guided;
      job = refl;
      owners = refl;
    }

pub index_mut-requires-in-Send-2 : goal.index_mut-requires-in-Send-2
index_mut-requires-in-Send-2 g c =
    let old = c.args.self.now in
    let owner_of = g.S.Spread.owner_of in
    let row = c.index_mut-to_each in
    let two = none_lacks c.len-count.result c.args.step (Send c.in-Send.me c.in-Send.to) c.lacks.result c.lacks.ensures c.if-lacks.false c.in-Send.is in
    let low = below old.workers c.len-count.result c.in-Send.me c.len-count.ensures (λ past. two (inr (inl past))) in
    let high = below old.workers c.len-count.result c.in-Send.to c.len-count.ensures (λ past. two (inr (inr past))) in
    let rows = row_count owner_of old c.requires.lawful.shaped in
    let row_in : c.in-Send.me < length old.lanes.items = omega (arith, rows, low) in
    let lanes = lane_count owner_of old c.in-Send.me c.in-Send.to row.result.now row_in row.ensures.value c.requires.lawful.shaped in
    omega (arith, lanes, high, row.result.now.ok.0)

pub send_on-requires : goal.send_on-requires
send_on-requires g c =
    let old = c.args.self.now in
    let owner_of = g.S.Spread.owner_of in
    let row = c.index_mut-to_each in
    let two = none_lacks c.len-count.result c.args.step (Send c.in-Send.me c.in-Send.to) c.lacks.result c.lacks.ensures c.if-lacks.false c.in-Send.is in
    let low = below old.workers c.len-count.result c.in-Send.me c.len-count.ensures (λ past. two (inr (inl past))) in
    let high = below old.workers c.len-count.result c.in-Send.to c.len-count.ensures (λ past. two (inr (inr past))) in
    let rows = row_count owner_of old c.requires.lawful.shaped in
    let row_in : c.in-Send.me < length old.lanes.items = omega (arith, rows, low) in
    let lanes = lane_count owner_of old c.in-Send.me c.in-Send.to row.result.now row_in row.ensures.value c.requires.lawful.shaped in
    let lists = unsent_count owner_of old c.in-Send.me c.index_mut-in-Send.result.now low c.index_mut-in-Send.ensures.value c.requires.lawful.shaped in
    omega (arith, lists, high)

pub returns-in-Send : goal.returns-in-Send
returns-in-Send g c =
    let old = c.args.self.now in
    let owner_of = g.S.Spread.owner_of in
    let row = c.index_mut-to_each in
    let two = none_lacks c.len-count.result c.args.step (Send c.in-Send.me c.in-Send.to) c.lacks.result c.lacks.ensures c.if-lacks.false c.in-Send.is in
    let low = below old.workers c.len-count.result c.in-Send.me c.len-count.ensures (λ past. two (inr (inl past))) in
    let high = below old.workers c.len-count.result c.in-Send.to c.len-count.ensures (λ past. two (inr (inr past))) in
    let rows = row_count owner_of old c.requires.lawful.shaped in
    let row_in : c.in-Send.me < length old.lanes.items = omega (arith, rows, low) in
    let lanes = lane_count owner_of old c.in-Send.me c.in-Send.to row.result.now row_in row.ensures.value c.requires.lawful.shaped in
    let lane_in : c.in-Send.to < length row.result.now.items = omega (arith, lanes, high) in
    record {
      step = rw c.in-Send.is
          (on_lane owner_of old c.in-Send.me c.in-Send.to row.result.now row_in row.ensures.value c.index_mut-in-Send-2.result.now lane_in c.index_mut-in-Send-2.ensures.value
          c.in-Send.me c.index_mut-in-Send.result.now low c.index_mut-in-Send.ensures.value (are_two owner_of old c.in-Send.me c.in-Send.to (λ same. two (inl same)) low high)
          (SendStep c.in-Send.to) (refusal_in c.send_on.result) c.send_on.new.worker c.send_on.new.lane c.send_on.ensures.step);
      guided = same_guided owner_of old c.in-Send.me c.index_mut-in-Send.result.now low c.index_mut-in-Send.ensures.value c.send_on.new.worker c.send_on.ensures.lists c.requires.lawful.guided;
      job = refl;
      owners = refl;
    }

pub index_mut-requires-in-Deliver-2 : goal.index_mut-requires-in-Deliver-2
index_mut-requires-in-Deliver-2 g c =
    let old = c.args.self.now in
    let owner_of = g.S.Spread.owner_of in
    let row = c.index_mut-to_each-in-Deliver in
    let two = none_lacks c.len-count.result c.args.step (Deliver c.in-Deliver.me c.in-Deliver.from) c.lacks.result c.lacks.ensures c.if-lacks.false c.in-Deliver.is in
    let low = below old.workers c.len-count.result c.in-Deliver.from c.len-count.ensures (λ past. two (inr (inl past))) in
    let high = below old.workers c.len-count.result c.in-Deliver.me c.len-count.ensures (λ past. two (inr (inr past))) in
    let rows = row_count owner_of old c.requires.lawful.shaped in
    let row_in : c.in-Deliver.from < length old.lanes.items = omega (arith, rows, low) in
    let lanes = lane_count owner_of old c.in-Deliver.from c.in-Deliver.me row.result.now row_in row.ensures.value c.requires.lawful.shaped in
    omega (arith, lanes, high, row.result.now.ok.0)

pub returns-in-Deliver : goal.returns-in-Deliver
returns-in-Deliver g c =
    let old = c.args.self.now in
    let owner_of = g.S.Spread.owner_of in
    let row = c.index_mut-to_each-in-Deliver in
    let two = none_lacks c.len-count.result c.args.step (Deliver c.in-Deliver.me c.in-Deliver.from) c.lacks.result c.lacks.ensures c.if-lacks.false c.in-Deliver.is in
    let low = below old.workers c.len-count.result c.in-Deliver.from c.len-count.ensures (λ past. two (inr (inl past))) in
    let high = below old.workers c.len-count.result c.in-Deliver.me c.len-count.ensures (λ past. two (inr (inr past))) in
    let rows = row_count owner_of old c.requires.lawful.shaped in
    let row_in : c.in-Deliver.from < length old.lanes.items = omega (arith, rows, low) in
    let lanes = lane_count owner_of old c.in-Deliver.from c.in-Deliver.me row.result.now row_in row.ensures.value c.requires.lawful.shaped in
    let lane_in : c.in-Deliver.me < length row.result.now.items = omega (arith, lanes, high) in
    record {
      step = rw c.in-Deliver.is
          (on_lane owner_of old c.in-Deliver.from c.in-Deliver.me row.result.now row_in row.ensures.value c.index_mut-in-Deliver-2.result.now lane_in c.index_mut-in-Deliver-2.ensures.value
          c.in-Deliver.me c.index_mut-in-Deliver.result.now high c.index_mut-in-Deliver.ensures.value (are_two owner_of old c.in-Deliver.from c.in-Deliver.me (λ same. two (inl same)) low high)
          DeliverStep (refusal_in c.deliver_from.result) c.deliver_from.new.worker c.deliver_from.new.lane c.deliver_from.ensures.step);
      guided = same_guided owner_of old c.in-Deliver.me c.index_mut-in-Deliver.result.now high c.index_mut-in-Deliver.ensures.value c.deliver_from.new.worker c.deliver_from.ensures.lists c.requires.lawful.guided;
      job = refl;
      owners = refl;
    }

pub draw-requires-clause-counted : goal.draw-requires-clause-counted
draw-requires-clause-counted g c κs =
    let old = c.args.self.now in
    let owner_of = g.S.Spread.owner_of in
    let worker = c.index_mut-in-Draw.result.now in
    let at = c.index_mut-in-Draw.ensures.value in
    let me = c.in-Draw.me in
    let within = below old.workers c.len-count.result c.in-Draw.me c.len-count.ensures (none_lacks c.len-count.result c.args.step (Draw c.in-Draw.me) c.lacks.result c.lacks.ensures c.if-lacks.false c.in-Draw.is) in
    purse_funded owner_of old me worker within at c.requires.lawful.credited

pub returns-in-Draw : goal.returns-in-Draw
returns-in-Draw g c =
    let old = c.args.self.now in
    let owner_of = g.S.Spread.owner_of in
    let worker = c.index_mut-in-Draw.result.now in
    let at = c.index_mut-in-Draw.ensures.value in
    let me = c.in-Draw.me in
    let within = below old.workers c.len-count.result c.in-Draw.me c.len-count.ensures (none_lacks c.len-count.result c.args.step (Draw c.in-Draw.me) c.lacks.result c.lacks.ensures c.if-lacks.false c.in-Draw.is) in
    record {
      step = rw c.in-Draw.is (on_book owner_of old me worker within at DrawStep (refusal_in c.draw.result) c.draw.new.self c.draw.new.book c.draw.ensures.step);
      guided = same_guided owner_of old me worker within at c.draw.new.self c.draw.ensures.keeps.lists c.requires.lawful.guided;
      job = refl;
      owners = refl;
    }

pub announce-requires-clause-some : goal.announce-requires-clause-some
announce-requires-clause-some g c κs _ =
    let old = c.args.self.now in
    let owner_of = g.S.Spread.owner_of in
    let worker = c.index_mut-in-Announce.result.now in
    let at = c.index_mut-in-Announce.ensures.value in
    let me = c.in-Announce.me in
    let within = below old.workers c.len-count.result c.in-Announce.me c.len-count.ensures (none_lacks c.len-count.result c.args.step (Announce c.in-Announce.me) c.lacks.result c.lacks.ensures c.if-lacks.false c.in-Announce.is) in
    some_unsent owner_of old me worker within at c.requires.lawful.shaped

pub returns-in-Announce : goal.returns-in-Announce
returns-in-Announce g c =
    let old = c.args.self.now in
    let owner_of = g.S.Spread.owner_of in
    let worker = c.index_mut-in-Announce.result.now in
    let at = c.index_mut-in-Announce.ensures.value in
    let me = c.in-Announce.me in
    let within = below old.workers c.len-count.result c.in-Announce.me c.len-count.ensures (none_lacks c.len-count.result c.args.step (Announce c.in-Announce.me) c.lacks.result c.lacks.ensures c.if-lacks.false c.in-Announce.is) in
    let role = role_of (world_of owner_of old) me in
    let owner = owner_is owner_of old me worker within at c.requires.lawful.shaped c.keyed_goal-goal.result.now in
    record {
      step = rw c.in-Announce.is
          (on_book owner_of old me worker within at (AnnounceStep role) (refusal_in c.announce.result) c.announce.new.self c.announce.new.book
          (c.announce.ensures.step role (record { me = refl; ends = sym c.keyed_goal-goal.ensures.value }) owner));
      guided = same_guided owner_of old me worker within at c.announce.new.self c.announce.ensures.keeps.lists c.requires.lawful.guided;
      job = refl;
      owners = refl;
    }

pub grant-requires-clause-counted : goal.grant-requires-clause-counted
grant-requires-clause-counted g c κs =
    let old = c.args.self.now in
    let owner_of = g.S.Spread.owner_of in
    let worker = c.index_mut-in-Grant.result.now in
    let at = c.index_mut-in-Grant.ensures.value in
    let me = c.in-Grant.me in
    let within = below old.workers c.len-count.result c.in-Grant.me c.len-count.ensures (none_lacks c.len-count.result c.args.step (Grant c.in-Grant.me) c.lacks.result c.lacks.ensures c.if-lacks.false c.in-Grant.is) in
    grants_counted owner_of old me worker within at c.requires.lawful.credited

pub returns-in-Grant : goal.returns-in-Grant
returns-in-Grant g c =
    let old = c.args.self.now in
    let owner_of = g.S.Spread.owner_of in
    let worker = c.index_mut-in-Grant.result.now in
    let at = c.index_mut-in-Grant.ensures.value in
    let me = c.in-Grant.me in
    let within = below old.workers c.len-count.result c.in-Grant.me c.len-count.ensures (none_lacks c.len-count.result c.args.step (Grant c.in-Grant.me) c.lacks.result c.lacks.ensures c.if-lacks.false c.in-Grant.is) in
    let role = role_of (world_of owner_of old) me in
    let task = task_in old.job in
    record {
      step = rw c.in-Grant.is
          (on_book owner_of old me worker within at (GrantStep role) (refusal_in c.grant.result) c.grant.new.self c.grant.new.book
          (c.grant.ensures.step role (guide_of (task_in old.job)) (is_guided owner_of old me worker within at c.requires.lawful.guided)));
      guided = set_guided owner_of old me worker within at c.grant.new.self (λ is. c.grant.ensures.keeps.guided task (guide_of task) is) c.requires.lawful.guided;
      job = refl;
      owners = refl;
    }

pub rest_by-requires-clause-counted : goal.rest_by-requires-clause-counted
rest_by-requires-clause-counted g c =
    let old = c.args.self.now in
    let owner_of = g.S.Spread.owner_of in
    let worker = c.index_mut-in-Rest.result.now in
    let at = c.index_mut-in-Rest.ensures.value in
    let me = c.in-Rest.me in
    let within = below old.workers c.len-count.result c.in-Rest.me c.len-count.ensures (none_lacks c.len-count.result c.args.step (Rest c.in-Rest.me) c.lacks.result c.lacks.ensures c.if-lacks.false c.in-Rest.is) in
    purse_funded owner_of old me worker within at c.requires.lawful.credited

pub returns-in-Rest : goal.returns-in-Rest
returns-in-Rest g c =
    let old = c.args.self.now in
    let owner_of = g.S.Spread.owner_of in
    let worker = c.index_mut-in-Rest.result.now in
    let at = c.index_mut-in-Rest.ensures.value in
    let me = c.in-Rest.me in
    let within = below old.workers c.len-count.result c.in-Rest.me c.len-count.ensures (none_lacks c.len-count.result c.args.step (Rest c.in-Rest.me) c.lacks.result c.lacks.ensures c.if-lacks.false c.in-Rest.is) in
    let role = role_of (world_of owner_of old) me in
    let task = task_in old.job in
    record {
      step = rw c.in-Rest.is
          (on_book owner_of old me worker within at (RestStep role) (refusal_in c.rest_by.result) c.rest_by.new.worker c.rest_by.new.book
          (c.rest_by.ensures.step role (guide_of (task_in old.job)) (record { me = refl; ends = sym c.keyed_goal-goal.ensures.value }) (is_guided owner_of old me worker within at c.requires.lawful.guided)));
      guided = set_guided owner_of old me worker within at c.rest_by.new.worker (λ is. c.rest_by.ensures.guided task (guide_of task) is) c.requires.lawful.guided;
      job = refl;
      owners = refl;
    }

pub returns-in-Halt : goal.returns-in-Halt
returns-in-Halt g c =
    let old = c.args.self.now in
    let owner_of = g.S.Spread.owner_of in
    let worker = c.index_mut-in-Halt.result.now in
    let at = c.index_mut-in-Halt.ensures.value in
    let me = c.in-Halt.me in
    let within = below old.workers c.len-count.result c.in-Halt.me c.len-count.ensures (none_lacks c.len-count.result c.args.step (Halt c.in-Halt.me c.in-Halt.cause) c.lacks.result c.lacks.ensures c.if-lacks.false c.in-Halt.is) in
    record {
      step = rw c.in-Halt.is (on_book owner_of old me worker within at (HaltStep c.in-Halt.cause) (refusal_in c.halt.result) c.halt.new.self c.halt.new.book c.halt.ensures.step);
      guided = same_guided owner_of old me worker within at c.halt.new.self c.halt.ensures.keeps.lists c.requires.lawful.guided;
      job = refl;
      owners = refl;
    }
