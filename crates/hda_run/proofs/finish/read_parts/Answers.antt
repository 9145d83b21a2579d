use Rattle.std.proofs.Common.{List, sym, ap, ◌∙◌, subst}
use Rattle.lower_bound.specs.Bounds.{sum_of}
use Rattle.lower_bound.specs.Tables.{BoundModel, parts_of}
use Rattle.board.specs.Boards.{BoardModel}
use Rattle.outcomes.specs.Outcomes.{Task}
use Rattle.worker_core.specs.Roles.{guide_of}
use Rattle.world_ends.specs.Parts.{AreWorkersGuided, states_of}
use Rattle.hda_run.specs.Jobs.{task_in}
use Rattle.hda_run.specs.Worlds.{world_of}
use Rattle.hda_run.proofs.PartsLemmas.{W, states_in_place}
use Rattle.hda_run.proofs.LowestLemmas.{items_in_lanes, lowest_is, lanes_in, same_task, has_parts}
use Rattle.hda_run.proofs.finish.read_parts.Goals as goal

pub lowest_in_lanes-requires : goal.lowest_in_lanes-requires
lowest_in_lanes-requires g c =
    items_in_lanes (world_of g.S.Spread.owner_of c.args.parts) c.deref.result.now c.bound.result.now.split.grid c.requires.shaped (ap lanes_in c.deref.ensures.value) c.bound.ensures.sides

pub read-answer-requires-after_bounds : goal.read-answer-requires-after_bounds
read-answer-requires-after_bounds g c κs within =
    let p = c.args.parts.job in
    let asked = c.asked_in-asked in
    let same = same_task p asked.result.start asked.result.goal asked.result.weights asked.result.bound.now asked.ensures.start asked.ensures.goal asked.ensures.weights asked.ensures.bound in
    record {
      sides = ap (λ (tables : BoundModel). tables.split.grid) (asked.ensures.bound ∙ sym c.bound.ensures.value) ∙ c.bound.ensures.sides ∙ ap (λ (b : BoardModel). b.grid) (sym asked.ensures.goal);
      guide = guide_of (task_in p);
      guided = subst (λ (task : Task). AreWorkersGuided task (guide_of (task_in p)) c.deref_mut.result.now) (sym same) (subst (λ (workers : List W). AreWorkersGuided (task_in p) (guide_of (task_in p)) workers) (sym c.deref_mut.ensures.value) c.requires.guided);
      world = world_of g.S.Spread.owner_of c.args.parts;
      parts = has_parts g.S.Spread.owner_of c.args.parts _ c.deref_mut.result.now same c.deref_mut.ensures.value c.requires;
    }

pub returns-clause-given : goal.returns-clause-given
returns-clause-given g c =
    let p = c.args.parts.job in
    let w = world_of g.S.Spread.owner_of c.args.parts in
    let asked = c.asked_in-asked in
    let same = same_task p asked.result.start asked.result.goal asked.result.weights asked.result.bound.now asked.ensures.start asked.ensures.goal asked.ensures.weights asked.ensures.bound in
    c.read-answer.ensures.given w (record {
      parts = has_parts g.S.Spread.owner_of c.args.parts _ c.deref_mut.result.now same c.deref_mut.ensures.value c.requires;
      lanes = lowest_is w c.deref.result.now (sum_of (parts_of c.bound.result.now)) c.lowest_in_lanes.result (ap lanes_in c.deref.ensures.value) (ap (λ (tables : BoundModel). sum_of (parts_of tables)) c.bound.ensures.value) c.lowest_in_lanes.ensures;
      stop = sym c.stop.ensures.value;
    })

pub returns-clause-lists : goal.returns-clause-lists
returns-clause-lists g c = λ worker one.
    let same = c.read-answer.ensures.same ∙ ap (λ (workers : List W). states_of workers) c.deref_mut.ensures.value in
    c.hand_out.ensures worker (states_in_place c.args.parts.workers c.read-answer.new.workers same ∙ one)
